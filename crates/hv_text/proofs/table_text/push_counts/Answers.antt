use Rattle.std.proofs.Common.{append_assoc}
use Rattle.hv_text.proofs.table_text.push_counts.Goals as goal

pub returns-clause-text : goal.returns-clause-text
returns-clause-text g c =
    rw (c.push_named-6.ensures.text, c.push_named-5.ensures.text, c.push_named-4.ensures.text, c.push_named-3.ensures.text, c.push_named-2.ensures.text, c.push_named.ensures.text)
    (simp append_assoc (cc))
