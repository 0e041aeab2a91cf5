use Rattle.std.proofs.Common.{◌≡◌, ◌<◌, ◌-◌, ◌+◌, List, ◌++◌, length, ap, ◌∙◌, subst, arith, Some, codes, slice_get, Global}
use Rattle.hv_history.specs.History.{entry_by}
use Rattle.hv_history.specs.declared.entry.Entry.{Entry}
use Rattle.hv_text.specs.Audit.{entry_text}
use Rattle.hv_check.proofs.LastEntry.{last_is}
use Rattle.hv_check.proofs.own_line.OwnLine.put_last.Goals as goal

pub returns : goal.returns
returns c before last all =
    let history = c.args.kept.now.history in
    let count = c.len-count.result in
    let count_is : count ≡ length history = c.len-count.ensures ∙ ap length c.history-history.ensures.list in
    let some : 0 < length history = c.requires in
    let there : slice_get history (count - 1) ≡ Some (entry_by c.entry-entry.result) =
    subst (λ (l : List (Entry Global)). slice_get l (count - 1) ≡ Some (entry_by c.entry-entry.result)) c.history-history.ensures.list c.entry-entry.ensures.entry in
    let same : entry_by c.entry-entry.result ≡ last = last_is history before last (entry_by c.entry-entry.result) (count - 1) all (omega (arith, count_is, some)) there in
    c.audit_line-self-inside.ensures.text ∙ (λ i. entry_text (count_is i) (same i) ++ codes "\n")
