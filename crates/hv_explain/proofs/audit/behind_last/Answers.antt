use Rattle.std.proofs.Common.{◌≡◌, ◌<◌, ◌-◌, ℕ, List, ◌++◌, length, ap, ◌∙◌, subst, arith, append_assoc, Some, codes, slice_get, Global}
use Rattle.hv_explain.proofs.LastEntry.{last_is, some_then}
use Rattle.hv_explain.proofs.audit.behind_last.Goals as goal
use Rattle.hv_history.specs.History.{entry_by}
use Rattle.hv_history.specs.declared.entry.Entry.{Entry}
use Rattle.hv_text.specs.Audit.{entry_text}

pub returns : goal.returns
returns c =
    some_then c.behind.result _ _ c.behind.ensures
    (λ rest is before last all.
    let history = c.args.kept.now.history in
    let count = c.len-count.result in
    let count_is : count ≡ length history = c.len-count.ensures ∙ ap length c.history-history.ensures.list in
    let some : 0 < length history = c.requires in
    let there : slice_get history (count - 1) ≡ Some (entry_by c.entry-entry.result) =
    subst (λ (l : List (Entry Global)). slice_get l (count - 1) ≡ Some (entry_by c.entry-entry.result)) c.history-history.ensures.list c.entry-entry.ensures.entry in
    let same : entry_by c.entry-entry.result ≡ last = last_is history before last (entry_by c.entry-entry.result) (count - 1) all (omega (arith, count_is, some)) there in
    is ∙ ap (λ (l : List ℕ). l ++ rest.now) (c.audit_line-len.ensures.text ∙ (λ i. entry_text (count_is i) (same i) ++ codes "\n"))
    ∙ append_assoc (entry_text (length history) last) (codes "\n") rest.now)
