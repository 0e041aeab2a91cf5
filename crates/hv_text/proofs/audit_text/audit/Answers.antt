use Rattle.std.proofs.Common.{◌≡◌, ℕ, ◌+◌, List, [], ◌∷◌, ◌++◌, length, codes, decimal, sym, append_assoc, append-nil, arith}
use Rattle.std.proofs.lemmas.List.{drop_all}
use Rattle.std.proofs.lemmas.Result.{err_from_is_err_and, on_ok_weaker}
use Rattle.hv_history.specs.History.{entries}
use Rattle.hv_history.specs.declared.entry.Entry.{Entry}
use Rattle.hv_text.specs.Audit.{audit_text, entries_text, entry_text}
use Rattle.hv_text.proofs.WrittenText.{drop-at, sent-all, sent-none}
use Rattle.hv_text.proofs.audit_text.audit.Goals as goal

module _ {A : Type 0} (n : ℕ) (es : List (Entry A)) (count : ℕ) (line : List ℕ) where
  -- the next line, and what is left after it
  opened : (rest : List (Entry A)) (entry : Entry A) → es ≡ entry ∷ rest → line ≡ entry_text n entry ++ codes "\n"
      → entries_text n es ++ codes "events " ++ decimal count ++ codes "\n" ≡ line ++ (entries_text (n + 1) rest ++ codes "events " ++ decimal count ++ codes "\n")
  opened rest entry is shown = rw (is, shown) (simp append_assoc)

  -- the last line, and nothing after it
  closed : es ≡ [] → line ≡ codes "events " ++ decimal count ++ codes "\n" → entries_text n es ++ codes "events " ++ decimal count ++ codes "\n" ≡ line ++ []
  closed is last = rw (is, last) (sym (append-nil _))

pub loop-at-init : goal.loop-at-init
unfolding audit_text
loop-at-init g c = record { sent = rw c.history-history.ensures.list (sent-none _ _); few = omega arith }

pub loop-at-preserved : goal.loop-at-preserved
loop-at-preserved g c =
    let next = opened (c.loop-at.at + 1) _ (length (entries c.history-history.result.now)) _ _ _ (drop-at (entries c.history-history.result.now) _ _ c.entry.ensures.entry) c.push_entry.ensures.text in
    record { sent = c.in_ok-put.ensures.ok _ _ _ (rw next at c.loop-at.invariant.sent); few = omega (arith, c.loop-at.invariant.few, c.put.ensures.few) }

pub returns-in_err-put-clause-cut : goal.returns-in_err-put-clause-cut
returns-in_err-put-clause-cut g c =
    let next = opened (c.loop-at.at + 1) _ (length (entries c.history-history.result.now)) _ _ _ (drop-at (entries c.history-history.result.now) _ _ c.entry.ensures.entry) c.push_entry.ensures.text in
    let p = err_from_is_err_and c.from_residual.result c.from_residual.ensures.1 in
    rw (p.1, p.2) (c.in_err-put.ensures.cut _ _ _ (rw next at c.loop-at.invariant.sent))

pub returns-clause-ok : goal.returns-clause-ok
returns-clause-ok g c =
    let past = drop_all c.loop-at.at (entries c.history-history.result.now) (omega (arith, c.len.ensures)) in
    let line = rw (c.push_named.ensures.text, c.clear-2.ensures, c.len.ensures) at c.push_text.ensures in
    on_ok_weaker c.put-2.result (sent-all _ _ _ _)
    (c.put-2.ensures.ok _ _ [] (rw (closed (c.loop-at.at + 1) _ (length (entries c.history-history.result.now)) _ past line) at c.loop-at.invariant.sent))

pub returns-clause-cut : goal.returns-clause-cut
returns-clause-cut g c =
    let past = drop_all c.loop-at.at (entries c.history-history.result.now) (omega (arith, c.len.ensures)) in
    let line = rw (c.push_named.ensures.text, c.clear-2.ensures, c.len.ensures) at c.push_text.ensures in
    c.put-2.ensures.cut _ _ [] (rw (closed (c.loop-at.at + 1) _ (length (entries c.history-history.result.now)) _ past line) at c.loop-at.invariant.sent)
