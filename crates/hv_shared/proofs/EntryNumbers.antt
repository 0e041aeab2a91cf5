-- Entries under their numbers.
use Rattle.std.proofs.Common.{◌≡◌, ℕ, suc, ◌+◌, List, [], ◌∷◌, ◌++◌, ◌∙◌, length, refl, ap, arith, All, map, Global}
use Rattle.std.proofs.lemmas.List.Elements.{All-cons, All-head, All-nil, All-tail}
use Rattle.hv_history.specs.declared.entry.Entry.{Entry}
use Rattle.hv_abi.specs.declared.frame.Frame.{Frame}
use Rattle.hv_history.specs.Row.{DifferInRcx, asking}
use Rattle.hv_history.specs.Run.{AreElements, element, restart, start_of}
use Rattle.hv_policy.specs.declared.event.Caller.{Caller}
use Rattle.hv_policy.specs.declared.event.Event.{Event}
use Rattle.hv_shared.specs.Drive.{entry_in}
use Rattle.hv_shared.specs.Pass.{receipt}
use Rattle.hv_shared.specs.Receipts.{numbered}
use Rattle.hv_shared.specs.declared.receipts.Receipt.{Receipt}

pub entries_in : (n : ℕ) (es : List (Entry Global)) → map entry_in (numbered n es) ≡ es
entries_in n [] = refl
entries_in n (e ∷ es) = ap (λ (xs : List (Entry Global)). e ∷ xs) (entries_in (n + 1) es)

pub count : (n : ℕ) (es : List (Entry Global)) → length (numbered n es) ≡ length es
count n [] = refl
count n (e ∷ es) = ap suc (count (n + 1) es)

pub numbered-push : (n : ℕ) (es : List (Entry Global)) (e : Entry Global) → numbered n (es ++ e ∷ []) ≡ numbered n es ++ receipt (n + length es) e.event e.reply ∷ []
numbered-push n [] e = ap (λ (m : ℕ). receipt m e.event e.reply ∷ []) (omega arith)
numbered-push n (x ∷ es) e =
    let place : n + 1 + length es ≡ n + suc (length es) = omega arith in
    ap (λ (rs : List Receipt). receipt n x.event x.reply ∷ rs) (numbered-push (n + 1) es e ∙ ap (λ (m : ℕ). numbered (n + 1) es ++ receipt m e.event e.reply ∷ []) place)

-- each event that differs from one by the caller in RCX alone is by the caller
pub owned : (event : Event Global) (es : List (Entry Global)) (n : ℕ) → DifferInRcx event es → All (λ (r : Receipt). r.event.by ≡ event.by) (numbered n es)
owned event [] n are = All-nil (λ (r : Receipt). r.event.by ≡ event.by)
owned event (e ∷ es) n are =
    All-cons (λ (r : Receipt). r.event.by ≡ event.by) (receipt n e.event e.reply) (numbered (n + 1) es)
    (ap (λ (x : Event Global). x.by) (All-head (λ (d : Entry Global). asking d.event 0 ≡ asking event 0) e es are))
    (owned event es (n + 1) (All-tail (λ (d : Entry Global). asking d.event 0 ≡ asking event 0) e es are))

-- the elements of a call differ in RCX alone
pub differ : (by : Caller) (frame : Frame Global) (es : List (Entry Global)) (now : Frame Global) → AreElements by frame es now → DifferInRcx (element by frame) es
differ by frame [] now is = All-nil (λ (d : Entry Global). asking d.event 0 ≡ asking (element by frame) 0)
differ by frame (e ∷ es) now is =
    All-cons (λ (d : Entry Global). asking d.event 0 ≡ asking (element by frame) 0) e es (ap (λ (x : Event Global). asking x 0) is.0)
    (differ by (restart frame (start_of frame + 1)) es now is.2)

-- and so does the one that is to be asked after them
pub differs : (by : Caller) (frame : Frame Global) (es : List (Entry Global)) (now : Frame Global) → AreElements by frame es now → asking (element by now) 0 ≡ asking (element by frame) 0
differs by frame [] now is = ap (λ (f : Frame Global). asking (element by f) 0) is
differs by frame (e ∷ es) now is = differs by (restart frame (start_of frame + 1)) es now is.2
