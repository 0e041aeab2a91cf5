-- Receipts of groups, each group behind the one before it.
use Rattle.std.proofs.Common.{Bool, List, [], ◌∷◌, ◌++◌, refl, sym, subst, arith, All, Contains, Global}
use Rattle.std.proofs.lemmas.List.Elements.{All-append, All-nil, All-same, All-weaker}
use Rattle.hv_policy.specs.declared.event.Action.{Action}
use Rattle.hv_policy.specs.declared.event.Caller.{Caller}
use Rattle.hv_phases.specs.PassMap.{AreBehind, ArePast, IsWithin, Past, last_in, lines_in}
use Rattle.hv_phases.specs.Lines.{asked_by}
use Rattle.hv_phases.proofs.AskedOfProcessor.{All-first, All-second, asked_by-append, asked_by_none, whole-append}
use Rattle.hv_script.specs.declared.line.Line.{Line}
use Rattle.hv_shared.specs.declared.receipts.Receipt.{Receipt}
use Rattle.hv_threads.specs.Perform.{AreWhole}

-- the work of all groups was done
pub behind_whole : (by : Caller) (past : List Past) (receipts : List Receipt) → AreBehind by past receipts → AreWhole by (asked_by by (lines_in past)) receipts
behind_whole by [] receipts none = none
behind_whole by (group ∷ past) receipts some =
    subst (AreWhole by (asked_by by (lines_in past ++ group.lines))) (sym some.2)
    (subst (λ (acts : List (Action Global)). AreWhole by acts (some.0 ++ some.1)) (sym (asked_by-append by (lines_in past) group.lines))
    (whole-append by (asked_by by (lines_in past)) (asked_by by group.lines) some.0 some.1 (behind_whole by past some.0 some.3) some.4))

-- nothing was done by one that no line names
pub behind_none : (by : Caller) (callers : List Caller) (past : List Past) → All (λ line. Contains callers line.by) (lines_in past) → (Contains callers by → ⊥) → AreBehind by past []
behind_none by callers [] named none = refl
behind_none by callers (group ∷ past) named none =
    let P : Line Global → Type 0 = λ (l : Line Global). Contains callers l.by in
    let nothing = asked_by_none by callers group.lines (All-second P (lines_in past) group.lines named) none in
    let before = behind_none by callers past (All-first P (lines_in past) group.lines named) none in
    ([], [], refl, before, subst (λ (acts : List (Action Global)). AreWhole by acts []) (sym nothing) refl, All-nil (IsWithin (last_in past) group.last))

-- no number is above the highest one
pub behind_within : (serial : Bool) (by : Caller) (past : List Past) (receipts : List Receipt) → ArePast serial past → AreBehind by past receipts → All (IsWithin 0 (last_in past)) receipts
behind_within serial by [] receipts past none = All-same (IsWithin 0 0) receipts [] none (All-nil (IsWithin 0 0))
behind_within serial by (group ∷ past) receipts are some =
    let up = are.1 in
    All-same (IsWithin 0 group.last) receipts (some.0 ++ some.1) some.2
    (All-append (IsWithin 0 group.last) some.0 some.1
    (All-weaker (IsWithin 0 (last_in past)) (IsWithin 0 group.last) (λ r is. (is.0, omega (arith, up, is.1))) some.0 (behind_within serial by past some.0 are.2 some.3))
    (All-weaker (IsWithin (last_in past) group.last) (IsWithin 0 group.last) (λ r is. (omega (arith, is.0), is.1)) some.1 some.5))
