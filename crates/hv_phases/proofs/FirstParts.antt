-- First parts of what is asked.
use Rattle.std.proofs.Common.{ℕ, List, [], ◌∷◌, ◌++◌, refl, sym, ap, ◌∙◌, subst, append_assoc, inl, inr}
use Rattle.std.proofs.Common.{All, Global}
use Rattle.std.proofs.lemmas.List.Elements.{All-append, All-nil}
use Rattle.hv_policy.specs.declared.event.Action.{Action}
use Rattle.hv_policy.specs.declared.event.Action.TheVariants.{Hypercall, ReadMsr, WriteMsr, ReadSlot, ClearSlot, ReadFlags, ClearFlag, TakeInterrupt}
use Rattle.hv_policy.specs.declared.event.Caller.{Caller}
use Rattle.hv_phases.specs.Begun.{AreBegun}
use Rattle.hv_phases.proofs.AskedOfProcessor.{IsBy, elements_by, one_by}
use Rattle.hv_shared.specs.declared.receipts.Receipt.{Receipt}
use Rattle.hv_threads.specs.Perform.{AreWhole, IsStopped}
use Rattle.hv_threads.specs.Phase.{HasEnded, IsAccount}
use Rattle.hv_threads.specs.declared.phase.End.{End}
use Rattle.hv_threads.specs.declared.phase.End.TheVariants.{Finished, Host}

-- an action that was stopped at once
stopped_at_once : (by : Caller) (what : Action Global) → IsStopped by what []
stopped_at_once by (Hypercall frame) = record { now = frame; elements = refl }
stopped_at_once by (ReadMsr msr) = refl
stopped_at_once by (WriteMsr msr value) = refl
stopped_at_once by (ReadSlot sint) = refl
stopped_at_once by (ClearSlot sint) = refl
stopped_at_once by (ReadFlags sint) = refl
stopped_at_once by (ClearFlag sint flag) = refl
stopped_at_once by TakeInterrupt = refl

pub nothing_begun : (by : Caller) (acts : List (Action Global)) → AreBegun by acts []
nothing_begun by [] = refl
nothing_begun by (what ∷ more) = inl (stopped_at_once by what)

pub whole_begun : (by : Caller) (acts : List (Action Global)) (xs : List Receipt) → AreWhole by acts xs → AreBegun by acts xs
whole_begun by [] xs none = none
whole_begun by (a ∷ acts) xs some = inr (some.0, some.1, some.2, some.3, whole_begun by acts some.1 some.4)

-- whole actions, and then a first part of more
pub whole_and_begun : (by : Caller) (acts bs : List (Action Global)) (xs ys : List Receipt) → AreWhole by acts xs → AreBegun by bs ys
    → AreBegun by (acts ++ bs) (xs ++ ys)
whole_and_begun by [] bs xs ys none begun = subst (λ (l : List Receipt). AreBegun by bs (l ++ ys)) (sym none) begun
whole_and_begun by (a ∷ acts) bs xs ys some begun =
    inr (
      some.0,
      some.1 ++ ys,
      ap (λ (l : List Receipt). l ++ ys) some.2 ∙ append_assoc some.0 some.1 ys,
      some.3,
      whole_and_begun by acts bs some.1 ys some.4
          begun,
    )

-- a first part of some actions is one of these and more
pub begun_of_more : (by : Caller) (acts more : List (Action Global)) (xs : List Receipt) → AreBegun by acts xs → AreBegun by (acts ++ more) xs
begun_of_more by [] more xs none = subst (AreBegun by more) (sym none) (nothing_begun by more)
begun_of_more by (a ∷ acts) more xs (inl stopped) = inl stopped
begun_of_more by (a ∷ acts) more xs (inr some) = inr (some.0, some.1, some.2, some.3, begun_of_more by acts more some.1 some.4)

stopped_by : (by : Caller) (what : Action Global) (list : List Receipt) → IsStopped by what list → All (IsBy by) list
stopped_by by (Hypercall frame) list part = elements_by by frame list part.now part.elements
stopped_by by (ReadMsr msr) list none = subst (All (IsBy by)) (sym none) (All-nil (IsBy by))
stopped_by by (WriteMsr msr value) list none = subst (All (IsBy by)) (sym none) (All-nil (IsBy by))
stopped_by by (ReadSlot sint) list none = subst (All (IsBy by)) (sym none) (All-nil (IsBy by))
stopped_by by (ClearSlot sint) list none = subst (All (IsBy by)) (sym none) (All-nil (IsBy by))
stopped_by by (ReadFlags sint) list none = subst (All (IsBy by)) (sym none) (All-nil (IsBy by))
stopped_by by (ClearFlag sint flag) list none = subst (All (IsBy by)) (sym none) (All-nil (IsBy by))
stopped_by by TakeInterrupt list none = subst (All (IsBy by)) (sym none) (All-nil (IsBy by))

-- its receipts are by their caller
pub begun_by : (by : Caller) (acts : List (Action Global)) (list : List Receipt) → AreBegun by acts list → All (IsBy by) list
begun_by by [] list none = subst (All (IsBy by)) (sym none) (All-nil (IsBy by))
begun_by by (a ∷ acts) list (inl stopped) = stopped_by by a list stopped
begun_by by (a ∷ acts) list (inr some) =
    subst (All (IsBy by)) (sym some.2) (All-append (IsBy by) some.0 some.1 (one_by by a some.0 some.3) (begun_by by acts some.1 some.4))

ended_begun : (by : Caller) (end : End) (left : List (Action Global)) (part : List Receipt) → HasEnded by end left part → AreBegun by left part
ended_begun by Finished left part e = subst (λ (l : List (Action Global)). AreBegun by l part) (sym e.0) e.1
ended_begun by (Host why) [] part e = absurd e
ended_begun by (Host why) (what ∷ more) part e = inl e

-- what a thread did is a first part of its work
pub account_begun : (by : Caller) (acts : List (Action Global)) (done : ℕ) (end : End) (list : List Receipt) → IsAccount by acts done end list
    → AreBegun by acts list
account_begun by acts done end list a =
    subst (λ (all : List (Action Global)). AreBegun by all list) a.in_order
    (subst (AreBegun by (a.did ++ a.left)) (sym a.all) (whole_and_begun by a.did a.left a.whole a.part a.are_whole (ended_begun by end a.left a.part a.ended)))
