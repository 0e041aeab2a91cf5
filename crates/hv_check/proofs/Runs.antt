-- What a run fixes: the replies, and how a call continues.
use Rattle.std.proofs.Common.{◌≡◌, ◌+◌, List, [], ◌∷◌, ◌++◌, sym, ap, ◌∙◌, subst, arith, Global}
use Rattle.hv_abi.specs.declared.frame.Frame.{Frame}
use Rattle.hv_history.specs.Kept.{IsRun, Kept}
use Rattle.hv_history.specs.Row.{events_of, replies_of}
use Rattle.hv_history.specs.Run.{GoesOnAt, IsMore, start_of}
use Rattle.hv_history.specs.declared.entry.Entry.{Entry}
use Rattle.hv_invariants.proofs.Replies.{goes_on}
use Rattle.hv_policy.specs.Boot.{boot}
use Rattle.hv_policy.specs.Flat.{Flat}
use Rattle.hv_policy.specs.Next.{GoesOn}
use Rattle.hv_policy.specs.Step.{run, run_from, step}
use Rattle.hv_policy.specs.declared.event.Action.{Action}
use Rattle.hv_policy.specs.declared.event.Action.TheVariants.{Hypercall, ReadMsr, WriteMsr, ReadSlot, ClearSlot, ReadFlags, ClearFlag, TakeInterrupt}
use Rattle.hv_policy.specs.declared.event.Event.{Event}
use Rattle.hv_policy.specs.declared.reply.Reply.{Reply}
use Rattle.hv_policy.specs.declared.reply.Reply.TheVariants.{Served, More, Denied, Fault}
use Rattle.hv_check.proofs.RemainingActions.{Entries, IsInTurn}
use Rattle.hv_check.proofs.Phases.{AreInTurn}

call_turn : (frame : Frame Global) (reply : Reply) → GoesOn (Hypercall frame) reply → IsMore reply → GoesOnAt (start_of frame + 1) reply
call_turn frame (Served output) goes more = absurd more
call_turn frame (More next output) goes more = (goes.0, let same = goes.0 in let less = goes.1 in omega (arith, same, less))
call_turn frame (Denied rule status reps) goes more = absurd more
call_turn frame (Fault rule) goes more = absurd more

-- a reply that continues by the policy continues in turn
pub turn_by : (what : Action Global) (reply : Reply) → GoesOn what reply → IsInTurn what reply
turn_by (Hypercall frame) reply goes = call_turn frame reply goes
turn_by (ReadMsr msr) reply goes = tt
turn_by (WriteMsr msr value) reply goes = tt
turn_by (ReadSlot sint) reply goes = tt
turn_by (ClearSlot sint) reply goes = tt
turn_by (ReadFlags sint) reply goes = tt
turn_by (ClearFlag sint flag) reply goes = tt
turn_by TakeInterrupt reply goes = tt

module _ {X : Type 0} where
  first_same : (x y : X) (xs ys : List X) → x ∷ xs ≡ y ∷ ys → x ≡ y
  first_same x y xs ys same = cc

  rest_same : (x y : X) (xs ys : List X) → x ∷ xs ≡ y ∷ ys → xs ≡ ys
  rest_same x y xs ys same = cc

-- the replies of a run continue in turn
turns_from : (f : Flat) (es : Entries) → replies_of es ≡ (run_from f (events_of es)).1 → AreInTurn es
turns_from f [] is = tt
turns_from f (e ∷ es) is =
    let first : e.reply ≡ (step f e.event).1 = first_same e.reply (step f e.event).1 (replies_of es) (run_from (step f e.event).0 (events_of es)).1 is in (
      turn_by e.event.what e.reply (subst (GoesOn e.event.what) (sym first) (goes_on f e.event)),
      turns_from (step f e.event).0 es (rest_same e.reply (step f e.event).1 (replies_of es) (run_from (step f e.event).0 (events_of es)).1 is),
    )

pub in_turn : (k : Kept Global) → IsRun k → AreInTurn k.history
in_turn k is = turns_from (boot k.config) k.history is.replies

-- behind entries that are the same an event has one reply
reply_from : (f : Flat) (h : Entries) (e other : Entry Global) (more : Entries) → e.event ≡ other.event → replies_of (h ++ e ∷ more) ≡ (run_from f (events_of (h ++ e ∷ more))).1
    → replies_of (h ++ other ∷ []) ≡ (run_from f (events_of (h ++ other ∷ []))).1 → e.reply ≡ other.reply
reply_from f [] e other more same one two =
    first_same e.reply (step f e.event).1 (replies_of more) (run_from (step f e.event).0 (events_of more)).1 one ∙ ap (λ (event : Event Global). (step f event).1) same
    ∙ sym (first_same other.reply (step f other.event).1 [] [] two)
reply_from f (x ∷ h) e other more same one two =
    reply_from (step f x.event).0 h e other more same (rest_same x.reply (step f x.event).1 (replies_of (h ++ e ∷ more)) (run_from (step f x.event).0 (events_of (h ++ e ∷ more))).1 one)
    (rest_same x.reply (step f x.event).1 (replies_of (h ++ other ∷ [])) (run_from (step f x.event).0 (events_of (h ++ other ∷ []))).1 two)

pub one_reply : (a b : Kept Global) (h : Entries) (e other : Entry Global) (more : Entries) → IsRun a → IsRun b → a.config ≡ b.config → a.history ≡ h ++ e ∷ more → b.history ≡ h ++ other ∷ [] →
    e.event ≡ other.event
    → e.reply ≡ other.reply
one_reply a b h e other more run_a run_b config all own same =
    reply_from (boot b.config) h e other more same
    (subst (λ c. replies_of (h ++ e ∷ more) ≡ (run c (events_of (h ++ e ∷ more))).1) config (subst (λ (l : Entries). replies_of l ≡ (run a.config (events_of l)).1) all run_a.replies))
    (subst (λ (l : Entries). replies_of l ≡ (run b.config (events_of l)).1) own run_b.replies)
