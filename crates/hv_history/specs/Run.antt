-- The elements of one call, one after another.
use Rattle.std.specs.Prelude.{ℕ, ◌≡◌, ◌+◌, ◌≤◌, ◌<◌, List, [], ◌∷◌, ◌++◌, length}
use Rattle.hv_abi.specs.InputValue.{input_value, restarted}
use Rattle.hv_abi.specs.declared.frame.Frame.{Frame}
use Rattle.hv_defs.specs.declared.sizes.TheConstants.{REPS_END}
use Rattle.hv_policy.specs.Next.{GoesOn}
use Rattle.hv_policy.specs.Result.{HasResult}
use Rattle.hv_policy.specs.Step.{NamesAsked}
use Rattle.hv_policy.specs.declared.event.Action.TheVariants.{Hypercall}
use Rattle.hv_policy.specs.declared.event.Caller.{Caller}
use Rattle.hv_policy.specs.declared.event.Event.{Event}
use Rattle.hv_policy.specs.declared.reply.Reply.{Reply}
use Rattle.hv_policy.specs.declared.reply.Reply.TheVariants.{More}
use Rattle.hv_history.specs.Kept.{Kept}
use Rattle.hv_history.specs.declared.entry.Entry.{Entry}

-- the start index of a frame
abbrev pub start_of : {A : Type 0} → Frame A → ℕ
start_of frame = (input_value frame.rcx).start

-- the call of a frame, from another element on
abbrev pub restart : {A : Type 0} → Frame A → ℕ → Frame A
restart frame next = record frame { rcx = restarted frame.rcx next }

-- the event in which this caller asks for the element at the frame's start index
abbrev pub element : {A : Type 0} → Caller → Frame A → Event A
element by frame = record { by = by; what = Hypercall frame }

-- the call continues after this reply
abbrev pub IsMore : Reply → Type 0
IsMore (More next output) = Unit {0}
IsMore reply = ⊥

-- the reply says that the call continues with the element at this index
abbrev pub GoesOnAt : ℕ → Reply → Type 0
GoesOnAt start (More next output) = (next ≡ start) × (start < REPS_END)
GoesOnAt start reply = ⊥

-- One entry for each element of a call. The first asks for the element at the frame's start index, and each
-- later one for the next element. Each reply says that the call continues with the next element, and `now` is
-- the frame that asks for it.
abbrev pub AreElements : {A : Type 0} → Caller → Frame A → List (Entry A) → Frame A → Type 0
AreElements by frame [] now = now ≡ frame
AreElements by frame (e ∷ es) now =
    (e.event ≡ element by frame) × GoesOnAt (start_of frame + 1) e.reply × AreElements by
    (restart frame (start_of frame + 1)) es now

-- The history has gained `events` elements of a call, in order, from this frame on. The call continues after
-- each but the last, which has the frame `last` and this reply. There are `most` of them, or the call ended.
pub record HasRun {A : Type 0} (by : Caller) (frame : Frame A) (reply : Reply) (events most : ℕ)
    (old new : Kept A) : Type 0 where
  pub before : List (Entry A)
  pub last : Frame A
  pub elements : AreElements by frame before last
  pub history : new.history ≡ old.history ++ (before ++ record { event = element by last; reply = reply } ∷
      [])
  pub config : new.config ≡ old.config
  pub limit : new.limit ≡ old.limit
  pub count : events ≡ length before + 1
  pub within : events ≤ most
  pub ends : events < most → IsMore reply → ⊥
  pub asked : NamesAsked (element by last) reply
  pub result : HasResult reply
  pub next : GoesOn (Hypercall last) reply

-- The history has gained `events` elements of a call, in order, from this frame on, fewer than `most`. The
-- call continues after each.
pub record HasStopped {A : Type 0} (by : Caller) (frame : Frame A) (events most : ℕ) (old new : Kept A) : Type
    0 where
  pub before : List (Entry A)
  pub now : Frame A
  pub elements : AreElements by frame before now
  pub history : new.history ≡ old.history ++ before
  pub config : new.config ≡ old.config
  pub limit : new.limit ≡ old.limit
  pub count : events ≡ length before
  pub within : events < most
