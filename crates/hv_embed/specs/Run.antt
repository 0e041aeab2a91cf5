-- A run: the elements of one call, one after another.
use Rattle.std.specs.Prelude.{ℕ, zero, suc, ◌≡◌, ◌+◌, ◌-◌, ◌<◌, ◌≤◌, ◌==◌, ◌||◌, List, [], ◌++◌, true, false}
use Rattle.std.specs.Prelude.{not, nat_lt, length, take, if◌then◌else◌}
use Rattle.std.specs.Global.{Global}
use Rattle.hv_abi.specs.declared.frame.Frame.{Frame}
use Rattle.hv_defs.specs.declared.sizes.TheConstants.{REPS_END}
use Rattle.hv_policy.specs.Parts.{next_in}
use Rattle.hv_history.specs.Run.{IsMore, restart}
use Rattle.hv_machine.specs.IsFlat.{IsFlat}
use Rattle.hv_machine.specs.MachineInvariant.{MachineInvariant}
use Rattle.hv_machine.specs.Sound.{IsSound}
use Rattle.hv_machine.specs.State.{State}
use Rattle.hv_policy.specs.Call.{call_event}
use Rattle.hv_policy.specs.Flat.{Flat}
use Rattle.hv_policy.specs.Step.{step}
use Rattle.hv_policy.specs.declared.event.Action.TheVariants.{Hypercall}
use Rattle.hv_policy.specs.declared.event.Caller.{Caller}
use Rattle.hv_policy.specs.declared.reply.Reply.{Reply}
use Rattle.hv_policy.specs.declared.reply.Reply.TheVariants.{Served, More, Denied, Fault}
use Rattle.hv_embed.specs.Answer.{IsAnswer}
use Rattle.hv_embed.specs.Effect.{IsCalm, IsEffect, is_quiet_kind}
use Rattle.hv_embed.specs.Taken.{MayLackMemory, is_used_up}
use Rattle.hv_embed.specs.declared.handle.HvMachine.{HvMachine}
use Rattle.hv_embed.specs.declared.layout.HvEffect.{HvEffect}
use Rattle.hv_embed.specs.declared.layout.HvReply.{HvReply}
use Rattle.hv_embed.specs.declared.layout.HvRun.{HvRun}
use Rattle.hv_embed.specs.declared.layout.TheConstants.{ELEMENT_OUTPUT}
use Rattle.hv_embed.specs.declared.status.TheConstants.{DONE, EMPTY, SHORT, USED_UP}

-- the output bytes of a reply
abbrev pub output_in : Reply → List ℕ
output_in (Served output) = output
output_in (More next output) = output
output_in (Denied rule status reps) = []
output_in (Fault rule) = []

-- the result of a run: the state that its last element left, the frame and the reply of that element, and the
-- output of all elements, one after another
pub record Ran : Type 0 where
  pub flat : Flat
  pub frame : Frame Global
  pub reply : Reply
  pub bytes : List ℕ

-- the run that adds the element of this frame, after elements with these output bytes
abbrev pub element_after : List ℕ → Flat → Caller → Frame Global → Ran
element_after bytes f by frame = record {
  flat = (step f (call_event by frame)).0;
  frame = frame;
  reply = (step f (call_event by frame)).1;
  bytes = bytes ++ output_in (step f (call_event by frame)).1;
}

-- the run of the first element
abbrev pub first : Flat → Caller → Frame Global → Ran
first f by frame = element_after [] f by frame

-- the run with one more element, the one at which the call continues by the last reply
abbrev pub on : Caller → Ran → Ran
on by ran = element_after ran.bytes ran.flat by (restart ran.frame (next_in ran.reply))

-- the run with n more elements
abbrev pub run : ℕ → Caller → Ran → Ran
run zero by ran = ran
run (suc n) by ran = on by (run n by ran)

-- the reply to each of the first n elements says that the call continues
abbrev pub GoesOn : ℕ → Caller → Ran → Type 0
GoesOn n by ran = (k : ℕ) → k < n → IsMore (run k by ran).reply

-- the machine stands for the run's state, and the frame, the reply and the output bytes are the run's
pub record IsAt (ran : Ran) (m : State) (last : Frame Global) (told : Reply) (out : List ℕ) : Type 0 where
  pub state : IsFlat m ran.flat
  pub frame : last ≡ ran.frame
  pub reply : told ≡ ran.reply
  pub bytes : out ≡ ran.bytes

-- as `IsAt`, for the run with n more elements
pub record IsAtMore (n : ℕ) (by : Caller) (ran : Ran) (m : State) (last : Frame Global) (told : Reply)
    (out : List ℕ) : Type 0 where
  pub goes : GoesOn n by ran
  pub stands : IsAt (run n by ran) m last told out

-- The run ends here: the call does not continue, or the last effect names more than a page, or too few bytes
-- are left for another output, or no more events are counted, or as many elements were taken as the caller
-- allows or as a call can have. Otherwise the host was out of memory for the next element, which no rule
-- refuses.
abbrev pub HasStopped : Caller → Ran → State → HvEffect → (left more most events : ℕ) → Type 0
HasStopped by ran m told left more most events =
    IsMore ran.reply → is_quiet_kind told.kind ≡ true → ELEMENT_OUTPUT ≤ left → is_used_up m.served events ≡
    false → more < REPS_END → more + 1 < most
    → MayLackMemory m by (restart ran.frame (next_in ran.reply))

-- The machine took the first element of a call, and as many further ones as it could, at most `most` in all.
-- `before` is the number of events before the first. Each reply but the last says that the call continues.
-- The reply for C is that of the last element, the machine stands for the state that this element left, and
-- the buffer begins with the output of all elements.
pub record HasRun (by : Caller) (start : Ran) (most before : ℕ) (m : State) (told : HvReply)
    (buffer : List ℕ) (done : HvRun) : Type 0 where
  pub more : ℕ
  pub events : done.events ≡ more + 1
  pub goes : GoesOn more by start
  pub state : IsFlat m (run more by start).flat
  pub answer : IsAnswer told (Hypercall (run more by start).frame) (run more by start).reply
  pub len : done.output_len ≡ length (run more by start).bytes
  pub bytes : take done.output_len buffer ≡ (run more by start).bytes
  pub stopped : HasStopped by (run more by start) m told.effect (length buffer - done.output_len) more
      most (before + done.events)

-- the state before the last of n more elements, if the first element was taken in `f`
abbrev pub flat_before : ℕ → Flat → Caller → Ran → Flat
flat_before zero f by ran = f
flat_before (suc n) f by ran = (run n by ran).flat

-- C sees the effect of the last of n more elements. The elements before it left messages, event flags and
-- pending vectors unchanged
pub record IsLastEffect (n : ℕ) (f : Flat) (by : Caller) (ran : Ran) (told : HvEffect) : Type 0 where
  pub last : IsEffect told (flat_before n f by ran) (run n by ran).flat
  pub calm : IsCalm f (flat_before n f by ran)

-- C sees the effect of the last element, where this number of elements was taken
pub record IsRunEffect (events : ℕ) (f : Flat) (by : Caller) (start : Ran) (told : HvEffect) : Type 0 where
  pub more : ℕ
  pub counted : events ≡ more + 1
  pub shown : IsLastEffect more f by start told

-- The machine of a handle took elements of a call, for each flat state that it stood for. The new machine
-- satisfies the invariant, is sound, and has the old number of pages. The count of events grows by the number
-- of elements taken, which is at least 1 and at most `most`. No line is written.
pub record IsRunTaken (by : Caller) (frame : Frame Global) (most : ℕ) (old new : HvMachine) (answer : HvReply)
    (buffer : List ℕ) (done : HvRun) : Type 0 where
  pub ran : (f : Flat) → IsFlat old.raw_machine.machine f → HasRun by (first f by frame) most old.events
      new.raw_machine.machine answer buffer done
  pub effect : (f : Flat) → IsFlat old.raw_machine.machine f
      → IsRunEffect done.events f by (first f by frame) answer.effect
  pub line : answer.line_len ≡ 0
  pub pages : new.raw_machine.machine.pages ≡ old.raw_machine.machine.pages
  pub lasting : MachineInvariant new.raw_machine.machine
  pub sound : IsSound new.raw_machine.machine
  pub some : 0 < done.events
  pub bounded : done.events ≤ most
  pub events : new.events ≡ old.events + done.events
  pub live : new.live ≡ true

-- the status of a run with an output buffer of this length, of at most `most` elements: `DONE` if the handle
-- can take it, or else the reason
abbrev pub run_readiness : HvMachine → (len most : ℕ) → ℕ
run_readiness m len most =
    if not m.live then EMPTY
    else if nat_lt len ELEMENT_OUTPUT || (most == 0) then SHORT
    else if is_used_up m.raw_machine.machine.served m.events then USED_UP
    else DONE
