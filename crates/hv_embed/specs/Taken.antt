-- The effect of a call on a handle.
use Rattle.std.specs.Prelude.{◌≡◌, ◌+◌, ◌<◌, ◌&&◌, ◌||◌, ℕ, List, Bool, true, not, nat_le, nat_lt, length}
use Rattle.std.specs.Prelude.{take, None, IsTrue, if◌then◌else◌}
use Rattle.std.specs.Global.{Global}
use Rattle.hv_abi.specs.declared.frame.Frame.{Frame}
use Rattle.hv_machine.specs.IsFlat.{IsFlat}
use Rattle.hv_machine.specs.MachineInvariant.{MachineInvariant}
use Rattle.hv_machine.specs.Sound.{IsSound}
use Rattle.hv_machine.specs.State.{State}
use Rattle.hv_defs.specs.declared.sizes.TheConstants.{MAX_SERVED}
use Rattle.hv_policy.specs.Boot.{boot}
use Rattle.hv_policy.specs.BootFault.{boot_fault, IsBootRefusal}
use Rattle.hv_policy.specs.Call.{call_event, may_take_memory}
use Rattle.hv_policy.specs.Flat.{Flat}
use Rattle.hv_policy.specs.Rules.{unmet}
use Rattle.hv_policy.specs.Step.{step}
use Rattle.hv_policy.specs.declared.config.BootRefused.{BootRefused}
use Rattle.hv_policy.specs.declared.config.Config.{Config}
use Rattle.hv_policy.specs.declared.event.Caller.{Caller}
use Rattle.hv_policy.specs.declared.event.Event.{Event}
use Rattle.hv_text.specs.declared.text.TheConstants.{LINE}
use Rattle.hv_embed.specs.Answer.{IsAnswer, line_text, refusal_status}
use Rattle.hv_embed.specs.Effect.{IsEffect}
use Rattle.hv_embed.specs.declared.handle.HvMachine.{HvMachine}
use Rattle.hv_embed.specs.declared.layout.HvReply.{HvReply}
use Rattle.hv_embed.specs.declared.status.TheConstants.{DONE, EMPTY, SHORT, USED_UP, MAX_EVENTS}

-- a machine that booted with this configuration and has taken no event
pub record IsStarted (config : Config) (m : State) : Type 0 where
  pub accepted : boot_fault config ≡ None
  pub state : IsFlat m (boot config)
  pub pages : m.pages ≡ config.pages
  pub lasting : MachineInvariant m
  pub sound : IsSound m

-- a handle with such a machine
pub record IsBooted (config : Config) (new : HvMachine) : Type 0 where
  pub live : new.live ≡ true
  pub events : new.events ≡ 0
  pub machine : IsStarted config new.raw_machine.machine

-- a boot with this configuration is refused with the status of its first fault, or, if it has none, with that
-- of out of memory
pub record IsRefused (config : Config) (told : ℕ) : Type 0 where
  pub why : BootRefused
  pub first : IsBootRefusal config why
  pub status : told ≡ refusal_status why

-- the first `count` bytes of a line's buffer are this line; a buffer without bytes gets none
pub record HasLine (buffer : List ℕ) (count : ℕ) (line : List ℕ) : Type 0 where
  pub none : length buffer ≡ 0 → count ≡ 0
  pub some : 0 < length buffer → take count buffer ≡ line
  pub len : 0 < length buffer → count ≡ length line

-- The machine took the event. For each flat state that it stood for, the reply and the line with the event's
-- number are those of the flat step's reply, the new machine stands for that step's state, and the effect
-- describes the step's change. The new machine satisfies the invariant, is sound, and has the old number of
-- pages.
pub record IsStepped (event : Event Global) (number : ℕ) (old new : State) (answer : HvReply)
    (buffer : List ℕ) : Type 0 where
  pub reply : (f : Flat) → IsFlat old f → IsAnswer answer event.what (step f event).1
  pub line : (f : Flat) → IsFlat old f → HasLine buffer answer.line_len
      (line_text number event (step f event).1)
  pub state : (f : Flat) → IsFlat old f → IsFlat new (step f event).0
  pub effect : (f : Flat) → IsFlat old f → IsEffect answer.effect f (step f event).0
  pub pages : new.pages ≡ old.pages
  pub lasting : MachineInvariant new
  pub sound : IsSound new

-- the machine of a handle took the event, and the count of events grows by one. The line has this count as
-- its number
pub record IsTaken (event : Event Global) (old new : HvMachine) (answer : HvReply) (buffer : List ℕ) : Type 0
  where
    pub step : IsStepped event new.events old.raw_machine.machine new.raw_machine.machine answer buffer
    pub events : new.events ≡ old.events + 1
    pub live : new.live ≡ true

-- the host may be out of memory for a call: serving it may need memory, and no rule refuses it
pub record MayLackMemory (m : State) (by : Caller) (frame : Frame Global) : Type 0 where
  pub memory : IsTrue (may_take_memory (call_event by frame))
  pub served : (f : Flat) → IsFlat m f → unmet f (call_event by frame) ≡ None

-- nothing changed
pub record IsAsBefore (old new : HvMachine) : Type 0 where
  pub live : new.live ≡ old.live
  pub events : new.events ≡ old.events
  pub machine : old.live ≡ true → new.raw_machine.machine ≡ old.raw_machine.machine

-- a line's buffer has bytes, but too few for the longest line
abbrev pub is_short : ℕ → Bool
is_short len = nat_lt 0 len && nat_lt len LINE

-- as many events were served, or counted, as can be counted
abbrev pub is_used_up : ℕ → ℕ → Bool
is_used_up served events = nat_le MAX_SERVED served || nat_le MAX_EVENTS events

-- the status of an event with a line's buffer of this length: `DONE` if the handle can take it, or else the
-- reason
abbrev pub readiness : HvMachine → ℕ → ℕ
readiness m len =
    if not m.live then EMPTY
    else if is_short len then SHORT
    else if is_used_up m.raw_machine.machine.served m.events then USED_UP
    else DONE
