-- Taking the lines of a script, one event after another.
use Rattle.std.specs.Prelude.{◌≡◌, ◌≢◌, ◌+◌, List, [], ◌∷◌, ◌++◌, All, map}
use Rattle.std.specs.declared.alloc.Global.{Global}
use Rattle.hv_abi.specs.declared.frame.Frame.{Frame}
use Rattle.hv_history.specs.Run.{restart, start_of}
use Rattle.hv_history.specs.declared.entry.Entry.{Entry}
use Rattle.hv_phases.specs.Schedule.{StandsFor}
use Rattle.hv_phases.specs.declared.schedule.Schedule.{Schedule}
use Rattle.hv_policy.specs.declared.event.Action.{Action}
use Rattle.hv_policy.specs.declared.event.Action.TheVariants.{Hypercall, ReadMsr, WriteMsr, ReadSlot}
use Rattle.hv_policy.specs.declared.event.Action.TheVariants.{ClearSlot, ReadFlags, ClearFlag, TakeInterrupt}
use Rattle.hv_policy.specs.declared.reply.Reply.{Reply}
use Rattle.hv_policy.specs.declared.reply.Reply.TheVariants.{Served, More, Denied, Fault}
use Rattle.hv_script.specs.declared.line.Line.{Line}

-- what is left of a call after the reply to an element: its next element if the call continues, otherwise
-- nothing
abbrev pub call_left : Frame Global → Reply → List (Action Global)
call_left frame (Served output) = []
call_left frame (More next output) = Hypercall (restart frame (start_of frame + 1)) ∷ []
call_left frame (Denied rule status reps) = []
call_left frame (Fault rule) = []

-- what is left of an action after the reply to its event; of an access, nothing
abbrev pub action_left : Action Global → Reply → List (Action Global)
action_left (Hypercall frame) reply = call_left frame reply
action_left (ReadMsr msr) reply = []
action_left (WriteMsr msr value) reply = []
action_left (ReadSlot sint) reply = []
action_left (ClearSlot sint) reply = []
action_left (ReadFlags sint) reply = []
action_left (ClearFlag sint flag) reply = []
action_left TakeInterrupt reply = []

-- the line with the action that is left, if one is
abbrev pub line_left : Line Global → Reply → List (Line Global)
line_left line reply = map (λ action. record line { action = action }) (action_left line.action reply)

-- The event is the next one of its processor: the action of its first line. All lines before that line are of
-- the same phase. `left` are the lines that are left after the event.
pub record IsNext (lines : List (Line Global)) (e : Entry Global) (left : List (Line Global)) : Type 0 where
  pub before : List (Line Global)
  pub line : Line Global
  pub after : List (Line Global)
  pub all : lines ≡ before ++ line ∷ after
  pub phase : All (λ other. other.phase ≡ line.phase) before
  pub first : All (λ other. other.by ≢ line.by) before
  pub event : e.event ≡ record { by = line.by; what = line.action }
  pub left_is : left ≡ before ++ (line_left line e.reply ++ after)

-- the event is the next one of its processor, and the schedule stands for the lines that are left after it
pub record HasTaken (lines : List (Line Global)) (e : Entry Global) (new : Schedule) : Type 0 where
  pub left : List (Line Global)
  pub next : IsNext lines e left
  pub stands : StandsFor new left

-- each entry is the next event of its processor, one after another, and `left` are the lines left at the end
abbrev pub Takes : List (Line Global) → List (Entry Global) → List (Line Global) → Type 0
Takes lines [] left = left ≡ lines
Takes lines (e ∷ es) left = (next : List (Line Global)) × IsNext lines e next × Takes next es left
