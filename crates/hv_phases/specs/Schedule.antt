-- What a schedule of a script's lines stands for.
use Rattle.std.specs.Prelude.{ℕ, ◌≡◌, List, [], ◌∷◌, ◌++◌, All, reverse, Option, None, Some}
use Rattle.std.specs.declared.alloc.Global.{Global}
use Rattle.hv_history.specs.Run.{restart}
use Rattle.hv_phases.specs.Lines.{AreApart, asked_by}
use Rattle.hv_phases.specs.Read.{AreRead}
use Rattle.hv_phases.specs.Turns.{todo_of}
use Rattle.hv_phases.specs.declared.schedule.Schedule.{Schedule}
use Rattle.hv_policy.specs.declared.event.Action.{Action}
use Rattle.hv_policy.specs.declared.event.Action.TheVariants.{Hypercall, ReadMsr, WriteMsr, ReadSlot}
use Rattle.hv_policy.specs.declared.event.Action.TheVariants.{ClearSlot, ReadFlags, ClearFlag, TakeInterrupt}
use Rattle.hv_policy.specs.declared.event.Caller.{Caller}
use Rattle.hv_policy.specs.declared.reply.Reply.{Reply}
use Rattle.hv_policy.specs.declared.reply.Reply.TheVariants.{Served, More, Denied, Fault}
use Rattle.hv_script.specs.declared.line.Line.{Line}

-- the first of some actions
abbrev pub first_of : List (Action Global) → Option (Action Global)
first_of [] = None
first_of (action ∷ actions) = Some action

-- a call that asks for another element; an access is unchanged
abbrev pub at_element : Action Global → ℕ → Action Global
at_element (Hypercall frame) next = Hypercall (restart frame next)
at_element (ReadMsr msr) next = ReadMsr msr
at_element (WriteMsr msr value) next = WriteMsr msr value
at_element (ReadSlot sint) next = ReadSlot sint
at_element (ClearSlot sint) next = ClearSlot sint
at_element (ReadFlags sint) next = ReadFlags sint
at_element (ClearFlag sint flag) next = ClearFlag sint flag
at_element TakeInterrupt next = TakeInterrupt

-- the actions that are left after the first one got this reply
abbrev pub after_reply : List (Action Global) → Reply → List (Action Global)
after_reply [] reply = []
after_reply (action ∷ actions) (Served output) = actions
after_reply (action ∷ actions) (More next output) = at_element action next ∷ actions
after_reply (action ∷ actions) (Denied rule status reps) = actions
after_reply (action ∷ actions) (Fault rule) = actions

-- the lines of later phases, in order
abbrev pub later_of : Schedule → List (Line Global)
later_of schedule = reverse schedule.later.items

-- the actions that a processor has left in the phase
abbrev pub left_by : Caller → Schedule → List (Action Global)
left_by by schedule = todo_of by schedule.turns.items

-- These lines are left: first those of the current phase, whose actions each processor has left to do, and
-- then those of later phases.
pub record StandsFor (schedule : Schedule) (lines : List (Line Global)) : Type 0 where
  pub block : List (Line Global)
  pub all : lines ≡ block ++ later_of schedule
  pub phase : ℕ
  pub one : All (λ line. line.phase ≡ phase) block
  pub apart : AreApart block (later_of schedule)
  pub asked : (by : Caller) → left_by by schedule ≡ asked_by by block
  pub read : AreRead lines

-- no processor has an action left in the phase
abbrev pub IsIdle : Schedule → Type 0
IsIdle schedule = (by : Caller) → left_by by schedule ≡ []

-- the phase is idle only if all lines are done
abbrev pub IsBegun : Schedule → Type 0
IsBegun schedule = IsIdle schedule → later_of schedule ≡ []
