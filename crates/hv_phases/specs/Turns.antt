-- What turns have left to do, the place of a turn among others, and the turns of a phase.
use Rattle.std.specs.Prelude.{ℕ, ◌≡◌, ◌≢◌, List, [], ◌∷◌, ◌++◌, All, drop, length, if◌then◌else◌}
use Rattle.std.specs.declared.alloc.Global.{Global}
use Rattle.hv_phases.specs.Lines.{asked_by}
use Rattle.hv_phases.specs.declared.turn.Turn.{Turn}
use Rattle.hv_policy.specs.declared.event.Action.{Action}
use Rattle.hv_policy.specs.declared.event.Caller.{Caller}
use Rattle.hv_script.specs.declared.line.Line.{Line}
use Rattle.hv_shared.specs.ByCaller.{is_caller}

-- the actions that are left of a turn
abbrev pub todo : Turn → List (Action Global)
todo turn = drop turn.done turn.actions.items

-- the actions that a processor has left in the phase, by these turns
abbrev pub todo_of : Caller → List Turn → List (Action Global)
todo_of by [] = []
todo_of by (turn ∷ turns) = (if is_caller by turn.by then todo turn else []) ++ todo_of by turns

-- no action of these turns is done
abbrev pub AreNew : List Turn → Type 0
AreNew turns = All (λ turn. turn.done ≡ 0) turns

-- the processor's first turn that has an action left is at this place
pub record IsAt (by : Caller) (turns : List Turn) (at : ℕ) : Type 0 where
  pub before : List Turn
  pub turn : Turn
  pub after : List Turn
  pub all : turns ≡ before ++ turn ∷ after
  pub place : length before ≡ at
  pub by_is : turn.by ≡ by
  pub first : todo_of by before ≡ []
  pub some : todo turn ≢ []

-- a turn of the processor is at this place, and no later turn has an action left for it
pub record IsLast (by : Caller) (turns : List Turn) (at : ℕ) : Type 0 where
  pub before : List Turn
  pub turn : Turn
  pub after : List Turn
  pub all : turns ≡ before ++ turn ∷ after
  pub place : length before ≡ at
  pub by_is : turn.by ≡ by
  pub last : todo_of by after ≡ []

-- the first line, or the last line, is not of this phase
abbrev pub IsPast : ℕ → List (Line Global) → Type 0
IsPast phase lines = (line : Line Global) (rest : List (Line Global)) → lines ≡ line ∷ rest → line.phase ≢
    phase

abbrev pub IsPastAtEnd : ℕ → List (Line Global) → Type 0
IsPastAtEnd phase lines = (line : Line Global) (rest : List (Line Global)) → lines ≡ rest ++ line ∷ [] →
    line.phase ≢ phase

-- a line and the next lines of its phase were given to their processors, and nothing is done
pub record HasGiven (first : Line Global) (old : List (Line Global)) (turns : List Turn)
    (new : List (Line Global)) : Type 0 where
  pub more : List (Line Global)
  pub all : old ≡ more ++ new
  pub one : All (λ line. line.phase ≡ first.phase) more
  pub asked : (by : Caller) → todo_of by turns ≡ asked_by by (first ∷ more)
  pub past : IsPast first.phase new
  pub are_new : AreNew turns
