-- A session in progress. Only contracts of private functions cite these words.
use Rattle.std.specs.Prelude.{ℕ, ◌≡◌, ◌⊎◌, ◌==◌, ◌+◌, ◌++◌, List, [], ◌∷◌, length, if◌then◌else◌}
use Rattle.std.specs.Prelude.{Bool, true, false, Option, None}
use Rattle.std.specs.Io.KnownBytes.{Appends, Consumes, Keeps}
use Rattle.hv_run.specs.Failure.{exit_of}
use Rattle.hv_run.specs.Written.{HasPart}
use Rattle.hv_run.specs.declared.failure.Exit.TheVariants.{Host}
use Rattle.hv_run.specs.declared.failure.Failure.{Failure}
use Rattle.hv_serve.specs.Bench.{StandsFor}
use Rattle.hv_serve.specs.Input.{HasEnded}
use Rattle.hv_serve.specs.Json.{end_object}
use Rattle.hv_serve.specs.Session.{AreTurns, IsTurn, Served, Turn, answers_in, end_text}
use Rattle.hv_serve.specs.declared.bench.Bench.{Bench}
use Rattle.hv_serve.specs.declared.form.Form.{Form}
use Rattle.hv_serve.specs.declared.form.Form.TheVariants.{Text, Json}

-- what the writer gets after all answers
abbrev pub closing : Form → ℕ → List ℕ
closing Text count = end_text count
closing Json count = end_object count

-- a line has no answer. It is the last one, or not
abbrev pub is_silent : Form → Bool → List ℕ → Bool
is_silent Text last line = false
is_silent Json false line = false
is_silent Json true line = length line == 0

-- the line with this number was read and answered. It was the last one, or not
pub record HasTurned (form : Form) (names : Bool) (number : ℕ) (before : Option Served) (last : Bool)
    (bench : Option Bench) (input rest old new : Option (List ℕ)) : Type 0 where
  pub turn : Turn
  pub after : Option Served
  pub stands : StandsFor bench after
  pub is : IsTurn form names number before turn after
  pub ended : HasEnded last turn.line input rest
  pub told : Appends old new (if is_silent form last turn.line then [] else turn.answer)

-- the line with this number was read, and the writer got a first part of its answer. It was the last one, or
-- not
pub record HasTurnedPart (form : Form) (names : Bool) (number : ℕ) (before : Option Served)
    (input old new : Option (List ℕ)) : Type 0 where
  pub turn : Turn
  pub after : Option Served
  pub is : IsTurn form names number before turn after
  pub last : Bool
  pub rest : Option (List ℕ)
  pub ended : HasEnded last turn.line input rest
  pub told : HasPart (if is_silent form last turn.line then [] else turn.answer) old new

-- serving ended within the line with this number: it can't be read, and the writer got nothing; or the host
-- failed, and the writer got a first part of its answer
abbrev pub HasFailed : Form → Bool → ℕ → Option Served → Failure → Option (List ℕ) → Option (List ℕ) → Option
    (List ℕ) → Type 0
HasFailed form names number before failure input old new =
    Keeps old new ⊎ ((exit_of failure ≡ Host) × HasTurnedPart form names number before input old new)

-- the lines of the input, each with its line feed
abbrev pub closed : List Turn → List ℕ
closed [] = []
closed (turn ∷ turns) = turn.line ++ (10 ∷ []) ++ closed turns

-- the lines before the one with this number were read and answered
pub record IsServing (form : Form) (names : Bool) (number : ℕ) (bench : Option Bench)
    (input rest old new : Option (List ℕ)) : Type 0 where
  pub turns : List Turn
  pub now : Option Served
  pub stands : StandsFor bench now
  pub served : AreTurns form names 1 None turns now
  pub count : number ≡ length turns + 1
  pub taken : Consumes input rest (closed turns)
  pub told : Appends old new (answers_in turns)
