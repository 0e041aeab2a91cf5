-- What a booted machine and its phase stand for. Only contracts of private functions cite these words.
use Rattle.std.specs.Prelude.{ℕ, ◌≡◌, ◌≢◌, ◌⊎◌, ◌≤◌, ◌==◌, List, length, All, if◌then◌else◌, Option}
use Rattle.std.specs.Prelude.{None, Some, Result, Ok, Err}
use Rattle.std.specs.Io.KnownBytes.{Appends}
use Rattle.std.specs.declared.alloc.Global.{Global}
use Rattle.hv_history.specs.Kept.{IsRun, Kept}
use Rattle.hv_policy.specs.declared.event.Action.{Action}
use Rattle.hv_policy.specs.declared.event.Caller.{Caller}
use Rattle.hv_run.specs.Written.{HasPart}
use Rattle.hv_script.specs.Callers.{callers_of}
use Rattle.hv_script.specs.Line.{◌>>=◌}
use Rattle.hv_script.specs.Script.{SoFar, read_words}
use Rattle.hv_script.specs.declared.fault.FaultKind.{FaultKind}
use Rattle.hv_script.specs.declared.fault.FaultKind.TheVariants.{Memory}
use Rattle.hv_history.specs.declared.kept.HostRefused.TheVariants as host
use Rattle.hv_threads.specs.Acted.{HasActed, WasStopped}
use Rattle.hv_words.specs.Words.{IsPlain}
use Rattle.hv_serve.specs.Meant.{Asks, Explains, Helps, Meant, Peeks, Reads}
use Rattle.hv_serve.specs.Meant.{request_line, request_of}
use Rattle.hv_serve.specs.Session.{AreTraced, Becomes, Served, answer_of, shown_of}
use Rattle.hv_serve.specs.declared.bench.Bench.{Bench}
use Rattle.hv_serve.specs.declared.form.Form.{Form}
use Rattle.hv_serve.specs.declared.form.Form.TheVariants.{Json}
use Rattle.hv_serve.specs.declared.outcome.Outcome.{Outcome}
use Rattle.hv_serve.specs.declared.outcome.Outcome.TheVariants.{Done, Table, Peek, Explain, Help, Fault}
use Rattle.hv_serve.specs.declared.outcome.Outcome.TheVariants.{Named, Boot, Host}
use Rattle.hv_serve.specs.declared.request.Request.{Request}

-- the machine, if there is one
abbrev pub kept_in : Option Bench → Option (Kept Global)
kept_in None = None
kept_in (Some bench) = Some bench.kept

-- the machine and its history are those of `served`, the history is a run, and the processors are those of
-- the phase
pub record IsBench (bench : Bench) (served : Served) : Type 0 where
  pub kept : bench.kept ≡ served.kept
  pub callers : bench.callers.items ≡ callers_of served.read.phase served.read.lines
  pub phases : All (λ line. line.phase ≤ served.read.phase) served.read.lines
  pub run : IsRun served.kept

abbrev pub StandsFor : Option Bench → Option Served → Type 0
StandsFor None None = Unit {0}
StandsFor None (Some served) = ⊥
StandsFor (Some bench) None = ⊥
StandsFor (Some bench) (Some served) = IsBench bench served

-- the meaning of a line of a script, from the result of reading it
abbrev pub reads : Result (SoFar Global) FaultKind → Result Meant FaultKind
reads read = read >>= (λ so_far. Ok (Reads (Some so_far)))

-- the meaning of words that ask for this, or are those of a script's line
abbrev pub words_by : Option Request → Option (SoFar Global) → List (List ℕ) → Result Meant FaultKind
words_by (Some request) before words = request_line request before words
words_by None before words = reads (read_words before words)

-- the meaning of a line's words, after what was read before
abbrev pub words_say : Option (SoFar Global) → List (List ℕ) → Result Meant FaultKind
words_say before words =
    if length words == 0 then Ok (Reads before) else words_by (request_of words) before words

-- after a line with this meaning and this outcome, the bench stands for the new state of the session
pub record HasBecome (before : Option Served) (says : Result Meant FaultKind) (outcome : Outcome)
    (bench : Option Bench) : Type 0 where
  pub after : Option Served
  pub stands : StandsFor bench after
  pub becomes : Becomes before says outcome after

-- as `HasBecome`, or the line has a fault, and nothing changed
abbrev pub HasTaken : Option Served → Result Meant FaultKind → Option Bench → Result Outcome FaultKind → Type
    0
HasTaken before says bench (Ok outcome) = HasBecome before says outcome bench
HasTaken before says bench (Err kind) = StandsFor bench before × (kind ≢ Memory → says ≡ Err kind)

-- the outcome of a processor's line, which was done with at most so many events, or stopped
abbrev pub IsOutcomeOf : Caller → Action Global → ℕ → Kept Global → Kept Global → Outcome → Type 0
IsOutcomeOf by what most old new Done = HasActed by what most old new
IsOutcomeOf by what most old new Table = ⊥
IsOutcomeOf by what most old new (Peek peek) = ⊥
IsOutcomeOf by what most old new Explain = ⊥
IsOutcomeOf by what most old new Help = ⊥
IsOutcomeOf by what most old new (Fault kind) = ⊥
IsOutcomeOf by what most old new (Named fault) = ⊥
IsOutcomeOf by what most old new (Boot why) = ⊥
IsOutcomeOf by what most old new (Host why) = WasStopped by what most why old new

-- the outcome of a line that asks for something, and the line's meaning
abbrev pub AsksFor : Outcome → Result Meant FaultKind → Type 0
AsksFor Done says = ⊥
AsksFor Table says = says ≡ Ok Asks
AsksFor (Peek peek) says = says ≡ Ok (Peeks peek)
AsksFor Explain says = says ≡ Ok Explains
AsksFor Help says = says ≡ Ok Helps
AsksFor (Fault kind) says = ⊥
AsksFor (Named fault) says = ⊥
AsksFor (Boot why) says = ⊥
AsksFor (Host why) says = ⊥

-- the answer to the line takes memory
abbrev pub IsRequest : Outcome → Type 0
IsRequest Done = ⊥
IsRequest Table = Unit {0}
IsRequest (Peek peek) = Unit {0}
IsRequest Explain = Unit {0}
IsRequest Help = ⊥
IsRequest (Fault kind) = ⊥
IsRequest (Named fault) = Unit {0}
IsRequest (Boot why) = ⊥
IsRequest (Host why) = ⊥

-- the outcome that is reported: the line's own, or out of memory for its answer
abbrev pub IsToldAs : Outcome → Outcome → Type 0
IsToldAs outcome told = (told ≡ outcome) ⊎ (IsRequest outcome × (told ≡ Host host.Memory))

-- this is what a line with this outcome shows
pub record Shows (outcome : Outcome) (now : Option (Kept Global)) (shown : Option (List ℕ)) : Type 0 where
  pub words : List ℕ
  pub plain : IsPlain words
  pub is : shown ≡ shown_of outcome now words

-- the writer gets the answer to the line with this number. Its outcome is reported as `told`
pub record HasAnswered (form : Form) (number before : ℕ) (outcome told : Outcome) (now : Option (Kept Global))
    (old new : Option (List ℕ)) : Type 0 where
  pub told_as : IsToldAs outcome told
  pub objects : List ℕ
  pub traced : form ≡ Json → AreTraced before now objects
  pub words : List ℕ
  pub plain : IsPlain words
  pub wrote : Appends old new (answer_of form number before told now objects words)

-- as `HasAnswered`, but the writer gets a first part of the answer
pub record HasAnsweredPart (form : Form) (number before : ℕ) (outcome : Outcome) (now : Option (Kept Global))
    (old new : Option (List ℕ)) : Type 0 where
  pub told : Outcome
  pub told_as : IsToldAs outcome told
  pub objects : List ℕ
  pub traced : form ≡ Json → AreTraced before now objects
  pub words : List ℕ
  pub plain : IsPlain words
  pub wrote : HasPart (answer_of form number before told now objects words) old new
