-- The objects of a line's events. Only contracts of private functions cite these words.
use Rattle.std.specs.Prelude.{ℕ, ◌≡◌, ◌<◌, ◌++◌, List, length, true, Option, None, Some}
use Rattle.std.specs.declared.alloc.Global.{Global}
use Rattle.hv_abi.specs.declared.frame.Frame.{Frame}
use Rattle.hv_admit.specs.declared.effect.Effect.{Effect}
use Rattle.hv_explain.specs.Written.{HasWritten, HasWrittenElement, HasWrittenOne, entry_of}
use Rattle.hv_history.specs.Kept.{Kept}
use Rattle.hv_history.specs.declared.entry.Entry.{Entry}
use Rattle.hv_policy.specs.declared.event.Action.{Action}
use Rattle.hv_policy.specs.declared.event.Caller.{Caller}
use Rattle.hv_policy.specs.declared.reply.Reply.{Reply}
use Rattle.hv_trace.specs.Trace.{traces}
use Rattle.hv_serve.specs.Session.{AreTraced}
use Rattle.hv_serve.specs.declared.bench.Bench.{Bench}
use Rattle.hv_serve.specs.declared.traced.Trace.{Trace}

-- the trace has these objects, unless memory ran out for one of them
abbrev pub Holds : Trace → List ℕ → Type 0
Holds trace objects = trace.is_whole ≡ true → trace.objects.items ≡ objects

-- the trace has one object more, that of the event with this number
pub record HasAdded (number : ℕ) (by : Caller) (what : Action Global) (reply : Reply) (effect : Effect)
    (objects : List ℕ) (trace : Trace) : Type 0 where
  pub own : List ℕ
  pub told : traces number (entry_of by what reply) effect own
  pub holds : Holds trace (objects ++ own)

-- the history gains an event, and the trace its object
pub record HasTakenOne (by : Caller) (what : Action Global) (reply : Reply) (objects : List ℕ)
    (old new : Kept Global) (trace : Trace) : Type 0 where
  pub after : List ℕ
  pub told : HasWrittenOne traces by what reply old new (Some objects) (Some after)
  pub holds : Holds trace after

-- as `HasTakenOne`, for the element of a call at the frame's start index. `next` is the index of the next
-- element if the call continues
pub record HasTakenElement (by : Caller) (frame : Frame Global) (next : Option ℕ) (objects : List ℕ)
    (old new : Kept Global) (trace : Trace) : Type 0 where
  pub after : List ℕ
  pub told : HasWrittenElement traces by frame next old new (Some objects) (Some after)
  pub holds : Holds trace after

-- the history gains entries, and the trace the object of each
pub record HasTraced (objects : List ℕ) (old new : Kept Global) (trace : Trace) : Type 0 where
  pub more : List (Entry Global)
  pub after : List ℕ
  pub told : HasWritten traces more old new (Some objects) (Some after)
  pub holds : Holds trace after

-- the trace has the objects of the entries after the first `before`
pub record IsTraced (before : ℕ) (bench : Bench) : Type 0 where
  pub objects : List ℕ
  pub told : AreTraced before (Some bench.kept) objects
  pub holds : Holds bench.trace objects

-- if there are such entries
abbrev pub IsTracedIn : ℕ → Option Bench → Type 0
IsTracedIn before None = Unit {0}
IsTracedIn before (Some bench) = before < length bench.kept.history → IsTraced before bench
