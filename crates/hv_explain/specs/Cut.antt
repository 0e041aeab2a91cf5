-- An event at which telling broke off. Only contracts of private functions cite these words.
use Rattle.std.specs.Prelude.{ℕ, ◌≡◌, ◌≢◌, ◌⊎◌, ◌+◌, List, [], ◌∷◌, ◌++◌, length, codes, All, Option}
use Rattle.std.specs.Io.KnownBytes.{Appends, Keeps}
use Rattle.std.specs.declared.alloc.Global.{Global}
use Rattle.hv_check.specs.Takes.{HasTaken}
use Rattle.hv_explain.specs.Part.{HasPutPart}
use Rattle.hv_explain.specs.Written.{AreTold, Telling, entry_of}
use Rattle.hv_history.specs.Kept.{Kept, IsRun}
use Rattle.hv_history.specs.declared.entry.Entry.{Entry}
use Rattle.hv_phases.specs.Schedule.{StandsFor}
use Rattle.hv_phases.specs.declared.schedule.Schedule.{Schedule}
use Rattle.hv_policy.specs.Next.{GoesOn}
use Rattle.hv_policy.specs.declared.event.Action.{Action}
use Rattle.hv_policy.specs.declared.event.Caller.{Caller}
use Rattle.hv_policy.specs.declared.reply.Reply.{Reply}
use Rattle.hv_run.specs.Written.{HasPart}
use Rattle.hv_run.specs.declared.failure.Failure.{Failure}
use Rattle.hv_run.specs.declared.failure.Failure.TheVariants.{Write}
use Rattle.hv_script.specs.declared.line.Line.{Line}
use Rattle.hv_shared.specs.ByCaller.{receipts_by}
use Rattle.hv_text.specs.Audit.{entry_text}
use Rattle.hv_threads.specs.Perform.{IsStopped, IsWhole}

-- nothing was written; or a write failed, and the writer got a first part of a text of this kind
abbrev pub IsCutText : Failure → (List ℕ → Type 0) → Option (List ℕ) → Option (List ℕ) → Type 0
IsCutText failure Kind before after = Keeps before after ⊎ ((failure ≡ Write) × HasPutPart Kind before after)

-- the history gains these entries, and the writer gets a first part of a text for each
pub record HasWrittenPart (tells : Telling) (more : List (Entry Global)) (old new : Kept Global)
    (before after : Option (List ℕ)) : Type 0 where
  pub history : new.history ≡ old.history ++ more
  pub config : new.config ≡ old.config
  pub limit : new.limit ≡ old.limit
  pub text : List ℕ
  pub told : AreTold tells old.config old.history more text
  pub wrote : HasPart text before after

-- an event was taken, and a write of its text failed
pub record IsCutEvent (tells : Telling) (by : Caller) (what : Action Global) (failure : Failure)
    (old new : Kept Global) (before after : Option (List ℕ)) : Type 0 where
  pub write : failure ≡ Write
  pub reply : Reply
  pub next : GoesOn what reply
  pub told : HasWrittenPart tells (entry_of by what reply ∷ []) old new before after

-- nothing was written of an event, or a part
abbrev pub IsCut : Telling → Caller → Action Global → Failure → Kept Global → Kept Global → Option (List ℕ) →
    Option (List ℕ) → Type 0
IsCut tells by what failure old new before after =
    Keeps before after ⊎ IsCutEvent tells by what failure old new before after

-- the entries of what a processor asked for, to its end, or up to some event
abbrev pub IsEnded : Caller → Action Global → List (Entry Global) → Type 0
IsEnded by what own =
    ((n : ℕ) → IsWhole by what (receipts_by by n own)) ⊎ ((n : ℕ) → IsStopped by what (receipts_by by n own))

-- within what a processor asks for, telling broke off: the writer got the texts of some events, and after a
-- failed write the last one in part
pub record IsCutLine (tells : Telling) (by : Caller) (what : Action Global) (failure : Failure)
    (old : Kept Global) (before after : Option (List ℕ)) : Type 0 where
  pub own : List (Entry Global)
  pub by_it : All (λ e. e.event.by ≡ by) own
  pub ended : IsEnded by what own
  pub now : Kept Global
  pub run : IsRun now
  pub told : HasWrittenPart tells own old now before after
  pub whole : failure ≢ Write → Appends before after told.text

-- the next event of its processor was taken, with whose line the text begins, and a write of what is told of
-- it failed
pub record IsCutNext (tells : Telling) (failure : Failure) (old_kept new_kept : Kept Global)
    (old new : Schedule) (text : List ℕ) (before after : Option (List ℕ)) : Type 0 where
  pub write : failure ≡ Write
  pub entry : Entry Global
  pub run : IsRun new_kept
  pub told : HasWrittenPart tells (entry ∷ []) old_kept new_kept before after
  pub next : (lines : List (Line Global)) → StandsFor old lines → HasTaken lines entry new
  pub rest : List ℕ
  pub line : text ≡ entry_text (length old_kept.history + 1) entry ++ (codes "\n" ++ rest)
