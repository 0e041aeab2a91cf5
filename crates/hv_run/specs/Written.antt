-- The output of a run.
use Rattle.std.specs.Prelude.{◌≡◌, ◌⊎◌, ℕ, Bool, List, [], ◌++◌, if◌then◌else◌, IsTrue, take, Option, Ok}
use Rattle.std.specs.Io.KnownBytes.{Appends}
use Rattle.std.specs.declared.alloc.Global.{Global}
use Rattle.hv_history.specs.Kept.{Kept, IsRun}
use Rattle.hv_history.specs.Row.{events_of}
use Rattle.hv_phases.specs.Begun.{IsSettledPart}
use Rattle.hv_phases.specs.Lines.{AreInOrder, ArePhased, AreRun}
use Rattle.hv_policy.specs.Step.{run}
use Rattle.hv_script.specs.Script.{Said, script_of}
use Rattle.hv_text.specs.Audit.{audit_text}
use Rattle.hv_text.specs.Table.{table_text}

-- the audit of a history, and with `--table` the table of the state in which the run of its events ends
abbrev pub told_by : Bool → Kept Global → List ℕ
told_by with_table kept =
    audit_text kept.history ++ (if with_table then table_text (run kept.config (events_of kept.history)).0
    else [])

-- The writer got the audit of a history, and with `with_table` its table. The history is a run from the boot
-- of the script that a text says, with at most as many events as its limit. In its machine each page has one
-- owner, and no mask exceeds the parent's. Each processor's events are those that its lines ask for, in their
-- order, and those of a phase come after those of all phases before it. With `--serial`, those of each line
-- come after those of the line before it.
pub record HasWritten (text : List ℕ) (serial with_table : Bool) (old new : Option (List ℕ)) : Type 0 where
  pub said : Said Global
  pub is : script_of text ≡ Ok said
  pub kept : Kept Global
  pub run : IsRun kept
  pub config : kept.config ≡ said.config
  pub limit : kept.limit ≡ said.limit
  pub lines : AreRun said.lines kept.history
  pub phases : ArePhased said.lines kept.history
  pub order : IsTrue serial → AreInOrder 1 said.lines kept.history
  pub told : Appends old new (told_by with_table kept)

-- the writer got the first `count` bytes of a text
pub record HasPart (text : List ℕ) (old new : Option (List ℕ)) : Type 0 where
  pub count : ℕ
  pub told : Appends old new (take count text)

-- The writer got the first bytes of the audit of a history, and with `with_table` of its table. The history
-- is a run from the boot of the script that a text says, with at most as many events as its limit. Phases
-- that came to their end are whole, and of the last one each processor's events are a first part of what its
-- lines ask for.
pub record HasWrittenKept (text : List ℕ) (serial with_table : Bool) (old new : Option (List ℕ)) : Type 0
  where
    pub said : Said Global
    pub is : script_of text ≡ Ok said
    pub kept : Kept Global
    pub run : IsRun kept
    pub part : IsSettledPart said.config said.limit serial said.lines kept
    pub told : HasPart (told_by with_table kept) old new

-- the output of a run that failed: that of what is kept, or nothing if no machine was booted or the
-- settlement found a fault
abbrev pub HasWrittenPart : List ℕ → Bool → Bool → Option (List ℕ) → Option (List ℕ) → Type 0
HasWrittenPart text serial with_table old new = (new ≡ old) ⊎ HasWrittenKept text serial with_table old new
