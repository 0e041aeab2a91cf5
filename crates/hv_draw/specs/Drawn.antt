-- The meaning of a drawing.
use Rattle.std.specs.Prelude.{ℕ, ◌≡◌, ◌≤◌, ◌⊎◌, ◌++◌, true, List, [], Ok, Option, None, Some, length}
use Rattle.std.specs.Borrow.{Bor}
use Rattle.std.specs.FinMap.{entries, keys}
use Rattle.std.specs.Io.KnownBytes.{Appends}
use Rattle.std.specs.declared.alloc.Global.{Global}
use Rattle.hv_check.specs.Legal.{IsEnd, IsLegal}
use Rattle.hv_explain.specs.First.{AreFirst}
use Rattle.hv_explain.specs.Written.{Telling}
use Rattle.hv_history.specs.Kept.{IsRun, Kept}
use Rattle.hv_history.specs.declared.entry.Entry.{Entry}
use Rattle.hv_partition.specs.Partition.{PartitionState}
use Rattle.hv_run.specs.Written.{HasPart}
use Rattle.hv_script.specs.Script.{Said, script_of}
use Rattle.hv_admit.specs.Room.{roomless}
use Rattle.hv_text.specs.Audit.{entries_text}
use Rattle.hv_tree.specs.Rows.{Rows}
use Rattle.hv_draw.specs.Chosen.{IsChosenGraph}
use Rattle.hv_draw.specs.Graph.{AreBlocks, end_text, head_text}
use Rattle.hv_draw.specs.declared.choice.Only.{Only}

-- the teller writes nothing
abbrev pub nothing : Telling
nothing number e effect text = text ≡ []

-- the text is a graph of the machine: its head, the block of each partition, by rising id, some text after
-- the blocks, and its end, which tells the number of events
pub record IsGraph (kept : Kept Global) (text : List ℕ) : Type 0 where
  pub tree : Rows PartitionState
  pub shown : roomless tree ≡ kept.machine.rows
  pub blocks : List ℕ
  pub behind : List ℕ
  pub are : AreBlocks tree (entries tree) blocks
  pub all : text ≡ head_text (length (keys tree)) ++ blocks ++ behind ++ end_text (length kept.history)

-- the graph of the machine, or of a choice
abbrev pub IsPicture : Option Only → Kept Global → List ℕ → Type 0
IsPicture None kept text = IsGraph kept text
IsPicture (Some only) kept text = IsChosenGraph only kept text

-- the writer gets that graph
pub record HasPicture (only : Option Only) (kept : Kept Global) (old new : Option (List ℕ)) : Type 0 where
  pub text : List ℕ
  pub picture : IsPicture only kept text
  pub told : Appends old new text

-- the writer gets a first part of that graph of a machine after a run
pub record HasCutPicture (only : Option Only) (old new : Option (List ℕ)) : Type 0 where
  pub kept : Kept Global
  pub run : IsRun kept
  pub text : List ℕ
  pub picture : IsPicture only kept text
  pub told : HasPart text old new

-- whatever the status is: nothing, or a first part of a graph
abbrev pub HasStatePart : Option Only → Option (List ℕ) → Option (List ℕ) → Type 0
HasStatePart only old new = (new ≡ old) ⊎ HasCutPicture only old new

-- The writer gets the graph of the machine after a history. The history is a run from the script's boot, with
-- at most as many events as its limit, and its events are these.
pub record HasState (said : Said Global) (AreThese : List (Entry Global) → Type 0) (only : Option Only)
    (old new : Option (List ℕ)) : Type 0 where
  pub kept : Kept Global
  pub run : IsRun kept
  pub config : kept.config ≡ said.config
  pub limit : kept.limit ≡ said.limit
  pub these : AreThese kept.history
  pub drawn : HasPicture only kept old new

-- as `HasState`, for the script with this text
pub record HasStateFrom (script : List ℕ) (AreThese : Said Global → List (Entry Global) → Type 0)
    (only : Option Only) (old new : Option (List ℕ)) : Type 0 where
  pub said : Said Global
  pub is : script_of script ≡ Ok said
  pub state : HasState said (AreThese said) only old new

-- what may be left of an audit after this number of its events: its end, or anything after the first `at`
abbrev pub IsLeft : Option ℕ → ℕ → List ℕ → Type 0
IsLeft None events rest = IsEnd true events rest
IsLeft (Some at) events rest = (IsEnd true events rest × (events ≤ at)) ⊎ (events ≡ at)

-- the audit begins with the lines of these events: the first `at` of its own, or all if there are fewer
pub record IsBeginning (at : Option ℕ) (audit : List ℕ) (history : List (Entry Global)) : Type 0 where
  pub rest : List ℕ
  pub begins : audit ≡ entries_text 1 history ++ rest
  pub left : IsLeft at (length history) rest

-- as `IsBeginning`, for an audit that is legal, and may end early
abbrev pub AreFirstOf : Option ℕ → List ℕ → Said Global → List (Entry Global) → Type 0
AreFirstOf at audit said history = IsLegal true true said audit × IsBeginning at audit history

-- the events before a state: those of the audit, or without one those that the script's lines ask for, in the
-- lines' order. They are the first `at` of them, or all if there are fewer
abbrev pub AreEvents : Option ℕ → Option (Bor (List ℕ)) → Said Global → List (Entry Global) → Type 0
AreEvents at None said history = AreFirst at said.lines history
AreEvents at (Some audit) said history = AreFirstOf at audit.now said history

-- the writer gets the graph of the state of the script with this text, or of its audit, after these events
abbrev pub HasStateOf : List ℕ → Option (Bor (List ℕ)) → Option ℕ → Option Only → Option (List ℕ) →
    Option (List ℕ) → Type 0
HasStateOf script audit at only old new = HasStateFrom script (AreEvents at audit) only old new

-- as `HasStateOf`, for the whole graph of a script without an audit
abbrev pub HasDrawnOf : List ℕ → Option ℕ → Option (List ℕ) → Option (List ℕ) → Type 0
HasDrawnOf text at old new = HasStateOf text None at None old new

abbrev pub HasDrawnPart : Option (List ℕ) → Option (List ℕ) → Type 0
HasDrawnPart old new = HasStatePart None old new
