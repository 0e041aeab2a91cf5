-- A session: its lines, the outcome of each, and the answer to each.
use Rattle.std.specs.Prelude.{ℕ, ◌≡◌, ◌≢◌, ◌⊎◌, ◌↔◌, ◌==◌, ◌+◌, ◌++◌, List, [], ◌∷◌, length, drop, map, codes}
use Rattle.std.specs.Prelude.{decimal, All, Bool, IfSome, Option, Some, None, Result, Ok, Err}
use Rattle.std.specs.Prelude.{if◌then◌else◌}
use Rattle.std.specs.Prelude.{option_and_then, option_map, take, unwrap_or}
use Rattle.std.specs.Io.KnownBytes.{Appends}
use Rattle.std.specs.List.{join_with_byte}
use Rattle.std.specs.declared.alloc.Global.{Global}
use Rattle.hex.specs.Hex.{encode_lower}
use Rattle.hv_explain.specs.Written.{AreTold, head_text, last_of}
use Rattle.hv_history.specs.Kept.{IsRun, Kept}
use Rattle.hv_history.specs.Row.{events_of}
use Rattle.hv_history.specs.declared.entry.Entry.{Entry}
use Rattle.hv_history.specs.declared.kept.HostRefused.{HostRefused}
use Rattle.hv_history.specs.declared.kept.HostRefused.TheVariants as host
use Rattle.hv_phases.specs.Lines.{AreInOrder}
use Rattle.hv_policy.specs.BootFault.{IsBootRefusal}
use Rattle.hv_policy.specs.Flat.{Flat}
use Rattle.hv_policy.specs.Step.{run}
use Rattle.hv_policy.specs.declared.config.BootRefused.{BootRefused}
use Rattle.hv_run.specs.Written.{HasPart}
use Rattle.hv_run.specs.declared.failure.Exit.{Exit}
use Rattle.hv_run.specs.declared.failure.Exit.TheVariants.{Script}
use Rattle.hv_script.specs.Script.{SoFar}
use Rattle.hv_script.specs.declared.fault.FaultKind.{FaultKind}
use Rattle.hv_script.specs.declared.line.Line.{Line}
use Rattle.hv_shared.specs.ByCaller.{receipts_by}
use Rattle.hv_text.specs.Audit.{entries_text}
use Rattle.hv_text.specs.Table.{table_text}
use Rattle.hv_threads.specs.Perform.{IsStopped}
use Rattle.hv_trace.specs.Trace.{traces}
use Rattle.hv_words.specs.Words.{IsPlain}
use Rattle.hv_serve.specs.Json.{end_object, events_value, greeting_text, object_text}
use Rattle.hv_serve.specs.Meant.{Asks, Explains, Helps, Meant, Misnames, Peeks, Reads, meant_by}
use Rattle.hv_serve.specs.Outcome.{fault_text, named_fault_text, named_text}
use Rattle.hv_serve.specs.Peek.{seen_of}
use Rattle.hv_serve.specs.declared.form.Form.{Form}
use Rattle.hv_serve.specs.declared.form.Form.TheVariants.{Text, Json}
use Rattle.hv_serve.specs.declared.help.TheConstants.{HELP}
use Rattle.hv_serve.specs.declared.outcome.Outcome.{Outcome}
use Rattle.hv_serve.specs.declared.outcome.Outcome.TheVariants.{Done, Table, Peek, Explain, Help, Fault}
use Rattle.hv_serve.specs.declared.outcome.Outcome.TheVariants.{Named, Boot, Host}

-- the state of a session: what its lines said, and the machine with its history
pub record Served : Type 0 where
  pub read : SoFar Global
  pub kept : Kept Global

-- what was read, and the machine; before the boot line there is neither
abbrev pub read_of : Option Served → Option (SoFar Global)
read_of None = None
read_of (Some served) = Some served.read

abbrev pub kept_of : Option Served → Option (Kept Global)
kept_of None = None
kept_of (Some served) = Some served.kept

-- the machine's history, if there is a machine
abbrev pub history_of : Option (Kept Global) → List (Entry Global)
history_of None = []
history_of (Some kept) = kept.history

-- the boot line booted a machine, which has taken no event
pub record IsBooted (now : Served) : Type 0 where
  pub config : now.kept.config ≡ now.read.boot.config
  pub limit : now.kept.limit ≡ now.read.boot.limit
  pub lines : now.read.lines ≡ []
  pub history : now.kept.history ≡ []
  pub run : IsRun now.kept

-- the session read these lines of processors, and the history gains the entries of what they ask for, to its
-- end, in their order. The machine is still that of the boot line. A line of a session adds one of these
-- lines, or none
pub record HasDone (old new : Served) : Type 0 where
  pub lines : List (Line Global)
  pub own : List (Entry Global)
  pub read : new.read.lines ≡ old.read.lines ++ lines
  pub history : new.kept.history ≡ old.kept.history ++ own
  pub order : AreInOrder (length old.kept.history + 1) lines own
  pub boot : new.read.boot ≡ old.read.boot
  pub config : new.kept.config ≡ old.kept.config
  pub limit : new.kept.limit ≡ old.kept.limit
  pub run : IsRun new.kept

-- the change of state by a line that is done
abbrev pub HasCome : Option Served → Option Served → Type 0
HasCome None None = Unit {0}
HasCome None (Some new) = IsBooted new
HasCome (Some old) None = ⊥
HasCome (Some old) (Some new) = HasDone old new

-- a line of a processor was read, and the host stopped it: the history gains the entries of a part of what it
-- asks for, or none. The history is full exactly if that is the reason
pub record HasStopped (why : HostRefused) (old new : Served) : Type 0 where
  pub line : Line Global
  pub own : List (Entry Global)
  pub read : new.read.lines ≡ old.read.lines ++ line ∷ []
  pub history : new.kept.history ≡ old.kept.history ++ own
  pub by : All (λ e. e.event.by ≡ line.by) own
  pub part : IsStopped line.by line.action (receipts_by line.by (length old.kept.history + 1) own)
  pub full : (why ≡ host.HistoryFull) ↔ (length new.kept.history ≡ new.kept.limit)
  pub boot : new.read.boot ≡ old.read.boot
  pub config : new.kept.config ≡ old.kept.config
  pub limit : new.kept.limit ≡ old.kept.limit
  pub run : IsRun new.kept

-- the host stopped the line with this meaning, which was one of a processor
abbrev pub IsStoppedLine : Option Served → Result Meant FaultKind → HostRefused → Option Served → Type 0
IsStoppedLine None says why after = ⊥
IsStoppedLine (Some old) says why None = ⊥
IsStoppedLine (Some old) says why (Some new) = (says ≡ Ok (Reads (Some new.read))) × HasStopped why old new

-- no machine boots with the configuration of the line
pub record IsRefusedBoot (before : Option Served) (says : Result Meant FaultKind) (why : BootRefused) : Type 0
  where
    pub read : SoFar Global
    pub none : before ≡ None
    pub boots : says ≡ Ok (Reads (Some read))
    pub refused : IsBootRefusal read.boot.config why

-- the outcome of a line with this meaning: it is done; it asks for the table, a look, an explanation or help;
-- it has a fault, by names or not, or its boot is refused; or the host refuses it. Only a line that is done,
-- or a processor's line that the host stops, changes anything. Running out of memory may refuse any line
abbrev pub Becomes : Option Served → Result Meant FaultKind → Outcome → Option Served → Type 0
Becomes before says Done after = (says ≡ Ok (Reads (read_of after))) × HasCome before after
Becomes before says Table after = (says ≡ Ok Asks) × (after ≡ before)
Becomes before says (Peek peek) after = (says ≡ Ok (Peeks peek)) × (after ≡ before)
Becomes before says Explain after = (says ≡ Ok Explains) × (after ≡ before)
Becomes before says Help after = (says ≡ Ok Helps) × (after ≡ before)
Becomes before says (Fault kind) after = (says ≡ Err kind) × (after ≡ before)
Becomes before says (Named fault) after = (says ≡ Ok (Misnames fault)) × (after ≡ before)
Becomes before says (Boot why) after = IsRefusedBoot before says why × (after ≡ before)
Becomes before says (Host why) after = ((why ≡ host.Memory) × (after ≡ before)) ⊎ IsStoppedLine before says
    why after

-- the state at the end of the history's run, and its table
abbrev pub state_of : Kept Global → Flat
state_of kept = (run kept.config (events_of kept.history)).0

abbrev pub table_of : Option (Kept Global) → List ℕ
table_of None = []
table_of (Some kept) = table_text (state_of kept)

-- the audit's lines of the entries after the first `before`
abbrev pub new_text : ℕ → Option (Kept Global) → List ℕ
new_text before now = entries_text (before + 1) (drop before (history_of now))

-- the explanation of the last of these events, if there is one, with these words and without a line feed
abbrev pub explained_of : List (Entry Global) → List ℕ → Option (List ℕ)
explained_of entries words = option_map (λ last. head_text (length entries) last.event.by ++ words)
    (last_of entries)

-- what a line with this outcome shows: the table, the bytes of a look, two digits for each, an explanation
-- with these words, or a fault by names with these words behind it
abbrev pub shown_of : Outcome → Option (Kept Global) → List ℕ → Option (List ℕ)
shown_of Done now words = None
shown_of Table now words = option_map (λ kept. table_of (Some kept)) now
shown_of (Peek peek) now words =
    option_and_then (λ kept. option_map encode_lower (seen_of (state_of kept) peek)) now
shown_of Explain now words = option_and_then (λ kept. explained_of kept.history words) now
shown_of Help now words = None
shown_of (Fault kind) now words = None
shown_of (Named fault) now words = Some (named_text fault ++ words)
shown_of (Boot why) now words = None
shown_of (Host why) now words = None

-- what follows the audit's lines in the answer to the line with this number: the table, a line of what else
-- it shows, the help, or why it wasn't done
abbrev pub told_of : ℕ → Outcome → Option (List ℕ) → List ℕ
told_of number Done shown = []
told_of number Table shown = unwrap_or shown []
told_of number (Peek peek) shown = unwrap_or shown (codes "none") ++ codes "\n"
told_of number Explain shown = unwrap_or shown (codes "none") ++ codes "\n"
told_of number Help shown = HELP.now
told_of number (Fault kind) shown = fault_text number (Fault kind)
told_of number (Named fault) shown = named_fault_text number (unwrap_or shown [])
told_of number (Boot why) shown = fault_text number (Boot why)
told_of number (Host why) shown = fault_text number (Host why)

-- the answer to the line with this number, before which this number of events had happened: the audit's lines
-- of the entries that it adds, then what it asks for, or why it wasn't done. In JSON all of them stand in one
-- object
abbrev pub answer_with : Form → ℕ → ℕ → Outcome → Option (Kept Global) → List ℕ → Option (List ℕ) → List ℕ
answer_with Text number before outcome now objects shown = new_text before now ++ told_of number outcome shown
answer_with Json number before outcome now objects shown = object_text number
    (events_value (before + 1) (drop before (history_of now))) objects outcome shown

-- and if it explains an event or a fault by names, with these words
abbrev pub answer_of : Form → ℕ → ℕ → Outcome → Option (Kept Global) → List ℕ → List ℕ → List ℕ
answer_of form number before outcome now objects words = answer_with form number before outcome now objects
    (shown_of outcome now words)

-- these are the objects of the entries after the first `before`: of each what a trace has of it, in a line
abbrev pub AreTraced : ℕ → Option (Kept Global) → List ℕ → Type 0
AreTraced before None objects = objects ≡ []
AreTraced before (Some kept) objects = AreTold traces kept.config (take before kept.history)
    (drop before kept.history) objects

-- a line without its line feed, its outcome, the answer to it, and in the answer the objects of the line's
-- events and the words of an explanation, or of a fault by names
pub record Turn : Type 0 where
  pub line : List ℕ
  pub outcome : Outcome
  pub answer : List ℕ
  pub objects : List ℕ
  pub words : List ℕ

-- the line with this number, which may be by names, with its outcome and its answer. Explanations have plain
-- words, and in JSON events have objects
pub record IsTurn (form : Form) (names : Bool) (number : ℕ) (before : Option Served) (turn : Turn)
    (after : Option Served) : Type 0 where
  pub one : All (λ byte. byte ≢ 10) turn.line
  pub becomes : Becomes before (meant_by names (read_of before) turn.line) turn.outcome after
  pub plain : IsPlain turn.words
  pub traced : form ≡ Json → AreTraced (length (history_of (kept_of before))) (kept_of after) turn.objects
  pub answer : turn.answer ≡ answer_of form number (length (history_of (kept_of before))) turn.outcome
      (kept_of after) turn.objects turn.words

-- the lines one after another. The first one has this number
abbrev pub AreTurns : Form → Bool → ℕ → Option Served → List Turn → Option Served → Type 0
AreTurns form names number before [] after = after ≡ before
AreTurns form names number before (turn ∷ turns) after = (mid : Option Served)
    × IsTurn form names number before turn mid × AreTurns form names (number + 1) mid turns after

-- the lines, and their answers one after another
abbrev pub lines_in : List Turn → List (List ℕ)
lines_in turns = map (λ turn. turn.line) turns

abbrev pub answers_in : List Turn → List ℕ
answers_in [] = []
answers_in (turn ∷ turns) = turn.answer ++ answers_in turns

-- the number of events, as an audit ends
unfoldable pub end_text : ℕ → List ℕ
end_text count = codes "events " ++ decimal count ++ codes "\n"

-- the lines that have an answer in JSON: each, but not the last one if it is empty. That is no line of the
-- input, but its end after a line feed
abbrev pub answered : List Turn → List Turn
answered [] = []
answered (turn ∷ []) = if length turn.line == 0 then [] else turn ∷ []
answered (turn ∷ next ∷ turns) = turn ∷ answered (next ∷ turns)

-- what the writer gets before all answers
abbrev pub greeting : Form → List ℕ
greeting Text = []
greeting Json = greeting_text

-- what the writer gets for these lines: their answers, and then the number of events. In JSON the program
-- names itself first
abbrev pub told_by : Form → List Turn → ℕ → List ℕ
told_by Text turns count = answers_in turns ++ end_text count
told_by Json turns count = greeting_text ++ answers_in (answered turns) ++ end_object count

-- the input consists of these lines, with a line feed between each two, and the writer gets what they are
-- answered
pub record HasServed (form : Form) (names : Bool) (input old new : Option (List ℕ)) : Type 0 where
  pub turns : List Turn
  pub now : Option Served
  pub served : AreTurns form names 1 None turns now
  pub whole : IfSome input (λ text. text ≡ join_with_byte 10 (lines_in turns))
  pub told : Appends old new (told_by form turns (length (history_of (kept_of now))))

-- what the writer gets for these lines of an input, which more lines follow: their answers. If none follow,
-- it gets the number of events, too
abbrev pub told_before : Form → List Turn → List (List ℕ) → ℕ → List ℕ
told_before form turns [] count = told_by form turns count
told_before form turns (next ∷ more) count = greeting form ++ answers_in turns

-- The input begins with these lines, with a line feed between each two, and the writer gets a first part of
-- what they are answered. If the input can't be read to its end, more lines follow.
pub record HasServedPart (form : Form) (names : Bool) (exit : Exit) (input old new : Option (List ℕ)) :
    Type 0 where
  pub turns : List Turn
  pub more : List (List ℕ)
  pub now : Option Served
  pub served : AreTurns form names 1 None turns now
  pub begins : IfSome input (λ text. text ≡ join_with_byte 10 (lines_in turns ++ more))
  pub unread : exit ≡ Script → more ≢ []
  pub told : HasPart (told_before form turns more (length (history_of (kept_of now)))) old new
