-- The script that a text says.
use Rattle.std.specs.Prelude.{ℕ, ◌+◌, ◌==◌, ◌++◌, ◌∷◌, [], List, length, nat_lt, codes, if◌then◌else◌}
use Rattle.std.specs.Prelude.{Option, Some, None, Result, Ok, Err}
use Rattle.hv_policy.specs.declared.config.Config.{Config}
use Rattle.hv_policy.specs.declared.event.Action.{Action}
use Rattle.hv_policy.specs.declared.event.Caller.{Caller}
use Rattle.hv_script.specs.Callers.{callers_of, have_room}
use Rattle.hv_script.specs.Line.{◌>>=◌, action_of, boot_of, processor_of}
use Rattle.hv_script.specs.Words.{begins_with, has_good_bytes, is_skipped, lines_of, word_at, words_of}
use Rattle.hv_script.specs.declared.boot.Boot.{Boot}
use Rattle.hv_script.specs.declared.fault.FaultKind.{FaultKind}
use Rattle.hv_script.specs.declared.fault.FaultKind.TheVariants.{Long, Byte, NoBoot, BootTwice, Count}
use Rattle.hv_script.specs.declared.fault.FaultKind.TheVariants.{TooMany}
use Rattle.hv_script.specs.declared.fault.ScriptFault.{ScriptFault}
use Rattle.hv_script.specs.declared.line.Line.{Line}
use Rattle.hv_script.specs.declared.script.TheConstants.{MOST_BYTES}

-- what a script says: the numbers of its boot line, and the lines of its processors
pub record Said (A : Type 0) : Type 0 where
  pub config : Config
  pub limit : ℕ
  pub lines : List (Line A)

-- what was read so far: the boot line, the number of phases after it, and the lines of processors
pub record SoFar (A : Type 0) : Type 0 where
  pub boot : Boot
  pub phase : ℕ
  pub lines : List (Line A)

-- the first line that is read
abbrev pub first_line : {A : Type 0} → List (List ℕ) → Result (SoFar A) FaultKind
first_line words = if begins_with words (codes "boot") then (do
  boot ← boot_of words
  Ok (record { boot = boot; phase = 0; lines = [] }))
    else Err NoBoot

-- a `phase` line
abbrev pub phase_line : {A : Type 0} → SoFar A → List (List ℕ) → Result (SoFar A) FaultKind
phase_line so_far words = if length words == 1 then Ok (record so_far { phase = so_far.phase + 1 }) else Err
    Count

-- what was read so far, with one more line of a processor
abbrev pub with_line : {A : Type 0} → SoFar A → Caller → Action A → SoFar A
with_line so_far by action =
    record so_far { lines = so_far.lines ++ record { phase = so_far.phase; by = by; action = action } ∷ [] }

-- a line of a processor is taken if the phase has room for it
abbrev pub taken : {A : Type 0} → SoFar A → Caller → Action A → Result (SoFar A) FaultKind
taken so_far by action =
    if have_room (callers_of so_far.phase so_far.lines) by then Ok (with_line so_far by action) else Err
    TooMany

-- a line of a processor
unfoldable pub processor_line : {A : Type 0} → SoFar A → List (List ℕ) → Result (SoFar A) FaultKind
processor_line so_far words = do
  by ← processor_of (word_at words 0)
  action ← action_of words
  taken so_far by action

-- any line after the first
unfoldable pub later_line : {A : Type 0} → SoFar A → List (List ℕ) → Result (SoFar A) FaultKind
later_line so_far words =
    if begins_with words (codes "boot") then Err BootTwice
    else (if begins_with words (codes "phase") then phase_line so_far words else processor_line so_far words)

-- the state of the reading after a line that isn't skipped
abbrev pub read_words : {A : Type 0} → Option (SoFar A) → List (List ℕ) → Result (SoFar A) FaultKind
read_words None words = first_line words
read_words (Some so_far) words = later_line so_far words

-- the state of the reading after a line
unfoldable pub read_line : {A : Type 0} → Option (SoFar A) → List ℕ → Result (Option (SoFar A)) FaultKind
read_line before line =
    if is_skipped (words_of line) then Ok before
    else (if has_good_bytes line then (do
      so_far ← read_words before (words_of line)
      Ok (Some so_far))
    else Err Byte)

-- a result whose fault is at this line
abbrev pub at_line : {T : Type 0} → ℕ → Result T FaultKind → Result T ScriptFault
at_line number (Ok value) = Ok value
at_line number (Err kind) = Err (record { line = number; kind = kind })

-- the state of the reading after some lines in order, the first with this number
abbrev pub read_lines : {A : Type 0} → ℕ → Option (SoFar A) → List (List ℕ) → Result (Option (SoFar A))
    ScriptFault
read_lines number before [] = Ok before
read_lines number before (line ∷ lines) = do
  after ← at_line number (read_line before line)
  read_lines (number + 1) after lines

-- the script of all lines; if none is read, the fault is that there is no boot, in line 0
abbrev pub said_by : {A : Type 0} → Option (SoFar A) → Result (Said A) ScriptFault
said_by None = Err (record { line = 0; kind = NoBoot })
said_by (Some so_far) = Ok (record {
  config = so_far.boot.config;
  limit = so_far.boot.limit;
  lines =
      so_far.lines;
})

-- the script of a text, or its first fault; a text of more than 1,048,576 bytes isn't read
unfoldable pub script_of : {A : Type 0} → List ℕ → Result (Said A) ScriptFault
script_of text =
    if nat_lt MOST_BYTES (length text) then Err (record { line = 0; kind = Long })
    else (do
      read ← read_lines 1 None (lines_of text)
      said_by read)
