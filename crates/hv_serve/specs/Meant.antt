-- The meaning of a line of a session.
use Rattle.std.specs.Prelude.{ℕ, ◌==◌, nat_lt, List, length, codes, if◌then◌else◌, Option}
use Rattle.std.specs.Prelude.{Bool, true, false, Some, None, Result, Ok, Err}
use Rattle.std.specs.declared.alloc.Global.{Global}
use Rattle.hv_asm.specs.Line.{line_of}
use Rattle.hv_asm.specs.declared.fault.AsmFault.{AsmFault}
use Rattle.hv_script.specs.Line.{◌>>=◌}
use Rattle.hv_script.specs.Script.{SoFar, read_line}
use Rattle.hv_script.specs.Words.{begins_with, has_good_bytes, is_skipped, words_of}
use Rattle.hv_script.specs.declared.fault.FaultKind.{FaultKind}
use Rattle.hv_script.specs.declared.fault.FaultKind.TheVariants.{Long, NoBoot, Count}
use Rattle.hv_script.specs.declared.script.TheConstants.{MOST_BYTES}
use Rattle.hv_serve.specs.Peek.{peek_of}
use Rattle.hv_serve.specs.declared.peek.Peek.{Peek}
use Rattle.hv_serve.specs.declared.request.Request.{Request}
use Rattle.hv_serve.specs.declared.request.Request.TheVariants as request

-- the meaning of a line
pub data Meant : Type 0 where
  -- a line of a script: what has been read after it
  Reads : Option (SoFar Global) → Meant
  -- a request for the table
  Asks : Meant
  -- a request for a look at a processor
  Peeks : Peek → Meant
  -- a request for the explanation of the last event
  Explains : Meant
  -- a request for help
  Helps : Meant
  -- a line by names that has this fault
  Misnames : AsmFault → Meant

-- what a line asks for, by its first word
abbrev pub request_of : List (List ℕ) → Option Request
request_of words =
    if begins_with words (codes "table") then Some request.Table
    else (if begins_with words (codes "peek") then Some request.Peek
    else (if begins_with words (codes "explain") then Some request.Explain
    else (if begins_with words (codes "help") then Some request.Help else None)))

-- a line of one word
abbrev pub alone : Meant → List (List ℕ) → Result Meant FaultKind
alone meaning words = if length words == 1 then Ok meaning else Err Count

-- the meaning of a line that asks for something
abbrev pub asked : Request → List (List ℕ) → Result Meant FaultKind
asked request.Table words = alone Asks words
asked request.Peek words = do
  peek ← peek_of words
  Ok (Peeks peek)
asked request.Explain words = alone Explains words
asked request.Help words = alone Helps words

-- it is about a machine
abbrev pub needs_boot : Request → Bool
needs_boot request.Table = true
needs_boot request.Peek = true
needs_boot request.Explain = true
needs_boot request.Help = false

-- but for help, it asks for something once a machine is booted
abbrev pub request_line : Request → Option (SoFar Global) → List (List ℕ) → Result Meant FaultKind
request_line request None words = if needs_boot request then Err NoBoot else asked request words
request_line request (Some so_far) words = asked request words

-- what a line asks for. It isn't skipped, and has no bad byte
abbrev pub request_by : List ℕ → Option Request
request_by line = if is_skipped (words_of line) then None
    else (if has_good_bytes line then request_of (words_of line) else None)

-- the meaning of a line that asks for this, or is read as one of a script
abbrev pub meaning : Option Request → Option (SoFar Global) → List ℕ → Result Meant FaultKind
meaning (Some request) before line = request_line request before (words_of line)
meaning None before line = do
  after ← read_line before line
  Ok (Reads after)

-- the meaning of a line after what was read before: its meaning in a script, unless it asks for something, or
-- is longer than any script
unfoldable pub meant : Option (SoFar Global) → List ℕ → Result Meant FaultKind
meant before line =
    if nat_lt MOST_BYTES (length line) then Err Long else meaning (request_by line) before line

-- the meaning of a line by names that means this line, or has this fault
abbrev pub meant_as : Option (SoFar Global) → Result (List ℕ) AsmFault → Result Meant FaultKind
meant_as before (Ok line) = meant before line
meant_as before (Err fault) = Ok (Misnames fault)

-- the meaning of a line, which may be by names: that of the line that it means
abbrev pub meant_by : Bool → Option (SoFar Global) → List ℕ → Result Meant FaultKind
meant_by false before line = meant before line
meant_by true before line =
    if nat_lt MOST_BYTES (length line) then Err Long else meant_as before (line_of line)

-- the line that a line means, or itself if it has a fault
abbrev pub if_meant : List ℕ → Result (List ℕ) AsmFault → List ℕ
if_meant line (Ok plain) = plain
if_meant line (Err fault) = line

abbrev pub plain_of : Bool → List ℕ → List ℕ
plain_of false line = line
plain_of true line = if_meant line (line_of line)
