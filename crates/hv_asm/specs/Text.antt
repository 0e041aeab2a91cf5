-- The script that a text means.
use Rattle.std.specs.Prelude.{ℕ, ◌+◌, nat_lt, Bool, true, false, List, [], ◌∷◌, ◌++◌, length, Result, Ok}
use Rattle.std.specs.Prelude.{Err, if◌then◌else◌}
use Rattle.std.specs.List.{join_with_byte}
use Rattle.std.specs.declared.alloc.Global.{Global}
use Rattle.hv_script.specs.Line.{◌>>=◌}
use Rattle.hv_script.specs.Script.{script_of}
use Rattle.hv_script.specs.Words.{lines_of}
use Rattle.hv_script.specs.declared.fault.FaultKind.TheVariants.{Long}
use Rattle.hv_script.specs.declared.fault.ScriptFault.{ScriptFault}
use Rattle.hv_script.specs.declared.script.TheConstants.{MOST_BYTES}
use Rattle.hv_asm.specs.Line.{line_of}
use Rattle.hv_asm.specs.declared.fault.AsmError.{AsmError}
use Rattle.hv_asm.specs.declared.fault.AsmFault.{AsmFault}
use Rattle.hv_asm.specs.declared.fault.AsmFault.TheVariants.{Script}

-- a result whose fault is at this line
abbrev pub at_line : {T : Type 0} → ℕ → Result T AsmFault → Result T AsmError
at_line number (Ok value) = Ok value
at_line number (Err fault) = Err (record { line = number; kind = fault })

-- what lines mean, the first with this number; the first fault decides
abbrev pub lines_meant : ℕ → List (List ℕ) → Result (List (List ℕ)) AsmError
lines_meant number [] = Ok []
lines_meant number (line ∷ lines) = do
  first ← at_line number (line_of line)
  rest ← lines_meant (number + 1) lines
  Ok (first ∷ rest)

-- the line feed behind a line, if there is one
abbrev pub line_end : Bool → List ℕ
line_end true = 10 ∷ []
line_end false = []

-- a text, and behind it what the lines of another mean, the first with this number
abbrev pub with_lines : List ℕ → ℕ → List ℕ → Result (List ℕ) AsmError
with_lines before number text = do
  lines ← lines_meant number (lines_of text)
  Ok (before ++ join_with_byte 10 lines)

-- a script that is read without a fault
abbrev pub if_read : {T : Type 0} → List ℕ → Result T ScriptFault → Result (List ℕ) AsmError
if_read script (Ok said) = Ok script
if_read script (Err fault) = Err (record { line = fault.line; kind = Script fault.kind })

-- The script that a text means, or the first fault: that of the first line by names that has one, or else
-- that of the script. A text of more than 1,048,576 bytes isn't read.
unfoldable pub script_meant : List ℕ → Result (List ℕ) AsmError
script_meant text =
    if nat_lt MOST_BYTES (length text) then Err (record { line = 0; kind = Script Long })
    else (do
      script ← with_lines [] 1 text
      if_read script (script_of {A = Global} script))
