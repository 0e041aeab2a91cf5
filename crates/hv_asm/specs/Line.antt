-- Lines by names, and the lines of numbers that they mean.
use Rattle.std.specs.Prelude.{ℕ, ◌||◌, ◌&&◌, not, nat_eq, List, [], ◌∷◌, drop, codes, Bool, Result, Ok, Err}
use Rattle.std.specs.Prelude.{ok_or, if◌then◌else◌}
use Rattle.std.specs.List.{starts_with}
use Rattle.std.specs.Str.{bytes_eq}
use Rattle.std.specs.declared.alloc.Global.{Global}
use Rattle.hv_policy.specs.declared.event.Action.{Action}
use Rattle.hv_policy.specs.declared.event.Action.TheVariants.{Hypercall, ReadMsr, WriteMsr}
use Rattle.hv_policy.specs.declared.event.Caller.{Caller}
use Rattle.hv_script.specs.Line.{◌>>=◌, processor_of}
use Rattle.hv_script.specs.Recorded.{line_text}
use Rattle.hv_script.specs.Words.{has_good_bytes, is_skipped, word_at, words_of}
use Rattle.hv_script.specs.declared.fault.FaultKind.TheVariants.{Byte, Count, Word}
use Rattle.hv_asm.specs.Frame.{frame_of}
use Rattle.hv_asm.specs.List.{as_script}
use Rattle.hv_asm.specs.Names.{call_named, msr_of}
use Rattle.hv_asm.specs.Values.{numeral}
use Rattle.hv_asm.specs.declared.fault.AsmFault.{AsmFault}
use Rattle.hv_asm.specs.declared.fault.AsmFault.TheVariants.{Script}

-- a line by names has `read`, `write` or a name that begins with `Hv` as its second word
abbrev pub is_name : List ℕ → Bool
is_name verb = bytes_eq verb (codes "read") || bytes_eq verb (codes "write") || starts_with nat_eq verb
    (codes "Hv")

abbrev pub is_by_names : List (List ℕ) → Bool
is_by_names words = not (is_skipped words) && is_name (word_at words 1)

-- the MSR that is read, and the MSR that is written with its value
abbrev pub read_of : {A : Type 0} → List (List ℕ) → Result (Action A) AsmFault
read_of (msr ∷ []) = msr_of msr >>= (λ msr. Ok (ReadMsr msr))
read_of words = Err (Script Count)

abbrev pub write_of : {A : Type 0} → List (List ℕ) → Result (Action A) AsmFault
write_of (msr ∷ value ∷ []) = do
  msr ← msr_of msr
  value ← numeral 64 value
  Ok (WriteMsr msr value)
write_of words = Err (Script Count)

-- the hypercall of a name, by the words behind it
abbrev pub call_of : {A : Type 0} → List ℕ → List (List ℕ) → Result (Action A) AsmFault
call_of verb words = do
  call ← ok_or (call_named verb) (Script Word)
  frame ← frame_of call words
  Ok (Hypercall frame)

-- the action of a line by names
unfoldable pub action_of : {A : Type 0} → List ℕ → List (List ℕ) → Result (Action A) AsmFault
action_of verb words =
    if bytes_eq verb (codes "read") then read_of words
    else (if bytes_eq verb (codes "write") then write_of words else call_of verb words)

-- the line of numbers that a line by names means
unfoldable pub numbers_of : {A : Type 0} → List (List ℕ) → Result (Caller × Action A) AsmFault
numbers_of words = do
  by ← as_script (processor_of (word_at words 0))
  what ← action_of (word_at words 1) (drop 2 words)
  Ok (by, what)

-- the line that a line means: its numbers, or itself where it isn't by names
unfoldable pub line_of : List ℕ → Result (List ℕ) AsmFault
line_of line =
    if is_by_names (words_of line) then (if has_good_bytes line then (do
      event ← numbers_of {A = Global} (words_of line)
      Ok (line_text event.0 event.1))
    else Err (Script Byte))
    else Ok line
