-- The frame of a call by names.
use Rattle.std.specs.Prelude.{ℕ, ◌+◌, ◌*◌, ◌^◌, List, [], ◌∷◌, length, nat_lt, codes, Bool, true, false}
use Rattle.std.specs.Prelude.{Result, Ok, Err, if◌then◌else◌}
use Rattle.std.specs.Str.{bytes_eq}
use Rattle.hv_abi.specs.CallRow.{row_of}
use Rattle.hv_abi.specs.declared.call_kind.CallKind.{CallKind}
use Rattle.hv_abi.specs.declared.frame.Frame.{Frame}
use Rattle.hv_defs.specs.Field.{field}
use Rattle.hv_script.specs.Line.{◌>>=◌}
use Rattle.hv_script.specs.declared.fault.FaultKind.TheVariants.{Number}
use Rattle.hv_asm.specs.List.{elements_of, list_of}
use Rattle.hv_asm.specs.Values.{option_value}
use Rattle.hv_asm.specs.declared.fault.AsmFault.{AsmFault}
use Rattle.hv_asm.specs.declared.fault.AsmFault.TheVariants.{Script, NoFastForm}

-- a rep count or a start index has 12 bits
abbrev pub twelve_bits : ℕ → Result ℕ AsmFault
twelve_bits number = if nat_lt number 4096 then Ok number else Err (Script Number)

-- bit 16 of the input value
abbrev pub fast_bit : Bool → ℕ
fast_bit true = 2 ^ 16
fast_bit false = 0

-- the input value: the rep count is the number of elements, and the start index 0, where they aren't given
unfoldable pub rcx_of : CallKind → Bool → List (List ℕ) → Result ℕ AsmFault
rcx_of call fast words = do
  reps ← option_value (codes "reps") (length (elements_of call fast words)) words >>= twelve_bits
  start ← option_value (codes "start") 0 words >>= twelve_bits
  Ok ((row_of call).code + fast_bit fast + reps * 2 ^ 32 + start * 2 ^ 48)

-- a fast call has its list in RDX and R8
unfoldable pub fast_frame : {A : Type 0} → CallKind → List (List ℕ) → Result (Frame A) AsmFault
fast_frame call words =
    if (row_of call).fast then (do
      list ← list_of call true words
      rcx ← rcx_of call true words
      Ok (record { rcx = rcx; rdx = field list 0 8; r8 = field list 8 8; input = [] }))
    else Err NoFastForm

-- any other has it at an address, which is 0 where it isn't given
unfoldable pub listed_frame : {A : Type 0} → CallKind → List (List ℕ) → Result (Frame A) AsmFault
listed_frame call words = do
  list ← list_of call false words
  rcx ← rcx_of call false words
  rdx ← option_value (codes "input") 0 words
  r8 ← option_value (codes "output") 0 words
  Ok (record { rcx = rcx; rdx = rdx; r8 = r8; input = list })

-- the frame by the words behind the call's name, the first of which may be `fast`
abbrev pub frame_of : {A : Type 0} → CallKind → List (List ℕ) → Result (Frame A) AsmFault
frame_of call [] = listed_frame call []
frame_of call (word ∷ words) = if bytes_eq word (codes "fast") then fast_frame call words else listed_frame
    call (word ∷ words)
