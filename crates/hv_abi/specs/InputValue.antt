-- The two values of a hypercall: the input value in RCX, and the result value in RAX.
use Rattle.std.specs.Prelude.{ℕ, ◌+◌, ◌*◌, ◌%◌, ◌/◌, ◌^◌, ◌==◌, ◌&&◌, Bool}
use Rattle.hv_defs.specs.Bits.{bits}
use Rattle.hv_abi.specs.declared.input_value.InputValue.{InputValue}

-- whether bits 26:17, 31:27, 47:44 and 63:60 are zero
abbrev pub is_reserved_zero : ℕ → Bool
is_reserved_zero rcx = (bits rcx 17 10 == 0) && (bits rcx 27 5 == 0) && (bits rcx 44 4 == 0) &&
    (bits rcx 60 4 == 0)

-- the fields of an input value: bits 15:0 call code, 16 fast, 43:32 rep count, 59:48 rep start index
abbrev pub input_value : ℕ → InputValue
input_value rcx = record {
  call = bits rcx 0 16;
  fast = bits rcx 16 1 == 1;
  reps = bits rcx 32 12;
  start = bits rcx 48 12;
  reserved_zero = is_reserved_zero rcx;
}

-- the input value with another rep start index
abbrev pub restarted : ℕ → ℕ → ℕ
restarted rcx start = rcx % 2 ^ 48 + start * 2 ^ 48 + rcx / 2 ^ 60 * 2 ^ 60

-- the result value: bits 15:0 the status, 43:32 the reps completed, all others zero
abbrev pub result_value : ℕ → ℕ → ℕ
result_value status reps = status + reps * 2 ^ 32
