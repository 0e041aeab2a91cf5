-- When a frame is that of a call, and its first fault if it is not.
use Rattle.std.specs.Prelude.{◌≡◌, ℕ, ◌+◌, ◌%◌, ◌==◌, ◌&&◌, ◌||◌, Bool, true, not, if◌then◌else◌, nat_le}
use Rattle.std.specs.Prelude.{nat_lt, List, ◌++◌, Option, Some, None}
use Rattle.std.specs.Int.{w64, to_le_bytes}
use Rattle.hv_defs.specs.Bits.{bits}
use Rattle.hv_defs.specs.declared.sizes.TheConstants.{PAGE_SIZE}
use Rattle.hv_abi.specs.declared.frame.Frame.{Frame}
use Rattle.hv_abi.specs.declared.frame.Shape.{Shape}
use Rattle.hv_abi.specs.declared.frame.AbiFault.{AbiFault}
use Rattle.hv_abi.specs.declared.frame.AbiFault.TheVariants.{UnknownCode, Input, Alignment}
use Rattle.hv_abi.specs.declared.call_kind.CallKind.{CallKind}
use Rattle.hv_abi.specs.declared.call_kind.CallRow.{CallRow}
use Rattle.hv_abi.specs.InputValue.{is_reserved_zero}
use Rattle.hv_abi.specs.CallRow.{row_of, kind_of, input_len, output_len}

-- the call of a frame: the one with its call code, bits 15:0
abbrev pub call_of : {A : Type 0} → Frame A → Option CallKind
call_of frame = kind_of (bits frame.rcx 0 16)

-- whether the fast bit of an input value, bit 16, is set
abbrev pub is_fast : ℕ → Bool
is_fast rcx = bits rcx 16 1 == 1

-- a rep call counts at least one rep and starts below its count, a simple call has neither
abbrev pub are_reps_valid : Bool → ℕ → ℕ → Bool
are_reps_valid rep reps start = if rep then nat_le 1 reps && nat_lt start reps else (reps == 0) &&
    (start == 0)

-- whether an input value is one that the call takes
abbrev pub is_input_valid : CallRow → ℕ → Bool
is_input_valid row rcx =
    is_reserved_zero rcx && (not (is_fast rcx) || row.fast) && are_reps_valid row.rep (bits rcx 32 12)
    (bits rcx 48 12)

-- whether a list may be at an address: at a multiple of 8 and within one page, or anywhere if it is empty
abbrev pub is_placed : ℕ → ℕ → Bool
is_placed address len = (len == 0) || ((address % 8 == 0) && nat_le (address % PAGE_SIZE + len) PAGE_SIZE)

-- whether the lists of a frame may be at their addresses: input at RDX, output at R8. A fast call has no
-- lists
abbrev pub are_lists_placed : {A : Type 0} → CallRow → Frame A → Bool
are_lists_placed row frame =
    is_fast frame.rcx || (is_placed frame.rdx (input_len row (bits frame.rcx 32 12)) && is_placed frame.r8
    (output_len row (bits frame.rcx 32 12)))

-- the frame is that of a call, and the shape holds what its input value says
pub record IsShape {A : Type 0} (frame : Frame A) (shape : Shape) : Type 0 where
  pub kind : call_of frame ≡ Some shape.kind
  pub fast : shape.fast ≡ is_fast frame.rcx
  pub reps : shape.reps ≡ bits frame.rcx 32 12
  pub start : shape.start ≡ bits frame.rcx 48 12
  pub valid : is_input_valid (row_of shape.kind) frame.rcx ≡ true
  pub placed : are_lists_placed (row_of shape.kind) frame ≡ true

-- the first fault of a frame of this call, or of no call
abbrev pub fault_at : {A : Type 0} → Frame A → Option CallKind → Option AbiFault
fault_at frame None = Some UnknownCode
fault_at frame (Some kind) =
    if not (is_input_valid (row_of kind) frame.rcx) then Some Input
    else if not (are_lists_placed (row_of kind) frame) then Some Alignment else None

-- the first fault of a frame, if it has one
abbrev pub first_fault : {A : Type 0} → Frame A → Option AbiFault
first_fault frame = fault_at frame (call_of frame)

-- a frame's input: the bytes of RDX and then those of R8 if it is fast, else the list
abbrev pub input_of : {A : Type 0} → Frame A → Bool → List ℕ
input_of frame fast = if fast then to_le_bytes w64 frame.rdx ++ to_le_bytes w64 frame.r8 else frame.input
