-- The parameters of a frame.
use Rattle.std.specs.Prelude.{◌≡◌, ℕ, ◌+◌, ◌*◌, Bool, true, if◌then◌else◌, List, Result, Ok, Err}
use Rattle.hv_abi.specs.CallRow.{row_of}
use Rattle.hv_abi.specs.Check.{input_of, is_fast}
use Rattle.hv_abi.specs.declared.call_kind.CallKind.{CallKind}
use Rattle.hv_abi.specs.declared.frame.Frame.{Frame}
use Rattle.hv_defs.specs.Bits.{bits}
use Rattle.hv_calls.specs.Call.{call_in, are_well_formed}
use Rattle.hv_calls.specs.declared.call.Call.{Call}
use Rattle.hv_calls.specs.declared.call.Malformed.{Malformed}

-- the offset of the element at a start index. Elements follow the header, one after another
abbrev pub element_at : CallKind → ℕ → ℕ
element_at kind start = (row_of kind).input + start * (row_of kind).input_element

-- the call of this kind that a frame holds, whether or not its parameters are well formed
abbrev pub parameters : {A : Type 0} → CallKind → Frame A → Call
parameters kind frame = call_in kind (input_of frame (is_fast frame.rcx))
    (element_at kind (bits frame.rcx 48 12))

-- whether these parameters are well formed
abbrev pub are_parameters_valid : {A : Type 0} → CallKind → Frame A → Bool
are_parameters_valid kind frame =
    are_well_formed kind (input_of frame (is_fast frame.rcx)) (element_at kind (bits frame.rcx 48 12))

-- `c` is the call that a frame of this kind holds, and its parameters are well formed
pub record Params {A : Type 0} (frame : Frame A) (kind : CallKind) (c : Call) : Type 0 where
  pub call : c ≡ parameters kind frame
  pub valid : are_parameters_valid kind frame ≡ true

-- the call of this kind in a block, if its parameters are well formed
abbrev pub decoded : CallKind → List ℕ → ℕ → Result Call Malformed
decoded kind block element = if are_well_formed kind block element then Ok (call_in kind block element) else
    Err record {}
