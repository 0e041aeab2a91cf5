-- The result value of a call.
use Rattle.std.specs.Prelude.{ℕ, ◌<◌, if◌then◌else◌, Option}
use Rattle.std.specs.Option.{option_map_or}
use Rattle.hv_defs.specs.declared.sizes.TheConstants.{REPS_END}
use Rattle.hv_defs.specs.Bits.{bits}
use Rattle.hv_abi.specs.CallRow.{kind_of, row_of}
use Rattle.hv_abi.specs.Check.{is_input_valid}
use Rattle.hv_abi.specs.InputValue.{result_value}
use Rattle.hv_abi.specs.Status.{status_code}
use Rattle.hv_abi.specs.declared.call_kind.CallKind.{CallKind}
use Rattle.hv_abi.specs.declared.frame.Frame.{Frame}
use Rattle.hv_abi.specs.declared.status.Status.TheVariants.{Success}
use Rattle.hv_policy.specs.declared.reply.Reply.{Reply}
use Rattle.hv_policy.specs.declared.reply.Reply.TheVariants.{Served, More, Denied, Fault}

-- the call with the code of an input value, if there is one
abbrev pub kind_in : ℕ → Option CallKind
kind_in rcx = kind_of (bits rcx 0 16)

-- the reps completed of a refused call: its start index if P4 and P5 hold, else 0
abbrev pub refused_reps : ℕ → ℕ
refused_reps rcx = option_map_or (λ kind. if is_input_valid (row_of kind) rcx then bits rcx 48 12 else 0)
    (kind_in rcx) 0

-- the reps completed of a call whose last element was served: all of them, or 0 for a simple call
abbrev pub completed_reps : ℕ → ℕ
completed_reps rcx = option_map_or (λ kind. if (row_of kind).rep then bits rcx 32 12 else 0) (kind_in rcx) 0

-- the result value of a frame and its reply, which counts reps from the first element of the list
abbrev pub result_of : {A : Type 0} → Frame A → Reply → ℕ
result_of frame (Served output) = result_value (status_code Success) (completed_reps frame.rcx)
result_of frame (More next output) = result_value (status_code Success) next
result_of frame (Denied rule status reps) = result_value (status_code status) (refused_reps frame.rcx)
result_of frame (Fault rule) = 0

-- a reply to a call: it is no fault, and the next element of a rep call has an index
abbrev pub HasResult : Reply → Type 0
HasResult (More next output) = next < REPS_END
HasResult (Fault rule) = ⊥
HasResult reply = Unit {0}
