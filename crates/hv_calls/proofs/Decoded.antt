-- What a decoded call is.
use Rattle.std.proofs.Common.{◌≡◌, ℕ, Bool, true, false, List, Result, Ok, Err, IfOk, IfErr, if◌then◌else◌, refl, sym, ◌∙◌, ap}
use Rattle.hv_abi.specs.Check.{input_of, is_fast}
use Rattle.hv_abi.specs.declared.call_kind.CallKind.{CallKind}
use Rattle.hv_abi.specs.declared.call_kind.CallKind.TheVariants as kind
use Rattle.hv_abi.specs.declared.frame.Frame.{Frame}
use Rattle.hv_defs.specs.Bits.{bits}
use Rattle.hv_calls.specs.Call.{call_in, kind_of_call}
use Rattle.hv_calls.specs.Params.{Params, are_parameters_valid, decoded, element_at, parameters}
use Rattle.hv_calls.specs.declared.call.Call.{Call}
use Rattle.hv_calls.specs.declared.call.Malformed.{Malformed}

-- what a frame of this kind is decoded to
abbrev pub decoded_of : {A : Type 0} → CallKind → Frame A → Result Call Malformed
decoded_of kind frame = decoded kind (input_of frame (is_fast frame.rcx)) (element_at kind (bits frame.rcx 48 12))

-- a call in a block is of the kind as which it was read
pub kind_of_call-call_in : (kind : CallKind) (block : List ℕ) (element : ℕ) → kind_of_call (call_in kind block element) ≡ kind
kind_of_call-call_in kind.CreatePartition block element = refl
kind_of_call-call_in kind block element = refl

abbrev chosen : Bool → Call → Result Call Malformed
chosen valid call = if valid then Ok call else Err record {}

ok-choice : {A : Type 0} (frame : Frame A) (kind : CallKind) (valid : Bool) → are_parameters_valid kind frame ≡ valid → IfOk (chosen valid (parameters kind frame)) (Params frame kind)
ok-choice frame kind true e = record { call = refl; valid = e }
ok-choice frame kind false e = tt

only-choice : (valid : Bool) (call c : Call) → c ≡ call → valid ≡ true → (chosen valid call) ≡ Ok c
only-choice true call c same t = ap Ok (sym same)
only-choice false call c same t = cc

malformed-choice : (valid : Bool) (call : Call) → IfErr (chosen valid call) (λ _. valid ≡ false)
malformed-choice true call = tt
malformed-choice false call = refl

kind-choice : (kind : CallKind) (valid : Bool) (call : Call) → kind_of_call call ≡ kind → IfOk (chosen valid call) (λ c. kind_of_call c ≡ kind)
kind-choice kind true call same = same
kind-choice kind false call same = tt

-- what a block gives with the element at a start index is what the frame gives, where both are the frame's
pub decoded-same : {A : Type 0} (frame : Frame A) (kind : CallKind) (result : Result Call Malformed) (fast : Bool) (start : ℕ) → result ≡ decoded kind (input_of frame fast) (element_at kind start) →
    fast ≡ is_fast frame.rcx → start ≡ bits frame.rcx 48 12 → result ≡ decoded_of kind frame
decoded-same frame kind result fast start e of_fast of_start = e ∙ rw (of_start, of_fast) refl

-- each clause of `decode`, from its result
pub decoded-ok : {A : Type 0} (frame : Frame A) (kind : CallKind) (result : Result Call Malformed) → result ≡ decoded_of kind frame → IfOk result (Params frame kind)
decoded-ok frame kind result e = rw e (ok-choice frame kind (are_parameters_valid kind frame) refl)

pub decoded-only : {A : Type 0} (frame : Frame A) (kind : CallKind) (result : Result Call Malformed) → result ≡ decoded_of kind frame → (c : Call) → Params frame kind c → result ≡ Ok c
decoded-only frame kind result e c params = e ∙ only-choice (are_parameters_valid kind frame) (parameters kind frame) c params.call params.valid

pub decoded-malformed : {A : Type 0} (frame : Frame A) (kind : CallKind) (result : Result Call Malformed) → result ≡ decoded_of kind frame → IfErr result (λ _. are_parameters_valid kind frame ≡ false)
decoded-malformed frame kind result e = rw e (malformed-choice (are_parameters_valid kind frame) (parameters kind frame))

pub decoded-kind : {A : Type 0} (frame : Frame A) (kind : CallKind) (result : Result Call Malformed) → result ≡ decoded_of kind frame → IfOk result (λ c. kind_of_call c ≡ kind)
decoded-kind frame kind result e = rw e (kind-choice kind (are_parameters_valid kind frame) (parameters kind frame) (kind_of_call-call_in kind _ _))
