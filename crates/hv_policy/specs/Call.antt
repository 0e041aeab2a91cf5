-- What an event asks for.
use Rattle.std.specs.Prelude.{◌≡◌, ◌+◌, ◌||◌, nat_le, not, Bool, false, Option, Some, option_map}
use Rattle.std.specs.Option.{option_map_or}
use Rattle.hv_defs.specs.Bits.{bits}
use Rattle.hv_abi.specs.CallRow.{row_of}
use Rattle.hv_abi.specs.Check.{call_of}
use Rattle.hv_abi.specs.declared.call_kind.CallKind.{CallKind}
use Rattle.hv_abi.specs.declared.frame.Frame.{Frame}
use Rattle.hv_abi.specs.declared.frame.Shape.{Shape}
use Rattle.hv_calls.specs.Call.{kind_of_call}
use Rattle.hv_calls.specs.Params.{parameters}
use Rattle.hv_calls.specs.declared.call.Call.{Call}
use Rattle.hv_policy.specs.declared.event.Access.{Access}
use Rattle.hv_policy.specs.declared.event.Access.TheVariants as access
use Rattle.hv_policy.specs.declared.event.Action.{Action}
use Rattle.hv_policy.specs.declared.event.Action.TheVariants.{Hypercall, ReadMsr, WriteMsr, ReadSlot}
use Rattle.hv_policy.specs.declared.event.Action.TheVariants.{ClearSlot, ReadFlags, ClearFlag, TakeInterrupt}
use Rattle.hv_policy.specs.declared.event.Caller.{Caller}
use Rattle.hv_policy.specs.declared.event.Event.{Event}
use Rattle.hv_policy.specs.Needs.{takes_memory}

-- an access as an action: every action but a hypercall is one
abbrev pub action_of : {A : Type 0} → Access → Action A
action_of (access.ReadMsr msr) = ReadMsr msr
action_of (access.WriteMsr msr value) = WriteMsr msr value
action_of (access.ReadSlot sint) = ReadSlot sint
action_of (access.ClearSlot sint) = ClearSlot sint
action_of (access.ReadFlags sint) = ReadFlags sint
action_of (access.ClearFlag sint flag) = ClearFlag sint flag
action_of access.TakeInterrupt = TakeInterrupt

-- a hypercall as an event
abbrev pub call_event : {A : Type 0} → Caller → Frame A → Event A
call_event by frame = record { by = by; what = Hypercall frame }

-- the call of a frame with its parameters, if the profile has a call with its code
abbrev pub called : {A : Type 0} → Frame A → Option Call
called frame = option_map (λ kind. parameters kind frame) (call_of frame)

-- the call is the one that a frame with this shape holds
pub record IsCall {A : Type 0} (frame : Frame A) (shape : Shape) (call : Call) : Type 0 where
  pub kind : kind_of_call call ≡ shape.kind
  pub named : call_of frame ≡ Some shape.kind
  pub called : called frame ≡ Some call

-- whether an element is the last of its rep call, as a simple call always is
abbrev pub is_last : {A : Type 0} → CallKind → Frame A → Bool
is_last kind frame = not (row_of kind).rep || nat_le (bits frame.rcx 32 12) (bits frame.rcx 48 12 + 1)

-- whether serving an event may need memory of the host. Only some calls do
abbrev pub action_takes_memory : {A : Type 0} → Action A → Bool
action_takes_memory (Hypercall frame) = option_map_or takes_memory (call_of frame) false
action_takes_memory what = false

abbrev pub may_take_memory : {A : Type 0} → Event A → Bool
may_take_memory event = action_takes_memory event.what
