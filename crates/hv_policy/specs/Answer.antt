-- The reply to a served event.
use Rattle.std.specs.Prelude.{ℕ, ◌+◌, Bool, true, if◌then◌else◌, List, [], Option}
use Rattle.std.specs.Option.{option_map_or}
use Rattle.hv_defs.specs.Bits.{bits}
use Rattle.hv_abi.specs.Check.{call_of}
use Rattle.hv_abi.specs.declared.call_kind.CallKind.{CallKind}
use Rattle.hv_abi.specs.declared.frame.Frame.{Frame}
use Rattle.hv_calls.specs.declared.call.Call.{Call}
use Rattle.hv_policy.specs.declared.event.Action.{Action}
use Rattle.hv_policy.specs.declared.event.Action.TheVariants.{Hypercall}
use Rattle.hv_policy.specs.declared.event.Caller.{Caller}
use Rattle.hv_policy.specs.declared.event.Event.{Event}
use Rattle.hv_policy.specs.declared.reply.Reply.{Reply}
use Rattle.hv_policy.specs.declared.reply.Reply.TheVariants.{Served, More}
use Rattle.hv_policy.specs.Call.{called, is_last}
use Rattle.hv_policy.specs.Flat.{Flat}
use Rattle.hv_policy.specs.Needs.{target_of}
use Rattle.hv_policy.specs.calls.{access_policy, policy_of}
pub use Rattle.hv_policy.specs.Reading.{first_id, flags_at, msr_of, next_child, page_or_0, register_of}
pub use Rattle.hv_policy.specs.Reading.{value_of, vector_of}

-- the output bytes of a call with this caller and target; for a rep call, those of its own element
abbrev pub output : Call → Flat → ℕ → ℕ → List ℕ
output call = (policy_of call).output

abbrev pub output_of : Flat → ℕ → Option Call → List ℕ
output_of f caller call = option_map_or (λ call. output call f caller (target_of call caller)) call []

abbrev pub is_done : {A : Type 0} → Frame A → Option CallKind → Bool
is_done frame kind = option_map_or (λ kind. is_last kind frame) kind true

-- the reply to a served call: `Served` for its last element, else `More`
abbrev pub reply_with : {A : Type 0} → Frame A → List ℕ → Reply
reply_with frame bytes = if is_done frame (call_of frame) then Served bytes else More
    (bits frame.rcx 48 12 + 1) bytes

-- the reply to a served action. An access reads its own processor
abbrev pub action_answer : {A : Type 0} → Flat → Caller → Action A → Reply
action_answer f by (Hypercall frame) = reply_with frame (output_of f by.part (called frame))
action_answer f by access = Served ((access_policy access).output f by)

-- the reply to a served event
abbrev pub answer : {A : Type 0} → Flat → Event A → Reply
answer f event = action_answer f event.by event.what
