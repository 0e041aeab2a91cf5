-- What a served event changes.
use Rattle.std.specs.Prelude.{ℕ, ◌+◌, Option}
use Rattle.std.specs.Option.{option_map_or}
use Rattle.hv_calls.specs.declared.call.Call.{Call}
use Rattle.hv_policy.specs.Call.{called}
use Rattle.hv_policy.specs.Flat.{Flat}
use Rattle.hv_policy.specs.Needs.{target_of}
use Rattle.hv_policy.specs.Policy.{applied}
use Rattle.hv_policy.specs.calls.{access_policy, policy_of}
use Rattle.hv_policy.specs.declared.event.Action.{Action}
use Rattle.hv_policy.specs.declared.event.Action.TheVariants.{Hypercall}
use Rattle.hv_policy.specs.declared.event.Caller.{Caller}
use Rattle.hv_policy.specs.declared.event.Event.{Event}
pub use Rattle.hv_policy.specs.Change.{born_of, changed_at, end_if, end_message, flags_of, given, inherited}
pub use Rattle.hv_policy.specs.Change.{is_mask, mask_of, narrowed, narrowed_row, narrows, new_row, post}
pub use Rattle.hv_policy.specs.Change.{post_at, post_to, property_set, row_raised, row_signalled, rows_but}
pub use Rattle.hv_policy.specs.Change.{show, signal_at, signal_to, with_row, with_vp, withdrawn, write_msr}
pub use Rattle.hv_policy.specs.Change.{write_register, written}
unfoldable pub use Rattle.hv_policy.specs.Change.{show_each}

-- the effect of a call with this caller and target, without the count of served events
abbrev pub call_effect : Call → Flat → ℕ → ℕ → Flat
call_effect call = applied (policy_of call).effect

abbrev pub served_effect : Flat → ℕ → Option Call → Flat
served_effect f caller call = option_map_or (λ call. call_effect call f caller (target_of call caller)) call f

-- the effect of an action. An access changes only what is at the calling processor
abbrev pub action_effect : {A : Type 0} → Flat → Caller → Action A → Flat
action_effect f by (Hypercall frame) = served_effect f by.part (called frame)
action_effect f by access = (access_policy access).effect f by

-- a state with 1 more served event
abbrev pub counted : Flat → Flat
counted f = record f { served = f.served + 1 }

-- the state after a served event: its own changes, and 1 more served event
abbrev pub effect : {A : Type 0} → Flat → Event A → Flat
effect f event = counted (action_effect f event.by event.what)
