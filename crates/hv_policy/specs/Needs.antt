-- What each call needs of its caller and its target, and what it costs.
use Rattle.std.specs.Prelude.{ℕ, Bool, []}
use Rattle.hv_abi.specs.declared.call_kind.CallKind.{CallKind}
use Rattle.hv_calls.specs.Call.{call_in}
use Rattle.hv_calls.specs.declared.call.Call.{Call}
use Rattle.hv_policy.specs.calls.{policy_of}
use Rattle.hv_policy.specs.declared.need.Need.{Need}
pub use Rattle.hv_policy.specs.Target.{is_among, resolved_id, states_to_set, target_at}

abbrev pub needs_of : Call → Need
needs_of call = (policy_of call).need

abbrev pub charge_of : Call → ℕ
charge_of call = (needs_of call).charge

-- the target of a call
abbrev pub target_of : Call → ℕ → ℕ
target_of call caller = target_at (needs_of call).named caller

-- whether serving a call may need memory of the host. No parameter matters, so the call in an empty block
-- decides
abbrev pub takes_memory : CallKind → Bool
takes_memory kind = (policy_of (call_in kind [] 0)).memory
