-- Each call's policy names the call's own row.
use Rattle.std.proofs.Common.{◌≡◌, refl}
use Rattle.hv_abi.specs.CallRow.{row_of}
use Rattle.hv_calls.specs.Call.{kind_of_call}
use Rattle.hv_calls.specs.declared.call.Call.{Call}
use Rattle.hv_calls.specs.declared.call.Call.TheVariants.{CreatePartition}
use Rattle.hv_policy.specs.calls.{policy_of}

pub own_row : (call : Call) → (policy_of call).row ≡ row_of (kind_of_call call)
own_row (CreatePartition flags) = refl
own_row call = refl
