-- What rule P7 guarantees about a call's parameters.
use Rattle.std.specs.Prelude.{◌+◌, ◌<◌, ◌≤◌}
use Rattle.hv_calls.specs.declared.call.Call.{Call}
use Rattle.hv_calls.specs.declared.call.Call.TheVariants.{CreatePort}
use Rattle.hv_defs.specs.declared.sizes.TheConstants.{EVENT_FLAGS, SINTS}
use Rattle.hv_policy.specs.Effect.{flags_of}

-- a call's parameters are in range: a new port's SINT exists, and its event flags lie within that SINT. The
-- invariant needs no bound on any other call
abbrev pub IsBounded : Call → Type 0
IsBounded (CreatePort partition port peer kind sint vp base count) = (sint < SINTS) ×
    (flags_of kind base + flags_of kind count ≤ EVENT_FLAGS)
IsBounded call = Unit {0}
