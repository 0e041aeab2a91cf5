-- The policy of one call, and of one access.
use Rattle.std.specs.Prelude.{ℕ, Bool, List, Option, None, Some}
use Rattle.hv_abi.specs.declared.call_kind.CallRow.{CallRow}
use Rattle.hv_privs.specs.declared.Privileges.{Privileges}
use Rattle.hv_policy.specs.Ask.{Ask}
use Rattle.hv_policy.specs.Flat.{Flat}
use Rattle.hv_policy.specs.declared.event.Caller.{Caller}
use Rattle.hv_policy.specs.declared.need.Kin.{Kin}
use Rattle.hv_policy.specs.declared.need.Need.{Need}
use Rattle.hv_policy.specs.declared.need.States.{States}

-- The policy of a call with its parameters. In `hv_calls`, `call_in` says where these are in its input, and
-- `are_well_formed` which are malformed by themselves.
pub record CallPolicy : Type 0 where
  -- its code, whether it is a rep call and may be fast, and the lengths of its lists
  pub row : CallRow
  -- its privilege, its target and the target's life states, and its charge
  pub need : Need
  -- whether serving it may need memory of the host, which depends on no parameter
  pub memory : Bool
  -- P11 to P24 for a caller and a target, with the life states and the charge of its need
  pub asks : Flat → ℕ → ℕ → States → ℕ → List Ask
  -- its output for a caller and a target; for a rep call, the output of its own element
  pub output : Flat → ℕ → ℕ → List ℕ
  -- its effect for a caller and a target, without the count of served events; a call that only reads has none
  pub effect : Option (Flat → ℕ → ℕ → Flat)

-- a state after an effect, if there is one
abbrev pub applied : Option (Flat → ℕ → ℕ → Flat) → Flat → ℕ → ℕ → Flat
applied None f caller target = f
applied (Some effect) f caller target = effect f caller target

abbrev pub needs : Privileges → Kin → Option ℕ → States → ℕ → Need
needs privilege kin named states charge =
    record { privilege = privilege; kin = kin; named = named; states = states; charge = charge }

-- The policy of an access by a processor.
pub record AccessPolicy : Type 0 where
  -- the rules beyond P3, for a calling partition
  pub asks : Flat → ℕ → List Ask
  pub output : Flat → Caller → List ℕ
  pub effect : Flat → Caller → Flat
