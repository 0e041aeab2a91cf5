-- The invariant of a machine.
use Rattle.std.specs.Prelude.{◌≤◌}
use Rattle.hv_defs.specs.declared.sizes.TheConstants.{MAX_PAGES}
use Rattle.hv_invariants.specs.StateInvariant.{StateInvariant}
use Rattle.hv_policy.specs.Flat.{Flat}
use Rattle.hv_machine.specs.IsFlat.{IsFlat}
use Rattle.hv_machine.specs.State.{State}

-- invariant: the machine stands for a flat state for which `StateInvariant` holds, and has at most
-- `MAX_PAGES` pages
pub record MachineInvariant (m : State) : Type 0 where
  pub flat : Flat
  pub stands : IsFlat m flat
  pub lawful : StateInvariant m.pages flat
  pub bounded : m.pages ≤ MAX_PAGES
