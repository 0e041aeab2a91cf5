-- The refinement relation between the machine's state and the policy's flat state.
use Rattle.std.specs.Prelude.{◌≡◌}
use Rattle.hv_policy.specs.Flat.{Flat}
use Rattle.hv_admit.specs.Tie.{Refines}
use Rattle.hv_machine.specs.State.{State}

-- the machine stands for the flat state: its rows refine the flat maps, key by key, and the next id and the
-- count of served events are equal
pub record IsFlat (m : State) (f : Flat) : Type 0 where
  pub tied : Refines m.rows f
  pub next : f.next ≡ m.next
  pub served : f.served ≡ m.served
