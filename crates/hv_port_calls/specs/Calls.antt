-- The calls that create a port and connect to one, and what the second must know of its port.
use Rattle.std.specs.Prelude.{◌≡◌, ℕ}
use Rattle.std.specs.FinMap.{get}
use Rattle.hv_calls.specs.declared.call.Call.{Call}
use Rattle.hv_calls.specs.declared.call.Call.TheVariants.{ConnectPort, CreatePort}
use Rattle.hv_partition.specs.Partition.{PartitionState}
use Rattle.hv_policy.specs.Effect.{born_of}
use Rattle.hv_policy.specs.Flat.{Flat}
use Rattle.hv_policy.specs.Needs.{resolved_id}
use Rattle.hv_admit.specs.Asked.{IsGranted}
use Rattle.hv_admit.specs.Tie.{Refines}
use Rattle.hv_tree.specs.Rows.{Rows}
use Rattle.hv_port_calls.specs.declared.port_connection.NewConnection.{NewConnection}
use Rattle.hv_port_calls.specs.declared.port_creation.NewPort.{NewPort}

-- HvCreatePort for a partition, with these parameters
abbrev pub create_with : ℕ → NewPort → Call
create_with partition new = CreatePort partition new.port new.peer new.kind new.sint new.vp new.base new.count

-- HvConnectPort for a partition, with these parameters
abbrev pub connect_with : ℕ → NewConnection → Call
connect_with partition new = ConnectPort partition new.connection new.port_partition new.port new.kind

-- the birth of the port that the parameters name, for this caller
abbrev pub port_birth : Flat → ℕ → NewConnection → ℕ
port_birth f caller new = born_of (get f.port (resolved_id caller new.port_partition, new.port))

-- precondition of doing HvConnectPort: the call's rules hold, and this is the port's birth
pub record MayConnect (rows : Rows PartitionState) (caller partition : ℕ) (new : NewConnection) (born : ℕ)
    : Type 0 where
  pub granted : IsGranted rows caller (connect_with partition new)
  pub birth : (f : Flat) → Refines rows f → born ≡ port_birth f caller new
