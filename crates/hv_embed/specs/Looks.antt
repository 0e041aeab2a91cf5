-- The output of looks for C.
use Rattle.std.specs.Prelude.{◌≡◌, ◌≢◌, ℕ, true, false, Option, None, Some, unwrap_or}
use Rattle.hv_defs.specs.declared.aim.Aim.{Aim}
use Rattle.hv_defs.specs.declared.aim.Aim.TheVariants.{One, Any}
use Rattle.hv_defs.specs.declared.life.Life.{Life}
use Rattle.hv_defs.specs.declared.life.Life.TheVariants.{Created, Active, Finalized}
use Rattle.hv_defs.specs.declared.port_kind.PortKind.{PortKind}
use Rattle.hv_defs.specs.declared.port_kind.PortKind.TheVariants.{Message, Event}
use Rattle.hv_defs.specs.declared.sizes.TheConstants.{ANY_VP}
use Rattle.hv_looks.specs.declared.partitions.PartitionLook.{PartitionLook}
use Rattle.hv_machine.specs.IsFlat.{IsFlat}
use Rattle.hv_policy.specs.Flat.{ConnRow, Flat, PortRow}
use Rattle.hv_privs.specs.Privileges.{bits_of}
use Rattle.hv_embed.specs.declared.handle.HvMachine.{HvMachine}
use Rattle.hv_embed.specs.declared.layout.HvConnection.{HvConnection}
use Rattle.hv_embed.specs.declared.layout.HvPartition.{HvPartition}
use Rattle.hv_embed.specs.declared.layout.HvPort.{HvPort}
use Rattle.hv_embed.specs.declared.layout.TheConstants.{LIFE_CREATED, LIFE_ACTIVE, LIFE_FINALIZED}
use Rattle.hv_embed.specs.declared.layout.TheConstants.{PORT_MESSAGES, PORT_EVENTS}
use Rattle.hv_embed.specs.declared.status.TheConstants.{DONE, EMPTY, NONE}

-- a look that shows something stores it and returns `DONE`; a look that finds nothing returns `NONE`
abbrev pub Shows : {X : Type 0} → Option X → ℕ → X → Type 0
Shows None status place = status ≡ NONE
Shows (Some x) status place = (status ≡ DONE) × (place ≡ x)

-- The result of a look at a handle. An empty handle has its status. Otherwise the look shows the value of
-- each flat state that the machine stands for, or reports that there is none. Only a value that is shown is
-- written.
pub record IsLook {X : Type 0} (m : HvMachine) (shown : Flat → Option X) (status : ℕ) (old new : X) : Type 0
  where
    pub empty : m.live ≡ false → status ≡ EMPTY
    pub shows : m.live ≡ true → (f : Flat) → IsFlat m.raw_machine.machine f → Shows (shown f) status new
    pub unwritten : status ≢ DONE → new ≡ old

-- as `IsLook`, where what is shown, or that nothing is, fits each flat state that the machine stands for
pub record IsFit {X : Type 0} (fits : Option X → Type 0) (status : ℕ) (place : X) : Type 0 where
  pub seen : Option X
  pub shows : Shows seen status place
  pub fit : fits seen

pub record IsLookFor {X : Type 0} (m : HvMachine) (fits : Flat → Option X → Type 0) (status : ℕ)
    (old new : X) : Type 0 where
  pub empty : m.live ≡ false → status ≡ EMPTY
  pub shows : m.live ≡ true → (f : Flat) → IsFlat m.raw_machine.machine f → IsFit (fits f) status new
  pub unwritten : status ≢ DONE → new ≡ old

-- C's numbers for life states, port types and aims
abbrev pub life_number : Life → ℕ
life_number Created = LIFE_CREATED
life_number Active = LIFE_ACTIVE
life_number Finalized = LIFE_FINALIZED

abbrev pub type_number : PortKind → ℕ
type_number Message = PORT_MESSAGES
type_number Event = PORT_EVENTS

abbrev pub aim_number : Aim → ℕ
aim_number (One index) = index
aim_number Any = ANY_VP

-- a partition. Its parent is 0 if it has none
abbrev pub partition_shown : PartitionLook → HvPartition
partition_shown look = record {
  mask = bits_of look.mask;
  parent = unwrap_or look.parent 0;
  depth = look.depth;
  pooled = look.pooled;
  in_use = look.in_use;
  life = life_number look.life;
  children = look.children;
  vps = look.vps;
  ports = look.ports;
  connections = look.conns;
}

-- a port and a connection, with its partition and its id there
abbrev pub port_shown : ℕ → ℕ → PortRow → HvPort
port_shown part id row = record {
  part = part;
  id = id;
  peer = row.peer;
  port_type = type_number row.kind;
  sint = row.sint;
  vp = aim_number row.vp;
  base_flag = row.base;
  flag_count = row.count;
}

abbrev pub conn_shown : ℕ → ℕ → ConnRow → HvConnection
conn_shown part id row = record {
  part = part;
  id = id;
  port_partition = row.part;
  port = row.port;
  port_type = type_number row.kind;
}
