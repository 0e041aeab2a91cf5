-- The flat state: finite maps of rows, without trees, queues or stored sizes.
use Rattle.std.specs.Prelude.{ℕ, Bool, List, Option}
use Rattle.std.specs.Ordering.{nat_cmp}
use Rattle.std.specs.FinMap.{FinMap}
use Rattle.hv_defs.specs.Flags.{FlagSet, pair_cmp}
use Rattle.hv_defs.specs.Vectors.{VectorSet}
use Rattle.hv_defs.specs.declared.aim.Aim.{Aim}
use Rattle.hv_defs.specs.declared.life.Life.{Life}
use Rattle.hv_defs.specs.declared.port_kind.PortKind.{PortKind}
use Rattle.hv_privs.specs.declared.Privileges.{Privileges}

-- a partition: its parent, none for the root, its life state, its mask and its CPU properties
pub record PartRow : Type 0 where
  pub parent : Option ℕ
  pub life : Life
  pub mask : Privileges
  pub reserve : ℕ
  pub cap : ℕ
  pub weight : ℕ

-- a page: the partition that owns it, and whether it is pooled there or loose
pub record PageRow : Type 0 where
  pub owner : ℕ
  pub pooled : Bool

-- a virtual processor: its registers by name, the set event flags, as (SINT, flag), and the pending vectors
pub record VpRow : Type 0 where
  pub registers : FinMap nat_cmp ℕ
  pub flags : FlagSet
  pub pending : VectorSet

-- a port: what it takes, the partition that may connect, its SINT and its aim, the first of its event flags
-- and their count, and its birth: the count of served events, its creation included
pub record PortRow : Type 0 where
  pub kind : PortKind
  pub peer : ℕ
  pub sint : ℕ
  pub vp : Aim
  pub base : ℕ
  pub count : ℕ
  pub born : ℕ

-- a connection: the partition and id of its port, and the port's birth and kind when the connection was made.
-- No rule reads the kind
pub record ConnRow : Type 0 where
  pub part : ℕ
  pub port : ℕ
  pub kind : PortKind
  pub born : ℕ

-- a message at a SINT of a processor: the port and birth through which it came, its type and payload, and
-- whether it is shown in the slot or waits
pub record MailRow : Type 0 where
  pub part : ℕ
  pub vp : ℕ
  pub sint : ℕ
  pub port : ℕ
  pub born : ℕ
  pub type : ℕ
  pub payload : List ℕ
  pub shown : Bool

-- the state: partitions by id, pages by number, processors by (partition, index), ports and connections by
-- (partition, id), messages in order of posting, the id of the next partition, and the count of served events
pub record Flat : Type 0 where
  pub part : FinMap nat_cmp PartRow
  pub page : FinMap nat_cmp PageRow
  pub vp : FinMap pair_cmp VpRow
  pub port : FinMap pair_cmp PortRow
  pub conn : FinMap pair_cmp ConnRow
  pub mail : List MailRow
  pub next : ℕ
  pub served : ℕ
