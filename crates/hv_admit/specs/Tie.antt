-- The refinement relation between the tree of partitions and the policy's flat state, key by key: the flat
-- maps hold under a partition's id what the tree's row of that partition holds.
use Rattle.std.specs.Prelude.{◌≡◌, ℕ, ◌==◌, ◌&&◌, Bool, true, false, not, List, [], ◌∷◌, ◌++◌, map, Option}
use Rattle.std.specs.Prelude.{Some, None, option_map}
use Rattle.std.specs.FinMap.{get}
use Rattle.std.specs.FinSet as set
use Rattle.hv_mail.specs.Mail.{SintMail, at, no_mail}
use Rattle.hv_mail.specs.declared.message.Message.{Message}
use Rattle.hv_partition.specs.Partition.{PartitionState}
use Rattle.hv_policy.specs.Flat.{ConnRow, Flat, MailRow, PartRow, PageRow, PortRow, VpRow}
use Rattle.hv_policy.specs.Mail.{Place, mail_at}
use Rattle.hv_ports.specs.declared.ports.Conn.{Conn}
use Rattle.hv_ports.specs.declared.ports.Port.{Port}
use Rattle.hv_tree.specs.Rows.{Row, Rows}
use Rattle.hv_vp.specs.Vp.{VpState}

-- the flat row of a partition
abbrev pub part_row : Row PartitionState → PartRow
part_row r = record {
  parent = r.0;
  life = r.1.life;
  mask = r.1.mask;
  reserve = r.1.reserve;
  cap = r.1.cap;
  weight = r.1.weight;
}

-- whether a page with this flat row is a pooled, or a loose, page of the partition
abbrev pub is_held : ℕ → Bool → Option PageRow → Bool
is_held id pooled None = false
is_held id true (Some page) = page.owner == id && page.pooled
is_held id false (Some page) = page.owner == id && not page.pooled

-- whether the partition in a row has the page in its pool, or among its loose pages
abbrev pub holds : Bool → ℕ → Option (Row PartitionState) → Bool
holds pooled page None = false
holds true page (Some r) = set.contains r.1.pooled.pages page
holds false page (Some r) = set.contains r.1.loose.pages page

-- the flat row of a processor
abbrev pub vp_row_of : VpState → VpRow
vp_row_of v = record { registers = v.registers; flags = v.flags; pending = v.pending }

-- the flat row of the processor with this index, if the partition in the row has it
abbrev pub vp_row : ℕ → Option (Row PartitionState) → Option VpRow
vp_row index None = None
vp_row index (Some r) = option_map vp_row_of (get r.1.vps.vps index)

-- the flat row of a port
abbrev pub port_row_of : Port → PortRow
port_row_of p = record {
  kind = p.kind;
  peer = p.peer;
  sint = p.sint;
  vp = p.vp;
  base = p.base;
  count = p.count;
  born = p.born;
}

-- the flat row of the port with this id, if the partition in the row has it
abbrev pub port_row : ℕ → Option (Row PartitionState) → Option PortRow
port_row id None = None
port_row id (Some r) = option_map port_row_of (get r.1.ports.rows id)

-- the flat row of a connection
abbrev pub conn_row_of : Conn → ConnRow
conn_row_of c = record { part = c.part; port = c.port; kind = c.kind; born = c.born }

-- the flat row of the connection with this id, if the partition in the row has it
abbrev pub conn_row : ℕ → Option (Row PartitionState) → Option ConnRow
conn_row id None = None
conn_row id (Some r) = option_map conn_row_of (get r.1.conns.rows id)

-- the flat row of a message at a place
abbrev pub mail_row : Place → Bool → Message → MailRow
mail_row place shown message = record {
  part = place.part;
  vp = place.vp;
  sint = place.sint;
  port = message.port;
  born = message.born;
  type = message.kind;
  payload = message.payload.items;
  shown = shown;
}

abbrev pub slot_rows : Place → Option Message → List MailRow
slot_rows place None = []
slot_rows place (Some message) = mail_row place true message ∷ []

-- the flat rows of the messages at a place: the one in the slot first, then the waiting ones
abbrev pub rows_of : Place → SintMail → List MailRow
rows_of place mail = slot_rows place mail.slot ++ map (mail_row place false) mail.waiting

-- the messages at a SINT of a processor; none if there is no such processor
abbrev pub sint_mail : ℕ → Option VpState → SintMail
sint_mail sint None = no_mail
sint_mail sint (Some v) = at v.mail sint

-- the messages at a SINT of the processor with this index; none if the partition in the row lacks it
abbrev pub mail_there : ℕ → ℕ → Option (Row PartitionState) → SintMail
mail_there index sint None = no_mail
mail_there index sint (Some r) = sint_mail sint (get r.1.vps.vps index)

-- the place with this processor index and SINT in a partition
abbrev pub here : ℕ → ℕ → ℕ → Place
here id vp sint = record { part = id; vp = vp; sint = sint }

-- the relation for one partition: the flat maps hold under its id what the row holds, and the flat messages
-- at each of its places are, in order, those that the row holds there
pub record PartitionRelation (f : Flat) (id : ℕ) (row : Option (Row PartitionState)) : Type 0 where
  pub part : get f.part id ≡ option_map part_row row
  pub page : (page : ℕ) (pooled : Bool) → is_held id pooled (get f.page page) ≡ holds pooled page row
  pub vp : (index : ℕ) → get f.vp (id, index) ≡ vp_row index row
  pub port : (port : ℕ) → get f.port (id, port) ≡ port_row port row
  pub conn : (conn : ℕ) → get f.conn (id, conn) ≡ conn_row conn row
  pub mail : (vp sint : ℕ) → mail_at (here id vp sint) f.mail ≡ rows_of (here id vp sint)
      (mail_there vp sint row)

-- the refinement relation: the flat state holds these partitions with everything in their rows, and no more
pub record Refines (tree : Rows PartitionState) (f : Flat) : Type 0 where
  pub rows : (id : ℕ) → PartitionRelation f id (get tree id)
