-- A partition as contracts see it.
use Rattle.std.specs.Prelude.{◌≡◌, ℕ, ◌+◌, ◌-◌, ◌*◌, zero, suc, refl}
use Rattle.std.specs.Coded.{Coded, code_by, coded×, coded_ℕ}
use Rattle.std.specs.FinMap as map
use Rattle.std.specs.FinSet as set
use Rattle.hv_defs.specs.declared.life.Life.{Life}
use Rattle.hv_defs.specs.declared.life.Life.TheVariants.{Created, Active, Finalized}
use Rattle.hv_defs.specs.declared.sizes.TheConstants.{CONNECTION_CHARGE, CPU_CAP_START, CPU_RESERVE_START}
use Rattle.hv_defs.specs.declared.sizes.TheConstants.{CPU_WEIGHT_START, PARTITION_CHARGE, PORT_CHARGE}
use Rattle.hv_defs.specs.declared.sizes.TheConstants.{VP_CHARGE}
use Rattle.hv_pages.specs.PageSet.{PagesAndRoom, pages_and_room_code}
use Rattle.hv_partition.specs.Links.{conn_code, port_code}
use Rattle.hv_partition.specs.declared.kind.PageKind.{PageKind}
use Rattle.hv_partition.specs.declared.kind.PageKind.TheVariants.{Loose, Pooled}
use Rattle.hv_ports.specs.Table as table
use Rattle.hv_ports.specs.Table.{TableState, table_code}
use Rattle.hv_ports.specs.declared.ports.Conn.{Conn}
use Rattle.hv_ports.specs.declared.ports.Port.{Port}
use Rattle.hv_privs.specs.Privileges.{bits_of, of}
use Rattle.hv_privs.specs.declared.Privileges.{Privileges}
use Rattle.hv_vp.specs.Vp.{VpState}
use Rattle.hv_vp.specs.Vps.{VpsState, cleared, no_vps, vps_code, with_vp}

-- a partition: its life state, its privilege mask, its CPU properties, its loose and pooled pages, its
-- processors, and its ports and connections
pub record PartitionState : Type 0 where
  pub life : Life
  pub mask : Privileges
  pub reserve : ℕ
  pub cap : ℕ
  pub weight : ℕ
  pub loose : PagesAndRoom
  pub pooled : PagesAndRoom
  pub vps : VpsState
  pub ports : TableState Port
  pub conns : TableState Conn

-- a life state is stored as its number
abbrev pub life_number : Life → ℕ
life_number Created = 0
life_number Active = 1
life_number Finalized = 2

abbrev pub life_of : ℕ → Life
life_of zero = Created
life_of (suc zero) = Active
life_of (suc (suc _)) = Finalized

abbrev pub life_of-number : (life : Life) → life_of (life_number life) ≡ life
life_of-number Created = refl
life_of-number Active = refl
life_of-number Finalized = refl

abbrev pub life_code : Coded Life
life_code = code_by ℕ coded_ℕ life_number life_of life_of-number

-- a mask is stored as its bits
abbrev pub mask_code : Coded Privileges
mask_code = code_by ℕ coded_ℕ bits_of of (λ _. refl)

-- a partition is stored as the tuple of its fields
abbrev pub partition_code : Coded PartitionState
partition_code =
    code_by (Life × (Privileges × (ℕ × (ℕ × (ℕ × (PagesAndRoom ×
    (PagesAndRoom × (VpsState × (TableState Port × TableState Conn)))))))))
    (coded× life_code (coded× mask_code (coded× coded_ℕ
    (coded× coded_ℕ (coded× coded_ℕ (coded× pages_and_room_code
    (coded× pages_and_room_code (coded× vps_code
    (coded× (table_code port_code) (table_code conn_code))))))))))
    (λ p. (
      p.life,
      (
        p.mask,
        (
          p.reserve,
          (
            p.cap,
            (
              p.weight,
              (p.loose, (p.pooled, (p.vps, (p.ports, p.conns)))),
            ),
          ),
        ),
      ),
    ))
    (λ t. record {
      life = t.0;
      mask = t.1.0;
      reserve = t.1.1.0;
      cap = t.1.1.1.0;
      weight = t.1.1.1.1.0;
      loose =
          t.1.1.1.1.1.0;
      pooled = t.1.1.1.1.1.1.0;
      vps = t.1.1.1.1.1.1.1.0;
      ports = t.1.1.1.1.1.1.1.1.0;
      conns =
          t.1.1.1.1.1.1.1.1.1;
    })
    (λ _. refl)

-- a partition's pages of a kind
abbrev pub pages_in : PageKind → PartitionState → PagesAndRoom
pages_in Loose p = p.loose
pages_in Pooled p = p.pooled

-- the partition with other pages of a kind
abbrev pub with_pages : PageKind → PagesAndRoom → PartitionState → PartitionState
with_pages Loose pages p = record p { loose = pages }
with_pages Pooled pages p = record p { pooled = pages }

-- the partition with another state of one of its processors
abbrev pub with_vp_of : PartitionState → ℕ → VpState → PartitionState
with_vp_of p index vp = record p { vps = with_vp p.vps index vp }

-- no pages, and no memory for any
abbrev pub no_pages : PagesAndRoom
no_pages = record { pages = set.empty; room = 0 }

-- a new partition, without pages, processors, ports and connections
abbrev pub new_partition : Life → Privileges → PartitionState
new_partition life mask = record {
  life = life;
  mask = mask;
  reserve = CPU_RESERVE_START;
  cap = CPU_CAP_START;
  weight = CPU_WEIGHT_START;
  loose = no_pages;
  pooled = no_pages;
  vps = no_vps;
  ports = table.no_rows;
  conns = table.no_rows;
}

-- the number of pooled pages that this many children and its processors, ports and connections use
abbrev pub in_use : ℕ → PartitionState → ℕ
in_use children p =
    PARTITION_CHARGE * children + VP_CHARGE * map.len p.vps.vps + PORT_CHARGE * map.len p.ports.rows +
    CONNECTION_CHARGE * map.len p.conns.rows

-- the number of pooled pages that it may still use
abbrev pub available : ℕ → PartitionState → ℕ
available children p = set.len p.pooled.pages - in_use children p

-- the partition after it is finalized: without processors, ports and connections, with its pages
abbrev pub finalized : PartitionState → PartitionState
finalized p = record p {
  life = Finalized;
  vps = cleared p.vps;
  ports = table.cleared p.ports;
  conns =
      table.cleared p.conns;
}
