-- The state after boot.
use Rattle.std.specs.Prelude.{ℕ, [], map, nat_lt, None}
use Rattle.std.specs.List.{range_with_len}
use Rattle.std.specs.FinMap as map
use Rattle.std.specs.FinSet as set
use Rattle.hv_defs.specs.Registers.{start_registers}
use Rattle.hv_defs.specs.declared.sizes.TheConstants.{ROOT_ID, FIRST_CHILD_ID, CPU_RESERVE_START}
use Rattle.hv_defs.specs.declared.sizes.TheConstants.{CPU_CAP_START, CPU_WEIGHT_START}
use Rattle.hv_defs.specs.declared.life.Life.TheVariants.{Active}
use Rattle.hv_privs.specs.declared.Privileges.{Privileges}
use Rattle.hv_policy.specs.declared.config.Config.{Config}
use Rattle.hv_policy.specs.Flat.{Flat, PartRow, PageRow, VpRow}

-- the root partition: Active, with the boot mask and the start properties
abbrev pub root_row : Privileges → PartRow
root_row mask = record {
  parent = None;
  life = Active;
  mask = mask;
  reserve = CPU_RESERVE_START;
  cap = CPU_CAP_START;
  weight = CPU_WEIGHT_START;
}

-- a new virtual processor: start registers, no flags, no pending vectors
abbrev pub start_vp : ℕ → VpRow
start_vp index = record { registers = start_registers index; flags = set.empty; pending = set.empty }

-- the first `pool` pages are the root's pool; the others are its loose pages
abbrev pub boot_page : ℕ → ℕ → PageRow
boot_page pool page = record { owner = ROOT_ID; pooled = nat_lt page pool }

-- the root with its pages and processors, and nothing else
abbrev pub boot : Config → Flat
boot config = record {
  part = map.insert map.empty ROOT_ID (root_row config.mask);
  page = map.from_entries (map (λ page. (page, boot_page config.pool page)) (range_with_len 0 config.pages));
  vp = map.from_entries (map (λ index. ((ROOT_ID, index), start_vp index)) (range_with_len 0 config.vps));
  port = map.empty;
  conn = map.empty;
  mail = [];
  next = FIRST_CHILD_ID;
  served = 0;
}
