-- The changes that the calls of this call group make to the rows, and their preconditions.
use Rattle.std.specs.Prelude.{◌≡◌, ℕ, ◌==◌, ◌&&◌, ◌<◌, ◌≤◌, ◌+◌, ◌-◌, ◌^◌}
use Rattle.std.specs.Prelude.{not, Bool, true, false, if◌then◌else◌}
use Rattle.std.specs.Prelude.{length, Some}
use Rattle.std.specs.FinMap as map
use Rattle.std.specs.FinMap.{get, insert, contains_key}
use Rattle.std.specs.FinSet as set
use Rattle.hv_calls.specs.declared.call.Call.TheVariants.{CreatePartition, DeletePartition}
use Rattle.hv_defs.specs.declared.sizes.TheConstants.{MAX_PAGES}
use Rattle.hv_admit.specs.declared.effect.Effect.{Effect}
use Rattle.hv_admit.specs.declared.effect.Effect.TheVariants.{Nothing, Pages}
use Rattle.hv_pages.specs.PageSet.{IsDisjoint, runs_of}
use Rattle.hv_partition.specs.Partition.{PartitionState}
use Rattle.hv_policy.specs.Needs.{target_of}
use Rattle.hv_privs.specs.Privileges.{restrict}
use Rattle.hv_privs.specs.declared.Privileges.{Privileges}
use Rattle.hv_privs.specs.declared.TheConstants.Privileges as privilege
use Rattle.hv_admit.specs.Asked.{IsGranted}
use Rattle.hv_admit.specs.Served.{TreeInvariant}
use Rattle.hv_tree.specs.Rows.{Row, Rows, children, content}

-- precondition of inserting: the parent exists and can count one more child (a count stays below 2^32), and
-- the id is free
pub record CanInsert (rows : Rows PartitionState) (parent id : ℕ) : Type 0 where
  pub there : contains_key rows parent ≡ true
  pub free : contains_key rows id ≡ false
  pub few : length (children rows parent) < 2 ^ 32 - 1

-- precondition of creating a partition with the id `next`: all rules hold, and the mask is the caller's,
-- restricted
pub record MayCreate (rows : Rows PartitionState) (caller next : ℕ) (mask : Privileges) : Type 0 where
  pub flags : ℕ
  pub granted : IsGranted rows caller (CreatePartition flags)
  pub tree : TreeInvariant rows
  pub named : tree.flat.next ≡ next
  pub creator : PartitionState
  pub there : content rows caller ≡ Some creator
  pub restricted : mask ≡ restrict creator.mask privilege.NEW_PARTITION

-- whether a partition has processors
abbrev pub has_vps : PartitionState → Bool
has_vps p = not (map.len p.vps.vps == 0)

-- whether a partition has no pages
abbrev pub is_pageless : PartitionState → Bool
is_pageless p = (set.len p.loose.pages == 0) && (set.len p.pooled.pages == 0)

-- the effect of a partition's deletion, as its pages pass to another one
abbrev pub effect_of_pages : ℕ → ℕ → PartitionState → Effect
effect_of_pages from to gone = if is_pageless gone then Nothing else Pages from to

-- a partition has at most as many pages of each kind as a machine has
pub record HasFewPages (p : PartitionState) : Type 0 where
  pub loose : set.len p.loose.pages ≤ MAX_PAGES
  pub pooled : set.len p.pooled.pages ≤ MAX_PAGES

-- precondition of deleting: all rules hold, and the target's pages have this number of runs
pub record MayDelete (rows : Rows PartitionState) (caller partition runs : ℕ) : Type 0 where
  pub granted : IsGranted rows caller (DeletePartition partition)
  pub gone : PartitionState
  pub was : content rows (target_of (DeletePartition partition) caller) ≡ Some gone
  pub counted : runs ≡ runs_of gone.loose.pages + runs_of gone.pooled.pages

-- the partition got room for at least `more` runs of loose pages, and nothing else changed
pub record HasRoom (old new : Rows PartitionState) (id more : ℕ) : Type 0 where
  pub row : Row PartitionState
  pub there : get old id ≡ Some row
  pub room : ℕ
  pub enough : more ≤ room
  pub rows : new ≡ insert old id (
    row.0,
    record row.1
        { loose = record { pages = row.1.loose.pages; room = room } },
  )

-- precondition: the partition has room for the runs of all pages of `gone`, and no page would be held twice
pub record MayTakeOver (rows : Rows PartitionState) (id : ℕ) (gone : PartitionState) : Type 0 where
  pub row : Row PartitionState
  pub there : get rows id ≡ Some row
  pub room : runs_of gone.loose.pages + runs_of gone.pooled.pages ≤ row.1.loose.room
  pub loose : IsDisjoint row.1.loose.pages gone.loose.pages
  pub pooled : IsDisjoint row.1.loose.pages gone.pooled.pages
  pub own : IsDisjoint gone.loose.pages gone.pooled.pages

-- the row of a partition that took over all pages of `gone` as loose pages, with `room` left for more
abbrev pub new_owner_of : PartitionState → ℕ → Row PartitionState → Row PartitionState
new_owner_of gone room r = (
  r.0,
  record r.1 {
    loose = record {
      pages = set.union (set.union r.1.loose.pages gone.loose.pages) gone.pooled.pages;
      room = room;
    };
  },
)

-- the partition took over all pages of `gone` as loose pages, and no other row changed
pub record HasTakenOver (old new : Rows PartitionState) (id : ℕ) (gone : PartitionState) : Type 0 where
  pub row : Row PartitionState
  pub there : get old id ≡ Some row
  pub room : ℕ
  pub rows : new ≡ insert old id (new_owner_of gone room row)
