-- Room stands in no flat state.
use Rattle.std.proofs.Common.{◌≡◌, ℕ, Bool, Option, Some, None, refl, sym, ap, subst, ◌∙◌, arith, option_map}
use Rattle.std.specs.Cmp.{nat_cmp_total}
use Rattle.std.specs.FinMap.{get, nat_cmp-IsAntisymmetric, same_map}
use Rattle.hv_defs.proofs.Maps.{get-mapped}
use Rattle.hv_partition.specs.Partition.{PartitionState}
use Rattle.hv_policy.specs.Flat.{Flat}
use Rattle.hv_tree.specs.Rows.{Row, Rows}
use Rattle.hv_admit.proofs.ChangedPartition.{holds_alike}
use Rattle.hv_admit.specs.Room.{IsSameButRoom, bare, roomless}
use Rattle.hv_admit.specs.Tie.{Refines, PartitionRelation, holds}

-- what a flat state shows of a row doesn't look at room
held_bare : (pooled : Bool) (page : ℕ) (r : Row PartitionState) → holds pooled page (Some r) ≡ holds pooled page (Some (bare r))
held_bare pooled page r = holds_alike pooled page r (bare r) refl refl

to_bare : (f : Flat) (id : ℕ) (r : Option (Row PartitionState)) → PartitionRelation f id r → PartitionRelation f id (option_map bare r)
to_bare f id None s = s
to_bare f id (Some r) s = record { part = s.part; page = λ page pooled. s.page page pooled ∙ held_bare pooled page r; vp = s.vp; port = s.port; conn = s.conn; mail = s.mail }

from_bare : (f : Flat) (id : ℕ) (r : Option (Row PartitionState)) → PartitionRelation f id (option_map bare r) → PartitionRelation f id r
from_bare f id None s = s
from_bare f id (Some r) s = record { part = s.part; page = λ page pooled. s.page page pooled ∙ sym (held_bare pooled page r); vp = s.vp; port = s.port; conn = s.conn; mail = s.mail }

-- rows that are the same but for room are tied to the same flat states
pub kept_tied : (old new : Rows PartitionState) → IsSameButRoom old new → (f : Flat) → Refines old f → Refines new f
kept_tied old new same f flat = record { rows = λ id. from_bare f id (get new id) (subst (PartitionRelation f id) (sym (same id)) (to_bare f id (get old id) (flat.rows id))) }

get-roomless : (rows : Rows PartitionState) (id : ℕ) → get (roomless rows) id ≡ option_map bare (get rows id)
get-roomless rows id = get-mapped bare rows id

bare_twice : (r : Option (Row PartitionState)) → option_map bare (option_map bare r) ≡ option_map bare r
bare_twice r = grind arith

-- the rows and those without room differ in room alone
roomless_same : (rows : Rows PartitionState) → IsSameButRoom rows (roomless rows)
roomless_same rows id = ap (option_map bare) (get-roomless rows id) ∙ bare_twice (get rows id)

-- so they are tied to the same flat states
pub roomless_tied : (rows : Rows PartitionState) (f : Flat) → Refines rows f → Refines (roomless rows) f
roomless_tied rows f = kept_tied rows (roomless rows) (roomless_same rows) f

pub tied_roomless : (rows : Rows PartitionState) (f : Flat) → Refines (roomless rows) f → Refines rows f
tied_roomless rows f = kept_tied (roomless rows) rows (λ id. sym (roomless_same rows id)) f

-- and rows that differ in room alone are the same without it
pub same_roomless : (old new : Rows PartitionState) → IsSameButRoom old new → roomless new ≡ roomless old
same_roomless old new same = same_map nat_cmp_total nat_cmp-IsAntisymmetric (roomless new) (roomless old) (λ id. get-roomless new id ∙ same id ∙ sym (get-roomless old id))
