-- A partition that was lent from the tree, changed, and put back.
use Rattle.std.proofs.Common.{◌≡◌, ℕ, ◌≤◌, ◌==◌, Bool, true, false, cond, length, Option, Some, None, refl, sym, ap, ◌∙◌, arith, eq-eqb, option_map}
use Rattle.std.specs.Cmp.{nat_eq_equiv}
use Rattle.std.specs.FinMap.{get, insert, remove}
use Rattle.std.specs.FinSet as set
use Rattle.hv_pages.specs.PageSet.{Pages}
use Rattle.hv_partition.specs.Partition.{PartitionState}
use Rattle.hv_tree.proofs.ChildLaws.{count-change}
use Rattle.hv_defs.proofs.Maps.{get_at-insert, get_at-remove}
use Rattle.hv_tree.proofs.Laws.{parent-change}
use Rattle.hv_tree.specs.Rows.{Row, Rows, children, content, parent, is_leaf, change, changed_at}
use Rattle.hv_admit.proofs.FoundRow.{content_row}
use Rattle.hv_partition_calls.proofs.DeletedPartition.{IsDeleted}
use Rattle.hv_partition_calls.proofs.Needs.{IsEnding}
use Rattle.hv_partition_calls.specs.Change.{HasRoom, HasTakenOver, MayTakeOver, new_owner_of}

-- the rows with a partition that was there and has other loose pages
written : (rows : Rows PartitionState) (id : ℕ) (p w : PartitionState) (pages : PartitionState → Pages) → Some p ≡ content rows id → w.loose.pages ≡ pages p → w ≡ record p { loose = w.loose }
    → (r : Row PartitionState) × (get rows id ≡ Some r) × (change rows id (λ _. w) ≡ insert rows id (r.0, record r.1 { loose = record { pages = pages r.1; room = w.loose.room } }))
written rows id p w pages there is rest =
    let (r, at, same) = content_row rows id p there in
    let old = is ∙ ap pages (sym same) in
    let all = rest ∙ ap {A = PartitionState} (λ q. record q { loose = w.loose }) (sym same) ∙ ap {A = Pages} (λ ps. record r.1 { loose = record { pages = ps; room = w.loose.room } }) old in
    (r, at, ap (changed_at rows id (λ _. w)) at ∙ ap {A = PartitionState} (λ v. insert rows id (r.0, v)) all)

pub has_room : (rows : Rows PartitionState) (id more : ℕ) (p w : PartitionState) → Some p ≡ content rows id → w.loose.pages ≡ p.loose.pages → w ≡ record p { loose = w.loose } → more ≤ w.loose.room →
    HasRoom rows (change rows id (λ _. w)) id more
has_room rows id more p w there pages rest enough =
    let (r, at, is) = written rows id p w (λ q. q.loose.pages) there pages rest in
    record { row = r; there = at; room = w.loose.room; enough = enough; rows = is }

pub has_taken_over : (rows : Rows PartitionState) (id : ℕ) (gone p w : PartitionState) → Some p ≡ content rows id → w.loose.pages ≡ set.union (set.union p.loose.pages gone.loose.pages)
    gone.pooled.pages → w ≡ record p { loose = w.loose } → HasTakenOver rows (change rows id (λ _. w)) id gone
has_taken_over rows id gone p w there pages rest =
    let (r, at, is) = written rows id p w (λ q. set.union (set.union q.loose.pages gone.loose.pages) gone.pooled.pages) there pages rest in
    record { row = r; there = at; room = w.loose.room; rows = is }

-- a partition stays a leaf when another gets room
pub still_leaf : (rows new : Rows PartitionState) (new_owner id more : ℕ) → IsEnding rows new_owner id more → HasRoom rows new new_owner more → is_leaf new id ≡ true
still_leaf rows new new_owner id more may room =
    let same : new ≡ change rows new_owner (λ p. record p { loose = record { pages = p.loose.pages; room = room.room } }) = room.rows ∙ sym
    (ap (changed_at rows new_owner (λ p. record p { loose = record { pages = p.loose.pages; room = room.room } })) room.there) in
    let parents : parent new id ≡ parent rows id = ap (λ m. parent m id) same ∙ parent-change rows new_owner _ id in
    let counts : length (children new id) ≡ length (children rows id) = ap (λ m. length (children m id)) same ∙ count-change rows new_owner _ id in
    rw (parents, counts) may.leaf

-- the new owner, once it has room and the other is gone, can take over its pages, and then the other is deleted
module _ (rows roomy : Rows PartitionState) (new_owner id more : ℕ) (may : IsEnding rows new_owner id more) (room : HasRoom rows roomy new_owner more) (gone : PartitionState)
    (was : content roomy id ≡ Some gone) where
  abbrev row : Row PartitionState
  row = (room.row.0, record room.row.1 { loose = record { pages = room.row.1.loose.pages; room = room.room } })

  roomy_at : (q : ℕ) → get roomy q ≡ cond (q == new_owner) (Some row) (get rows q)
  roomy_at q = ap (λ m. get m q) room.rows ∙ get_at-insert rows new_owner row q

  same : may.gone.1 ≡ gone
  same = let found = sym (ap (option_map (λ r. r.1)) (roomy_at id ∙ ap (λ b. cond b (Some row) (get rows id)) may.apart ∙ may.was)) ∙ was in cc

  found : get (remove roomy id) new_owner ≡ Some row
  found = get_at-remove roomy id new_owner ∙ ap (λ b. cond b None (get roomy new_owner)) (nat_eq_equiv.symm new_owner id ∙ may.apart) ∙ roomy_at new_owner ∙ ap
      (λ b. cond b (Some row) (get rows new_owner)) (eq-eqb new_owner new_owner refl)

  pub was_there : content rows id ≡ Some gone
  was_there = ap (option_map (λ r. r.1)) may.was ∙ ap Some same

  pub can_take_over : MayTakeOver (remove roomy id) new_owner gone
  can_take_over =
      let owner : room.row ≡ may.owner = (let both = sym room.there ∙ may.there in cc) in
      record {
        row = row;
        there = found;
        room = rw (← same) (let enough = room.enough in let counted = may.counted in omega arith);
        loose = rw (owner, ← same) may.loose;
        pooled = rw (owner, ← same) may.pooled;
        own = rw (← same) may.own;
      }

  pub is_deleted : (new : Rows PartitionState) → HasTakenOver (remove roomy id) new new_owner gone → IsDeleted rows new new_owner id
  is_deleted new taken =
      let taken_row : taken.row ≡ row = (let both = sym taken.there ∙ found in cc) in
      let owner : Some (new_owner_of gone taken.room taken.row) ≡ Some (new_owner_of may.gone.1 taken.room room.row) =
      ap {A = Row PartitionState} (λ r. Some (new_owner_of gone taken.room r)) taken_row ∙ ap {A = PartitionState} (λ p. Some (new_owner_of p taken.room room.row)) (sym same) in
      record {
        gone = may.gone;
        was = may.was;
        owner = room.row;
        there = room.there;
        room = taken.room;
        rows = λ q.
            ap (λ m. get m q) taken.rows ∙ get_at-insert (remove roomy id) new_owner (new_owner_of gone taken.room taken.row) q
            ∙ ap (cond (q == new_owner) (Some (new_owner_of gone taken.room taken.row))) (get_at-remove roomy id q ∙ ap (cond (q == id) None) (roomy_at q))
            ∙ by (q == new_owner) (q == id) (Some (new_owner_of gone taken.room taken.row)) (get rows q)
            ∙ ap (λ o. cond (q == new_owner) o (cond (q == id) None (get rows q))) owner;
      }
    where
      by : (s t : Bool) (a o : Option (Row PartitionState)) → cond s a (cond t None (cond s (Some row) o)) ≡ cond s a (cond t None o)
      by true t a o = refl
      by false t a o = refl
