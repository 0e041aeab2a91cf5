-- Who has a page, in a state that a machine stands for.
use Rattle.std.proofs.Common.{◌≡◌, ℕ, ◌<◌, ◌≤◌, ◌||◌, Bool, true, false, Option, Some, None, is_some, refl, sym, ap, ◌∙◌, arith, option_map}
use Rattle.std.specs.FinMap.{contains_key, get}
use Rattle.std.specs.FinSet as set
use Rattle.hv_defs.specs.declared.sizes.TheConstants.{MAX_PAGES}
use Rattle.hv_partition.specs.Partition.{PartitionState}
use Rattle.hv_policy.specs.Flat.{Flat, PageRow}
use Rattle.hv_admit.proofs.PageHolders.{held_alone, held_by_owner}
use Rattle.hv_admit.proofs.StateInvariant.{page_below}
use Rattle.hv_admit.specs.Served.{TreeInvariant}
use Rattle.hv_admit.specs.Tie.{Refines, holds, is_held}
use Rattle.hv_tree.specs.Rows.{Row, Rows, content}
use Rattle.hv_looks.specs.Look.{owner_seen}
use Rattle.hv_looks.specs.Rows.{has_page}

-- of the two kinds of pages it is one
has_kind : (page : ℕ) (r : Option (Row PartitionState)) → has_page page (option_map (λ r. r.1) r) ≡ true → (kind : Bool) × (holds kind page r ≡ true)
has_kind page None has = cc
has_kind page (Some r) has = by (set.contains r.1.loose.pages page) (set.contains r.1.pooled.pages page) refl refl has
  where
    by : (a b : Bool) → set.contains r.1.loose.pages page ≡ a → set.contains r.1.pooled.pages page ≡ b → a || b ≡ true → (kind : Bool) × (holds kind page (Some r) ≡ true)
    by true b loose pooled has = (false, loose)
    by false true loose pooled has = (true, pooled)
    by false false loose pooled has = cc

kind_has : (page : ℕ) (r : Option (Row PartitionState)) (kind : Bool) → holds kind page r ≡ true → has_page page (option_map (λ r. r.1) r) ≡ true
kind_has page None true held = cc
kind_has page None false held = cc
kind_has page (Some r) false held = ap (λ b. b || set.contains r.1.pooled.pages page) held
kind_has page (Some r) true held = by (set.contains r.1.loose.pages page)
  where
    by : (a : Bool) → a || set.contains r.1.pooled.pages page ≡ true
    by true = refl
    by false = held

module _ (rows : Rows PartitionState) (f : Flat) (flat : Refines rows f) (page : ℕ) where
  -- the partition that has it is its owner
  pub owner_is : (id : ℕ) → has_page page (content rows id) ≡ true → Some id ≡ owner_seen f page
  owner_is id has = (let (kind, held) = has_kind page (get rows id) has in by (get f.page page) refl kind ((flat.rows id).page page kind ∙ held))
    where
      by : (row : Option PageRow) → get f.page page ≡ row → (kind : Bool) → is_held id kind (get f.page page) ≡ true → Some id ≡ owner_seen f page
      by None is kind held = let none = sym (ap (is_held id kind) is) ∙ held in cc
      by (Some row) is kind held = ap Some (held_alone row id kind (sym (ap (is_held id kind) is) ∙ held)).0 ∙ sym (ap (option_map (λ (row : PageRow). row.owner)) is)

  -- a page's owner has it
  pub owner_has : (row : PageRow) → get f.page page ≡ Some row → has_page page (content rows row.owner) ≡ true
  owner_has row is =
      kind_has page (get rows row.owner) row.pooled (sym ((flat.rows row.owner).page page row.pooled) ∙ ap (is_held row.owner row.pooled) is ∙ held_by_owner row)

  -- so where no partition has it there is none, and partitions have ids below the next one
  pub nobody : (next : ℕ) → ((id : ℕ) → has_page page (content rows id) ≡ true → id < next) → ((id : ℕ) → id < next → has_page page (content rows id) ≡ false) → None ≡ owner_seen f page
  nobody next below none = by (get f.page page) refl
    where
      by : (row : Option PageRow) → get f.page page ≡ row → None ≡ owner_seen f page
      by None is = sym (ap (option_map (λ (row : PageRow). row.owner)) is)
      by (Some row) is = let has = owner_has row is in let lacks = none row.owner (below row.owner has) in cc

-- a partition that has a page is there
pub has_there : (rows : Rows PartitionState) (page id : ℕ) → has_page page (content rows id) ≡ true → contains_key rows id ≡ true
has_there rows page id has = by (get rows id) has
  where
    by : (r : Option (Row PartitionState)) → has_page page (option_map (λ r. r.1) r) ≡ true → is_some r ≡ true
    by None has = cc
    by (Some r) has = refl

-- no page has a number past the most pages
pub too_high : (rows : Rows PartitionState) (law : TreeInvariant rows) (f : Flat) → Refines rows f → (page : ℕ) → MAX_PAGES ≤ page → None ≡ owner_seen f page
too_high rows law f flat page le = by (get f.page page) refl
  where
    by : (row : Option PageRow) → get f.page page ≡ row → None ≡ owner_seen f page
    by None is = sym (ap (option_map (λ (row : PageRow). row.owner)) is)
    by (Some row) is =
        let (kind, held) = has_kind page (get rows row.owner) (owner_has rows f flat page row is) in
        let below = page_below rows law.flat law.tied law.pages law.lawful row.owner page kind held in
        let most = law.bounded in
        absurd (omega arith)
