-- A partition that was deleted, and its pages with its new owner.
use Rattle.std.proofs.Common.{◌≡◌, ℕ, ◌==◌, Bool, true, false, cond, ◌&&◌, ◌||◌, not, map, Option, Some, None, refl, sym, ap, subst, ◌∙◌, eqb-true, eq-eqb, option_map, nat_cmp}
use Rattle.std.proofs.Math.Bool.{and-false, or-false}
use Rattle.std.specs.Cmp.{nat_cmp_total, nat_eq_equiv}
use Rattle.std.specs.FinMap.{FinMap, get, get-empty, remove, entries, from_entries}
use Rattle.std.specs.FinSet as set
use Rattle.hv_partition.specs.Partition.{PartitionState}
use Rattle.hv_policy.specs.Effect.{inherited}
use Rattle.hv_policy.specs.Flat.{Flat, PageRow}
use Rattle.hv_defs.proofs.Maps.{get_at-remove, get-mapped}
use Rattle.hv_ports.specs.declared.ports.Conn.{Conn}
use Rattle.hv_ports.specs.declared.ports.Port.{Port}
use Rattle.hv_tree.specs.Rows.{Row, Rows}
use Rattle.hv_admit.proofs.StateInvariant.{UsesNothing}
use Rattle.hv_admit.specs.Tie.{Refines, PartitionRelation, conn_row_of, here, is_held, holds, port_row_of, rows_of, sint_mail, vp_row_of}
use Rattle.hv_vp.specs.Vp.{VpState}
use Rattle.hv_partition_calls.specs.Change.{new_owner_of}

-- a partition was deleted, and its pages went to `new_owner`
pub record IsDeleted (old new : Rows PartitionState) (new_owner id : ℕ) : Type 0 where
  pub gone : Row PartitionState
  pub was : get old id ≡ Some gone
  pub owner : Row PartitionState
  pub there : get old new_owner ≡ Some owner
  pub room : ℕ
  pub rows : (q : ℕ) → get new q ≡ cond (q == new_owner) (Some (new_owner_of gone.1 room owner)) (cond (q == id) None (get old q))

-- who holds a page of a partition that is gone, and any other page
module _ (gone new_owner : ℕ) (apart : gone == new_owner ≡ false) where
  apart_back : new_owner == gone ≡ false
  apart_back = nat_eq_equiv.symm new_owner gone ∙ apart

  not_gone : (page : PageRow) (id : ℕ) → page.owner == gone ≡ true → id == gone ≡ false → page.owner == id ≡ false
  not_gone page id is off = ap (λ n. n == id) (eqb-true page.owner gone is) ∙ nat_eq_equiv.symm gone id ∙ off

  -- a third partition holds what it held
  held_other : (id : ℕ) (pooled : Bool) (page : Option PageRow) → id == new_owner ≡ false → id == gone ≡ false → is_held id pooled (option_map (inherited gone new_owner) page) ≡ is_held id pooled page
  held_other id pooled None off away = refl
  held_other id pooled (Some page) off away = by (page.owner == gone) pooled refl
    where
      new_owner_off : new_owner == id ≡ false
      new_owner_off = nat_eq_equiv.symm new_owner id ∙ off

      by : (b pooled : Bool) → page.owner == gone ≡ b → is_held id pooled (Some (inherited gone new_owner page)) ≡ is_held id pooled (Some page)
      by true true is = rw (is, new_owner_off, not_gone page id is away) refl
      by true false is = rw (is, new_owner_off, not_gone page id is away) refl
      by false pooled is = rw is refl

  -- the partition that is gone holds none
  held_gone : (pooled : Bool) (page : Option PageRow) → is_held gone pooled (option_map (inherited gone new_owner) page) ≡ false
  held_gone pooled None = refl
  held_gone pooled (Some page) = by (page.owner == gone) pooled refl
    where
      by : (b pooled : Bool) → page.owner == gone ≡ b → is_held gone pooled (Some (inherited gone new_owner page)) ≡ false
      by true true is = rw (is, apart_back) refl
      by true false is = rw (is, apart_back) refl
      by false true is = rw is (rw is refl)
      by false false is = rw is (rw is refl)

  -- the new owner's pool is what it was
  held_pool : (page : Option PageRow) → is_held new_owner true (option_map (inherited gone new_owner) page) ≡ is_held new_owner true page
  held_pool None = refl
  held_pool (Some page) = by (page.owner == gone) refl
    where
      by : (b : Bool) → page.owner == gone ≡ b → is_held new_owner true (Some (inherited gone new_owner page)) ≡ is_held new_owner true (Some page)
      by true is = rw is (and-false (new_owner == new_owner)) ∙ sym (ap (λ t. t && page.pooled) (not_gone page new_owner is apart_back))
      by false is = rw is refl

  -- its loose pages are those of the three
  held_loose : (page : Option PageRow) → is_held new_owner false (option_map (inherited gone new_owner) page) ≡ (is_held new_owner false page || is_held gone false page) || is_held gone true page
  held_loose None = refl
  held_loose (Some page) = by (page.owner == gone) refl
    where
      all : (x p : Bool) → true ≡ ((x && not p) || not p) || p
      all true true = refl
      all true false = refl
      all false true = refl
      all false false = refl

      by : (b : Bool) → page.owner == gone ≡ b → is_held new_owner false (Some (inherited gone new_owner page)) ≡ (is_held new_owner false (Some page) || is_held gone false (Some page)) || is_held
          gone true (Some page)
      by true is = rw (is, eq-eqb new_owner new_owner refl) (all (page.owner == new_owner) page.pooled)
      by false is = rw is (simp or-false)

module _ (rows : Rows PartitionState) (f : Flat) (flat : Refines rows f) (new : Rows PartitionState) (new_owner id : ℕ) (apart : id == new_owner ≡ false) (d : IsDeleted rows new new_owner id)
    (idle : UsesNothing rows id d.gone.1) where
  abbrev deleted : Flat
  deleted = record f {
    part = remove f.part id;
    page = from_entries (map (λ e. (e.0, inherited id new_owner e.1)) (entries f.page));
  }

  abbrev owner_after : Row PartitionState
  owner_after = new_owner_of d.gone.1 d.room d.owner

  page_after : (page : ℕ) → get deleted.page page ≡ option_map (inherited id new_owner) (get f.page page)
  page_after page = get-mapped (inherited id new_owner) f.page page

  part_after : (q : ℕ) (b : Bool) → q == id ≡ b → get deleted.part q ≡ cond b None (get f.part q)
  part_after q b is = get_at-remove f.part id q ∙ ap (λ t. cond t None (get f.part q)) is

  own_page : (page : ℕ) (pooled : Bool) → is_held new_owner pooled (get deleted.page page) ≡ holds pooled page (Some owner_after)
  own_page page true =
      ap (is_held new_owner true) (page_after page) ∙ held_pool id new_owner apart (get f.page page)
      ∙ (flat.rows new_owner).page page true ∙ ap (holds true page) d.there
  own_page page false =
      let own : is_held new_owner false (get f.page page) ≡ set.contains d.owner.1.loose.pages page = (flat.rows new_owner).page page false ∙ ap (holds false page) d.there in
      let loose : is_held id false (get f.page page) ≡ set.contains d.gone.1.loose.pages page = (flat.rows id).page page false ∙ ap (holds false page) d.was in
      let pooled : is_held id true (get f.page page) ≡ set.contains d.gone.1.pooled.pages page = (flat.rows id).page page true ∙ ap (holds true page) d.was in
      ap (is_held new_owner false) (page_after page) ∙ held_loose id new_owner apart (get f.page page) ∙ rw (own, loose, pooled) refl
      ∙ sym (set.contains-union nat_cmp_total (set.union d.owner.1.loose.pages d.gone.1.loose.pages) d.gone.1.pooled.pages page ∙ ap (λ b. b || set.contains d.gone.1.pooled.pages page)
      (set.contains-union nat_cmp_total d.owner.1.loose.pages d.gone.1.loose.pages page))

  deleted_shows : (q : ℕ) → PartitionRelation deleted q (get new q)
  deleted_shows q = subst (PartitionRelation deleted q) (sym (d.rows q)) (by (q == new_owner) (q == id) refl refl)
    where
      by : (s t : Bool) → q == new_owner ≡ s → q == id ≡ t → PartitionRelation deleted q (cond s (Some owner_after) (cond t None (get rows q)))
      by true t is at =
          let same : q ≡ new_owner = eqb-true q new_owner is in
          let old : PartitionRelation f q (Some d.owner) = subst (PartitionRelation f q) (ap (get rows) same ∙ d.there) (flat.rows q) in
          record {
            part = part_after q false (ap (λ n. n == id) same ∙ apart_back id new_owner apart) ∙ old.part;
            page = λ page pooled. ap (λ n. is_held n pooled (get deleted.page page)) same ∙ own_page page pooled;
            vp = old.vp;
            port = old.port;
            conn = old.conn;
            mail = old.mail;
          }
      by false true is at =
          let same : q ≡ id = eqb-true q id at in
          let old : PartitionRelation f q (Some d.gone) = subst (PartitionRelation f q) (ap (get rows) same ∙ d.was) (flat.rows q) in
          record {
            part = part_after q true at;
            page = λ page pooled. ap (λ n. is_held n pooled (get deleted.page page)) same ∙ ap (is_held id pooled) (page_after page) ∙ held_gone id new_owner apart pooled (get f.page page) ∙ no_page
                pooled page;
            vp = λ n. old.vp n ∙ ap (λ (vps : FinMap nat_cmp VpState). option_map vp_row_of (get vps n)) idle.vps ∙ ap (option_map vp_row_of) (get-empty nat_cmp n);
            port = λ n. old.port n ∙ ap (λ (ports : FinMap nat_cmp Port). option_map port_row_of (get ports n)) idle.ports ∙ ap (option_map port_row_of) (get-empty nat_cmp n);
            conn = λ n. old.conn n ∙ ap (λ (conns : FinMap nat_cmp Conn). option_map conn_row_of (get conns n)) idle.conns ∙ ap (option_map conn_row_of) (get-empty nat_cmp n);
            mail = λ n sint. old.mail n sint ∙ ap (λ (v : Option VpState). rows_of (here q n sint) (sint_mail sint v))
                (ap (λ (vps : FinMap nat_cmp VpState). get vps n) idle.vps ∙ get-empty nat_cmp n);
          }
        where
          no_page : (pooled : Bool) (page : ℕ) → false ≡ holds pooled page None
          no_page true page = refl
          no_page false page = refl
      by false false is at =
          let old = flat.rows q in
          record {
            part = part_after q false at ∙ old.part;
            page = λ page pooled. ap (is_held q pooled) (page_after page) ∙ held_other id new_owner apart q pooled (get f.page page) is at ∙ old.page page pooled;
            vp = old.vp;
            port = old.port;
            conn = old.conn;
            mail = old.mail;
          }

  pub deleted_tied : Refines new deleted
  deleted_tied = record { rows = deleted_shows }
