-- A partition that was made.
use Rattle.std.proofs.Common.{◌≡◌, ℕ, ◌+◌, ◌==◌, Bool, true, false, cond, Option, Some, None, refl, sym, ap, subst, ◌∙◌, eqb-true, option_map, nat_cmp}
use Rattle.std.specs.FinMap.{get, get-empty, insert}
use Rattle.std.specs.FinSet as set
use Rattle.hv_defs.proofs.Maps.{get_at-insert}
use Rattle.hv_defs.specs.declared.life.Life.TheVariants.{Created}
use Rattle.hv_partition.specs.Partition.{PartitionState, new_partition}
use Rattle.hv_policy.specs.Effect.{new_row, mask_of}
use Rattle.hv_policy.specs.Flat.{Flat}
use Rattle.hv_privs.specs.Privileges.{restrict}
use Rattle.hv_privs.specs.declared.Privileges.{Privileges}
use Rattle.hv_privs.specs.declared.TheConstants.Privileges as privilege
use Rattle.hv_admit.proofs.ChangedPartition.{same_shows}
use Rattle.hv_admit.proofs.FoundRow.{content_row}
use Rattle.hv_admit.specs.Tie.{Refines, PartitionRelation, conn_row_of, here, holds, part_row, port_row_of, rows_of, sint_mail, vp_row_of}
use Rattle.hv_tree.specs.Rows.{Row, Rows, content}
use Rattle.hv_vp.specs.Vp.{VpState}

module _ (rows : Rows PartitionState) (f : Flat) (flat : Refines rows f) (parent : ℕ) (creator : PartitionState) (there : content rows parent ≡ Some creator) (mask : Privileges)
    (restricted : mask ≡ restrict creator.mask privilege.NEW_PARTITION) (free : get rows f.next ≡ None) where
  abbrev child : Row PartitionState
  child = (Some parent, new_partition Created mask)

  abbrev created : Flat
  created = record f { part = insert f.part f.next (new_row parent (mask_of (get f.part parent))); next = f.next + 1 }

  new_part : new_row parent (mask_of (get f.part parent)) ≡ part_row child
  new_part =
      let (r, is, same) = content_row rows parent creator (sym there) in
      ap (λ o. new_row parent (mask_of o)) ((flat.rows parent).part ∙ ap (option_map part_row) is) ∙ ap {A = PartitionState} (λ p. new_row parent p.mask) same
      ∙ ap (λ m. part_row (Some parent, new_partition Created m)) (sym restricted)

  part_after : (id : ℕ) (b : Bool) → id == f.next ≡ b → get created.part id ≡ cond b (Some (new_row parent (mask_of (get f.part parent)))) (get f.part id)
  part_after id b is = get_at-insert f.part f.next _ id ∙ ap (λ t. cond t (Some (new_row parent (mask_of (get f.part parent)))) (get f.part id)) is

  no_page : (pooled : Bool) (page : ℕ) → false ≡ holds pooled page (Some child)
  no_page true page = sym (set.contains-empty nat_cmp page)
  no_page false page = sym (set.contains-empty nat_cmp page)

  created_shows : (id : ℕ) → PartitionRelation created id (get (insert rows f.next child) id)
  created_shows id = subst (PartitionRelation created id) (sym (get_at-insert rows f.next child id)) (by (id == f.next) refl)
    where
      by : (b : Bool) → id == f.next ≡ b → PartitionRelation created id (cond b (Some child) (get rows id))
      by false is = same_shows f created id (get rows id) (part_after id false is) (λ _. refl) (λ _. refl) (λ _. refl) (λ _. refl) (λ _ _. refl) (flat.rows id)
      by true is =
          let none : get rows id ≡ None = ap (get rows) (eqb-true id f.next is) ∙ free in
          let old : PartitionRelation f id None = subst (PartitionRelation f id) none (flat.rows id) in
          record {
            part = part_after id true is ∙ ap Some new_part;
            page = λ page pooled. old.page page pooled ∙ no_page pooled page;
            vp = λ index. old.vp index ∙ sym (ap (option_map vp_row_of) (get-empty nat_cmp index));
            port = λ port. old.port port ∙ sym (ap (option_map port_row_of) (get-empty nat_cmp port));
            conn = λ conn. old.conn conn ∙ sym (ap (option_map conn_row_of) (get-empty nat_cmp conn));
            mail = λ vp sint. old.mail vp sint ∙ sym (ap (λ (v : Option VpState). rows_of (here id vp sint) (sint_mail sint v)) (get-empty nat_cmp vp));
          }

  pub created_tied : Refines (insert rows f.next child) created
  created_tied = record { rows = created_shows }
