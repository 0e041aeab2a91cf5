-- The flat states that a machine stands for have the same of each partition.
use Rattle.std.proofs.Common.{◌≡◌, ℕ, ◌==◌, ◌&&◌, not, Bool, true, false, cond, Option, None, Some, refl, sym, ap, ◌∙◌, eqb-true}
use Rattle.std.specs.FinMap.{get}
use Rattle.hv_security.specs.Same.{HasSame, held_by}
use Rattle.hv_partition.specs.Partition.{PartitionState}
use Rattle.hv_policy.specs.Flat.{Flat, PageRow}
use Rattle.hv_admit.specs.Tie.{PartitionRelation, is_held}
use Rattle.hv_tree.specs.Rows.{Row}
use Rattle.hv_machine.specs.IsFlat.{IsFlat}
use Rattle.hv_machine.specs.State.{State}

-- a page's row, from whether it is pooled and whether it is loose
kept_row : (id : ℕ) → Bool → Bool → Option PageRow
kept_row id true loose = Some (record { owner = id; pooled = true })
kept_row id false true = Some (record { owner = id; pooled = false })
kept_row id false false = None

held_row : (id : ℕ) (r : Option PageRow) → held_by id r ≡ kept_row id (is_held id true r) (is_held id false r)
unfolding kept_row
held_row id None = refl
held_row id (Some row) = by (row.owner == id) refl
  where
    pool : (owner : ℕ) (p : Bool) → owner ≡ id → Some (record { owner = owner; pooled = p }) ≡ kept_row id p (not p)
    pool owner true is = ap (λ n. Some (record { owner = n; pooled = true })) is
    pool owner false is = ap (λ n. Some (record { owner = n; pooled = false })) is

    by : (o : Bool) → row.owner == id ≡ o → cond o (Some row) None ≡ kept_row id (o && row.pooled) (o && not row.pooled)
    by true is = pool row.owner row.pooled (eqb-true row.owner id is)
    by false is = refl

-- two flat states that show the same row have the same
shows_same : (id : ℕ) (f g : Flat) (row : Option (Row PartitionState)) → PartitionRelation f id row → PartitionRelation g id row → HasSame id f g
shows_same id f g row s t = record {
  part = s.part ∙ sym t.part;
  pages = λ page. held_row id (get f.page page) ∙ (λ i. kept_row id ((s.page page true ∙ sym (t.page page true)) i) ((s.page page false ∙ sym (t.page page false)) i)) ∙ sym
      (held_row id (get g.page page));
  vps = λ vp. s.vp vp ∙ sym (t.vp vp);
  ports = λ port. s.port port ∙ sym (t.port port);
  conns = λ connection. s.conn connection ∙ sym (t.conn connection);
  mail = λ vp sint. s.mail vp sint ∙ sym (t.mail vp sint);
}

pub flat_same : (m : State) (f g : Flat) → IsFlat m f → IsFlat m g → (id : ℕ) → HasSame id f g
flat_same m f g s t id = shows_same id f g (get m.rows id) (s.tied.rows id) (t.tied.rows id)
