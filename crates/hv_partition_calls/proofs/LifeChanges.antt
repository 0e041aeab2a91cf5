-- A partition that became Active, and one that was finalized.
use Rattle.std.proofs.Common.{◌≡◌, ℕ, ◌==◌, Bool, true, false, cond, not, Option, Some, None, refl, sym, ap, subst, ◌∙◌, eqb-true, option_map, nat_cmp}
use Rattle.std.specs.FinMap.{FinMap, get, get-empty}
use Rattle.hv_defs.specs.declared.life.Life.TheVariants.{Active, Finalized}
use Rattle.hv_partition.specs.Partition.{PartitionState, finalized}
use Rattle.hv_policy.proofs.Places.{but_part_there}
use Rattle.hv_policy.proofs.Rows.{get-rows_but, get-with_row}
use Rattle.hv_policy.specs.Effect.{with_row, rows_but}
use Rattle.hv_defs.specs.Flags.{pair_cmp}
use Rattle.hv_policy.specs.Flat.{Flat, PartRow}
use Rattle.hv_policy.specs.Mail.{mail_but}
use Rattle.hv_admit.proofs.ChangedPartition.{changed_tied, holds_alike, same_shows}
use Rattle.hv_admit.specs.Tie.{Refines, PartitionRelation, conn_row_of, here, part_row, port_row_of, rows_of, sint_mail, vp_row_of}
use Rattle.hv_tree.proofs.Laws.{get-change}
use Rattle.hv_tree.specs.Rows.{Row, Rows, change}
use Rattle.hv_vp.specs.Vp.{VpState}

abbrev pub made_final : PartRow → PartRow
made_final row = record row { life = Finalized }

module _ (rows : Rows PartitionState) (f : Flat) (flat : Refines rows f) where
  -- a partition that became Active
  pub activated_tied : (target : ℕ) → Refines (change rows target (λ p. record p { life = Active })) (record f { part = with_row f.part target (λ row. record row { life = Active }) })
  activated_tied target =
      changed_tied rows f flat target (λ p. record p { life = Active }) (λ row. record row { life = Active }) (λ _. refl) (λ _. refl) (λ _. refl) (λ _. refl) (λ _. refl) (λ _. refl)

  -- a partition that was finalized
  module _ (target : ℕ) where
    abbrev closed : Flat
    closed = record f {
      part = with_row f.part target made_final;
      vp = rows_but target f.vp;
      port = rows_but target f.port;
      conn = rows_but target f.conn;
      mail = mail_but target f.mail;
    }

    closed_part : (id : ℕ) (b : Bool) → id == target ≡ b → get closed.part id ≡ cond b (option_map made_final (get f.part target)) (get f.part id)
    closed_part id b is = get-with_row f.part target made_final id ∙ ap (λ t. cond t (option_map made_final (get f.part target)) (get f.part id)) is

    closed_rows : {X : Type 0} (rows : FinMap pair_cmp X) (id n : ℕ) (b : Bool) → id == target ≡ b → get (rows_but target rows) (id, n) ≡ cond (not b) (get rows (id, n)) None
    closed_rows rows id n b is = get-rows_but rows target (id, n) ∙ ap (λ t. cond (not t) (get rows (id, n)) None) is

    closed_shows : (id : ℕ) → PartitionRelation closed id (get (change rows target finalized) id)
    closed_shows id = subst (PartitionRelation closed id) (sym (get-change rows target finalized id)) (by (id == target) refl)
      where
        one : (r : Option (Row PartitionState)) → get rows target ≡ r → id == target ≡ true → PartitionRelation f id r → PartitionRelation closed id (option_map (λ r. (r.0, finalized r.1)) r)
        one None is at old = record {
          part = closed_part id true at ∙ ap (option_map made_final) ((flat.rows target).part ∙ ap (option_map part_row) is);
          page = old.page;
          vp = λ n. closed_rows f.vp id n true at;
          port = λ n. closed_rows f.port id n true at;
          conn = λ n. closed_rows f.conn id n true at;
          mail = λ n sint. but_part_there target (here id n sint) true at f.mail;
        }
        one (Some r) is at old = record {
          part = closed_part id true at ∙ ap (option_map made_final) ((flat.rows target).part ∙ ap (option_map part_row) is);
          page = λ page pooled. old.page page pooled ∙ holds_alike pooled page r (r.0, finalized r.1) refl refl;
          vp = λ n. closed_rows f.vp id n true at ∙ sym (ap (option_map vp_row_of) (get-empty nat_cmp n));
          port = λ n. closed_rows f.port id n true at ∙ sym (ap (option_map port_row_of) (get-empty nat_cmp n));
          conn = λ n. closed_rows f.conn id n true at ∙ sym (ap (option_map conn_row_of) (get-empty nat_cmp n));
          mail = λ n sint. but_part_there target (here id n sint) true at f.mail ∙ sym (ap (λ (v : Option VpState). rows_of (here id n sint) (sint_mail sint v)) (get-empty nat_cmp n));
        }

        by : (b : Bool) → id == target ≡ b → PartitionRelation closed id (cond b (option_map (λ r. (r.0, finalized r.1)) (get rows target)) (get rows id))
        by false is = same_shows f closed id (get rows id) (closed_part id false is) (λ _. refl) (λ n. closed_rows f.vp id n false is) (λ n. closed_rows f.port id n false is)
            (λ n. closed_rows f.conn id n false is) (λ n sint. but_part_there target (here id n sint) false is f.mail) (flat.rows id)
        by true is = one (get rows target) refl is (subst (PartitionRelation f id) (ap (get rows) (eqb-true id target is)) (flat.rows id))

    pub closed_tied : Refines (change rows target finalized) closed
    closed_tied = record { rows = closed_shows }
