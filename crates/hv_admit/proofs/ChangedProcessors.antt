-- Rows and flat states that are tied, once the processors of one partition changed.
use Rattle.std.proofs.Common.{◌≡◌, ℕ, ◌==◌, false, cond, List, Some, refl, subst, ◌∙◌, eq-eqb, option_map}
use Rattle.std.specs.FinMap.{FinMap, get, insert}
use Rattle.hv_partition.specs.Partition.{PartitionState}
use Rattle.hv_defs.specs.Flags.{pair_cmp}
use Rattle.hv_policy.specs.Flat.{Flat, MailRow, VpRow}
use Rattle.hv_policy.specs.Mail.{mail_at}
use Rattle.hv_tree.specs.Rows.{Row, Rows}
use Rattle.hv_vp.specs.Vps.{VpsState}
use Rattle.hv_admit.proofs.ChangedPartition.{holds_alike, one_row_tied, same_shows}
use Rattle.hv_admit.specs.Tie.{Refines, PartitionRelation, here, rows_of, sint_mail, vp_row_of}

module _ (rows : Rows PartitionState) (f : Flat) (flat : Refines rows f) (id : ℕ) (r : Row PartitionState) (is : get rows id ≡ Some r) (v : VpsState) (m : FinMap pair_cmp VpRow)
    (made : (q n : ℕ) → get m (q, n) ≡ cond (q == id) (option_map vp_row_of (get v.vps n)) (get f.vp (q, n)))
    (mail : List MailRow) (here_mail : (n sint : ℕ) → mail_at (here id n sint) mail ≡ rows_of (here id n sint) (sint_mail sint (get v.vps n)))
    (elsewhere : (q n sint : ℕ) → q == id ≡ false → mail_at (here q n sint) mail ≡ mail_at (here q n sint) f.mail) where
  abbrev after : Flat
  after = record f { vp = m; mail = mail }

  abbrev staffed : Row PartitionState
  staffed = (r.0, record r.1 { vps = v })

  old : PartitionRelation f id (Some r)
  old = subst (PartitionRelation f id) is (flat.rows id)

  pub vps_tied : Refines (insert rows id staffed) after
  vps_tied = one_row_tied rows id staffed after
      (record {
        part = old.part;
        page = λ page pooled. old.page page pooled ∙ holds_alike pooled page r staffed refl refl;
        vp = λ n. rw (eq-eqb id id refl) at (made id n);
        port = old.port;
        conn = old.conn;
        mail = here_mail;
      })
      (λ q apart. same_shows f after q (get rows q) refl (λ _. refl) (λ n. rw apart at (made q n)) (λ _. refl) (λ _. refl) (λ n sint. elsewhere q n sint apart) (flat.rows q))
