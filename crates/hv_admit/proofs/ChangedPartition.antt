-- Rows and flat states that are tied, once one partition changed.
use Rattle.std.proofs.Common.{◌≡◌, ℕ, ◌==◌, Bool, true, false, cond, Option, Some, None, refl, sym, ap, subst, ◌∙◌, eqb-true, option_map}
use Rattle.std.specs.FinMap.{get, insert}
use Rattle.std.specs.FinSet as set
use Rattle.hv_defs.proofs.Maps.{get_at-insert}
use Rattle.hv_partition.specs.Partition.{PartitionState}
use Rattle.hv_policy.proofs.Rows.{get-with_row}
use Rattle.hv_policy.specs.Effect.{with_row}
use Rattle.hv_policy.specs.Flat.{Flat, PartRow}
use Rattle.hv_policy.specs.Mail.{mail_at}
use Rattle.hv_ports.specs.Table.{TableState}
use Rattle.hv_ports.specs.declared.ports.Conn.{Conn}
use Rattle.hv_ports.specs.declared.ports.Port.{Port}
use Rattle.hv_tree.proofs.Laws.{get-change}
use Rattle.hv_tree.specs.Rows.{Row, Rows, change}
use Rattle.hv_admit.specs.Tie.{Refines, PartitionRelation, conn_row_of, here, is_held, holds, part_row, port_row_of, rows_of, sint_mail, vp_row_of}
use Rattle.hv_vp.specs.Vps.{VpsState}

-- what shows a row shows it in each state with the same maps under that id
pub same_shows : (f g : Flat) (id : ℕ) (row : Option (Row PartitionState)) → get g.part id ≡ get f.part id → ((page : ℕ) → get g.page page ≡ get f.page page) →
    ((n : ℕ) → get g.vp (id, n) ≡ get f.vp (id, n)) → ((n : ℕ) → get g.port (id, n) ≡ get f.port (id, n)) → ((n : ℕ) → get g.conn (id, n) ≡ get f.conn (id, n)) →
    ((vp sint : ℕ) → mail_at (here id vp sint) g.mail ≡ mail_at (here id vp sint) f.mail) → PartitionRelation f id row → PartitionRelation g id row
same_shows f g id row part page vp port conn mail s = record {
  part = part ∙ s.part;
  page = λ p pooled. ap (is_held id pooled) (page p) ∙ s.page p pooled;
  vp = λ n. vp n ∙ s.vp n;
  port = λ n. port n ∙ s.port n;
  conn = λ n. conn n ∙ s.conn n;
  mail = λ vp sint. mail vp sint ∙ s.mail vp sint;
}

pub holds_alike : (pooled : Bool) (page : ℕ) (r s : Row PartitionState) → r.1.loose.pages ≡ s.1.loose.pages → r.1.pooled.pages ≡ s.1.pooled.pages → holds pooled page (Some r) ≡ holds pooled page
    (Some s)
holds_alike true page r s loose pool = ap (λ ps. set.contains ps page) pool
holds_alike false page r s loose pool = ap (λ ps. set.contains ps page) loose

-- one partition has another row, and what shows it shows all others as before
pub one_row_tied : (rows : Rows PartitionState) (id : ℕ) (r : Row PartitionState) (g : Flat) → PartitionRelation g id (Some r) → ((q : ℕ) → q == id ≡ false → PartitionRelation g q (get rows q)) →
    Refines (insert rows id r) g
one_row_tied rows id r g own others = record { rows = λ q. subst (PartitionRelation g q) (sym (get_at-insert rows id r q)) (by q (q == id) refl) }
  where
    by : (q : ℕ) (b : Bool) → q == id ≡ b → PartitionRelation g q (cond b (Some r) (get rows q))
    by q true is = subst (λ q. PartitionRelation g q (Some r)) (sym (eqb-true q id is)) own
    by q false is = others q is

module _ (rows : Rows PartitionState) (f : Flat) (flat : Refines rows f) where
  -- a partition whose life state, mask or CPU properties changed: `h` does to it what `g` does to its row
  module _ (target : ℕ) (h : PartitionState → PartitionState) (g : PartRow → PartRow) (alike : (r : Row PartitionState) → part_row (r.0, h r.1) ≡ g (part_row r))
      (loose : (p : PartitionState) → (h p).loose.pages ≡ p.loose.pages) (pool : (p : PartitionState) → (h p).pooled.pages ≡ p.pooled.pages) (vps : (p : PartitionState) → (h p).vps ≡ p.vps)
      (ports : (p : PartitionState) → (h p).ports ≡ p.ports) (conns : (p : PartitionState) → (h p).conns ≡ p.conns) where
    abbrev changed : Flat
    changed = record f { part = with_row f.part target g }

    changed_part : (id : ℕ) (b : Bool) → id == target ≡ b → get changed.part id ≡ cond b (option_map g (get f.part target)) (get f.part id)
    changed_part id b is = get-with_row f.part target g id ∙ ap (λ t. cond t (option_map g (get f.part target)) (get f.part id)) is

    changed_shows : (id : ℕ) → PartitionRelation changed id (get (change rows target h) id)
    changed_shows id = subst (PartitionRelation changed id) (sym (get-change rows target h id)) (by (id == target) refl)
      where
        one : (r : Option (Row PartitionState)) → get rows target ≡ r → id == target ≡ true → PartitionRelation f id r → PartitionRelation changed id (option_map (λ r. (r.0, h r.1)) r)
        one None is at old = same_shows f changed id None (changed_part id true at ∙ ap (option_map g) ((flat.rows target).part ∙ ap (option_map part_row) is) ∙ sym old.part)
            (λ _. refl) (λ _. refl) (λ _. refl) (λ _. refl) (λ _ _. refl) old
        one (Some r) is at old = record {
          part = changed_part id true at ∙ ap (option_map g) ((flat.rows target).part ∙ ap (option_map part_row) is) ∙ ap Some (sym (alike r));
          page = λ page pooled. old.page page pooled ∙ holds_alike pooled page r (r.0, h r.1) (sym (loose r.1)) (sym (pool r.1));
          vp = λ index. old.vp index ∙ ap (λ (s : VpsState). option_map vp_row_of (get s.vps index)) (sym (vps r.1));
          port = λ port. old.port port ∙ ap (λ (s : TableState Port). option_map port_row_of (get s.rows port)) (sym (ports r.1));
          conn = λ conn. old.conn conn ∙ ap (λ (s : TableState Conn). option_map conn_row_of (get s.rows conn)) (sym (conns r.1));
          mail = λ index sint. old.mail index sint ∙ ap (λ (s : VpsState). rows_of (here id index sint) (sint_mail sint (get s.vps index))) (sym (vps r.1));
        }

        by : (b : Bool) → id == target ≡ b → PartitionRelation changed id (cond b (option_map (λ r. (r.0, h r.1)) (get rows target)) (get rows id))
        by false is = same_shows f changed id (get rows id) (changed_part id false is) (λ _. refl) (λ _. refl) (λ _. refl) (λ _. refl) (λ _ _. refl) (flat.rows id)
        by true is = one (get rows target) refl is (subst (PartitionRelation f id) (ap (get rows) (eqb-true id target is)) (flat.rows id))

    pub changed_tied : Refines (change rows target h) changed
    changed_tied = record { rows = changed_shows }
