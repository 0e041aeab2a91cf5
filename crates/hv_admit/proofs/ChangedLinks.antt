-- Rows and flat states that are tied, once the ports or the connections of one partition changed.
use Rattle.std.proofs.Common.{◌≡◌, ℕ, ◌==◌, cond, Some, refl, subst, ◌∙◌, eq-eqb, option_map}
use Rattle.std.specs.FinMap.{FinMap, get, insert}
use Rattle.hv_partition.specs.Partition.{PartitionState}
use Rattle.hv_defs.specs.Flags.{pair_cmp}
use Rattle.hv_policy.specs.Flat.{ConnRow, Flat, PortRow}
use Rattle.hv_ports.specs.Table.{TableState}
use Rattle.hv_ports.specs.declared.ports.Conn.{Conn}
use Rattle.hv_ports.specs.declared.ports.Port.{Port}
use Rattle.hv_tree.specs.Rows.{Row, Rows}
use Rattle.hv_admit.proofs.ChangedPartition.{holds_alike, one_row_tied, same_shows}
use Rattle.hv_admit.specs.Tie.{Refines, PartitionRelation, conn_row_of, port_row_of}

module _ (rows : Rows PartitionState) (f : Flat) (flat : Refines rows f) (id : ℕ) (r : Row PartitionState) (is : get rows id ≡ Some r) where
  old : PartitionRelation f id (Some r)
  old = subst (PartitionRelation f id) is (flat.rows id)

  module _ (v : TableState Port) (m : FinMap pair_cmp PortRow) (made : (q n : ℕ) → get m (q, n) ≡ cond (q == id) (option_map port_row_of (get v.rows n)) (get f.port (q, n))) where
    pub ports_tied : Refines (insert rows id (r.0, record r.1 { ports = v })) (record f { port = m })
    ports_tied = one_row_tied rows id (r.0, record r.1 { ports = v }) (record f { port = m })
        (record {
          part = old.part;
          page = λ page pooled. old.page page pooled ∙ holds_alike pooled page r (r.0, record r.1 { ports = v }) refl refl;
          vp = old.vp;
          port = λ n. rw (eq-eqb id id refl) at (made id n);
          conn = old.conn;
          mail = old.mail;
        })
        (λ q apart. same_shows f (record f { port = m }) q (get rows q) refl (λ _. refl) (λ _. refl) (λ n. rw apart at (made q n)) (λ _. refl) (λ _ _. refl) (flat.rows q))

  module _ (v : TableState Conn) (m : FinMap pair_cmp ConnRow) (made : (q n : ℕ) → get m (q, n) ≡ cond (q == id) (option_map conn_row_of (get v.rows n)) (get f.conn (q, n))) where
    pub conns_tied : Refines (insert rows id (r.0, record r.1 { conns = v })) (record f { conn = m })
    conns_tied = one_row_tied rows id (r.0, record r.1 { conns = v }) (record f { conn = m })
        (record {
          part = old.part;
          page = λ page pooled. old.page page pooled ∙ holds_alike pooled page r (r.0, record r.1 { conns = v }) refl refl;
          vp = old.vp;
          port = old.port;
          conn = λ n. rw (eq-eqb id id refl) at (made id n);
          mail = old.mail;
        })
        (λ q apart. same_shows f (record f { conn = m }) q (get rows q) refl (λ _. refl) (λ _. refl) (λ _. refl) (λ n. rw apart at (made q n)) (λ _ _. refl) (flat.rows q))
