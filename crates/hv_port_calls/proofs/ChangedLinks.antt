-- One port or connection is added or removed: the new rows refine what the model makes of the old state.
use Rattle.std.proofs.Common.{◌≡◌, ℕ, ◌==◌, ◌&&◌, Bool, true, false, cond, Option, Some, None, refl, sym, ap, subst, ◌∙◌, eqb-true, option_map, nat_cmp}
use Rattle.std.specs.Cmp.{nat_cmp_total}
use Rattle.std.specs.FinMap.{FinMap, get, insert, remove, get-insert, get-remove}
use Rattle.std.specs.Ordering.{eq_by_cmp}
use Rattle.hv_partition.specs.Partition.{PartitionState}
use Rattle.hv_policy.proofs.Pairs.{pair_cmp_total, tied_pairs}
use Rattle.hv_defs.specs.Flags.{pair_cmp}
use Rattle.hv_policy.specs.Flat.{ConnRow, Flat, PortRow}
use Rattle.hv_ports.specs.declared.ports.Conn.{Conn}
use Rattle.hv_ports.specs.declared.ports.Port.{Port}
use Rattle.hv_admit.proofs.FoundRow.{content_row}
use Rattle.hv_admit.proofs.ChangedLinks.{conns_tied, ports_tied}
use Rattle.hv_admit.specs.Room.{IsSameButRoom, bare}
use Rattle.hv_admit.specs.Tie.{Refines, conn_row, conn_row_of, port_row, port_row_of}
use Rattle.hv_tree.proofs.Laws.{change-unchanged}
use Rattle.hv_tree.specs.Rows.{Rows, change, changed_at, content}

-- what is at a key of a pair after one of them was written
module _ {X Y : Type 0} (h : X → Y) (id n : ℕ) (to : Option X) (rows : FinMap pair_cmp Y) (own : FinMap nat_cmp X) (was : (q m : ℕ) → q == id ≡ true → get rows (q, m) ≡ option_map h (get own m)) where
  written : (own_after : FinMap nat_cmp X) (after : FinMap pair_cmp Y)
      → ((m : ℕ) → get own_after m ≡ cond (eq_by_cmp nat_cmp m n) to (get own m))
      → ((key : ℕ × ℕ) → get after key ≡ cond (eq_by_cmp pair_cmp key (id, n)) (option_map h to) (get rows key))
      → (q m : ℕ) → get after (q, m) ≡ cond (q == id) (option_map h (get own_after m)) (get rows (q, m))
  written own_after after here at q m =
      at (q, m) ∙ ap (λ b. cond b (option_map h to) (get rows (q, m))) (tied_pairs q m id n) ∙ by (q == id) refl
    where
      one : (b : Bool) (o : Option X) → cond b (option_map h to) (option_map h o) ≡ option_map h (cond b to o)
      one true o = refl
      one false o = refl

      by : (b : Bool) → q == id ≡ b → cond (b && eq_by_cmp nat_cmp m n) (option_map h to) (get rows (q, m)) ≡ cond b (option_map h (get own_after m)) (get rows (q, m))
      by true is = ap (cond (eq_by_cmp nat_cmp m n) (option_map h to)) (was q m is) ∙ one (eq_by_cmp nat_cmp m n) (get own m) ∙ sym (ap (option_map h) (here m))
      by false is = refl

-- a partition that was lent from the tree, whose ports or connections changed, and put back
module _ (rows : Rows PartitionState) (f : Flat) (flat : Refines rows f) (id n : ℕ) (p w : PartitionState) (there : Some p ≡ content rows id) where
  port_was : (q m : ℕ) → q == id ≡ true → get f.port (q, m) ≡ option_map port_row_of (get p.ports.rows m)
  port_was q m is =
      let (r, at, same) = content_row rows id p there in
      (flat.rows q).port m ∙ ap (port_row m) (ap (get rows) (eqb-true q id is) ∙ at) ∙ ap {A = PartitionState} (λ v. option_map port_row_of (get v.ports.rows m)) same

  ports_after : (to : Option Port) (m : FinMap pair_cmp PortRow) → w ≡ record p { ports = w.ports } → ((k : ℕ) → get w.ports.rows k ≡ cond (eq_by_cmp nat_cmp k n) to (get p.ports.rows k)) →
      ((key : ℕ × ℕ) → get m key ≡ cond (eq_by_cmp pair_cmp key (id, n)) (option_map port_row_of to) (get f.port key)) → Refines (change rows id (λ _. w)) (record f { port = m })
  ports_after to m rest here at =
      let (r, is, same) = content_row rows id p there in
      subst (λ rows. Refines rows (record f { port = m })) (sym (ap (changed_at rows id (λ _. w)) is ∙ ap {A = PartitionState} (λ v. insert rows id (r.0, v))
      (rest ∙ ap {A = PartitionState} (λ q. record q { ports = w.ports }) (sym same))))
      (ports_tied rows f flat id r is w.ports m (written port_row_of id n to f.port p.ports.rows port_was w.ports.rows m here at))

  -- `q` is the partition with room for one more
  pub port_added : (x : Port) (q : PartitionState) → q.ports.rows ≡ p.ports.rows → q ≡ record p { ports = q.ports } → w.ports.rows ≡ insert q.ports.rows n x → w ≡ record q { ports = w.ports } →
      Refines (change rows id (λ _. w)) (record f { port = insert f.port (id, n) (port_row_of x) })
  port_added x q same room is rest = ports_after (Some x) (insert f.port (id, n) (port_row_of x)) (rest ∙ ap {A = PartitionState} (λ p. record p { ports = w.ports }) room)
      (λ k. ap {A = FinMap nat_cmp Port} (λ m. get m k) (is ∙ ap {A = FinMap nat_cmp Port} (λ m. insert m n x) same) ∙ get-insert nat_cmp_total p.ports.rows n x k)
      (λ key. get-insert pair_cmp_total f.port (id, n) (port_row_of x) key)

  pub port_removed : w.ports.rows ≡ remove p.ports.rows n → w ≡ record p { ports = w.ports } → Refines (change rows id (λ _. w)) (record f { port = remove f.port (id, n) })
  port_removed is rest = ports_after None (remove f.port (id, n)) rest (λ k. ap {A = FinMap nat_cmp Port} (λ m. get m k) is ∙ get-remove nat_cmp_total p.ports.rows n k)
      (λ key. get-remove pair_cmp_total f.port (id, n) key)

  conn_was : (q m : ℕ) → q == id ≡ true → get f.conn (q, m) ≡ option_map conn_row_of (get p.conns.rows m)
  conn_was q m is =
      let (r, at, same) = content_row rows id p there in
      (flat.rows q).conn m ∙ ap (conn_row m) (ap (get rows) (eqb-true q id is) ∙ at) ∙ ap {A = PartitionState} (λ v. option_map conn_row_of (get v.conns.rows m)) same

  conns_after : (to : Option Conn) (m : FinMap pair_cmp ConnRow) → w ≡ record p { conns = w.conns } → ((k : ℕ) → get w.conns.rows k ≡ cond (eq_by_cmp nat_cmp k n) to (get p.conns.rows k)) →
      ((key : ℕ × ℕ) → get m key ≡ cond (eq_by_cmp pair_cmp key (id, n)) (option_map conn_row_of to) (get f.conn key)) → Refines (change rows id (λ _. w)) (record f { conn = m })
  conns_after to m rest here at =
      let (r, is, same) = content_row rows id p there in
      subst (λ rows. Refines rows (record f { conn = m })) (sym (ap (changed_at rows id (λ _. w)) is ∙ ap {A = PartitionState} (λ v. insert rows id (r.0, v))
      (rest ∙ ap {A = PartitionState} (λ q. record q { conns = w.conns }) (sym same))))
      (conns_tied rows f flat id r is w.conns m (written conn_row_of id n to f.conn p.conns.rows conn_was w.conns.rows m here at))

  pub conn_added : (x : Conn) (q : PartitionState) → q.conns.rows ≡ p.conns.rows → q ≡ record p { conns = q.conns } → w.conns.rows ≡ insert q.conns.rows n x → w ≡ record q { conns = w.conns } →
      Refines (change rows id (λ _. w)) (record f { conn = insert f.conn (id, n) (conn_row_of x) })
  conn_added x q same room is rest = conns_after (Some x) (insert f.conn (id, n) (conn_row_of x)) (rest ∙ ap {A = PartitionState} (λ p. record p { conns = w.conns }) room)
      (λ k. ap {A = FinMap nat_cmp Conn} (λ m. get m k) (is ∙ ap {A = FinMap nat_cmp Conn} (λ m. insert m n x) same) ∙ get-insert nat_cmp_total p.conns.rows n x k)
      (λ key. get-insert pair_cmp_total f.conn (id, n) (conn_row_of x) key)

  pub conn_removed : w.conns.rows ≡ remove p.conns.rows n → w ≡ record p { conns = w.conns } → Refines (change rows id (λ _. w)) (record f { conn = remove f.conn (id, n) })
  conn_removed is rest = conns_after None (remove f.conn (id, n)) rest (λ k. ap {A = FinMap nat_cmp Conn} (λ m. get m k) is ∙ get-remove nat_cmp_total p.conns.rows n k)
      (λ key. get-remove pair_cmp_total f.conn (id, n) key)

-- a partition that was lent and put back unchanged
pub put_back : (rows : Rows PartitionState) (id : ℕ) (p w : PartitionState) → Some p ≡ content rows id → w ≡ p → IsSameButRoom rows (change rows id (λ _. w))
put_back rows id p w there same q = ap (λ rows. option_map bare (get rows q)) (change-unchanged rows id w (sym there ∙ ap Some (sym same)))

-- the relation carried to an equal flat state
pub carried : (rows : Rows PartitionState) (f g : Flat) → Refines rows f → f ≡ g → Refines rows g
carried rows f g flat same = subst (Refines rows) same flat
