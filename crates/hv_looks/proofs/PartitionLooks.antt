-- What a look at a partition shows, in a state that a machine stands for.
use Rattle.std.proofs.Common.{◌≡◌, ℕ, length, Bool, true, false, Option, Some, None, is_some, refl, sym, ap, ◌∙◌, option_map, option_and_then}
use Rattle.std.specs.FinMap.{contains_key, get}
use Rattle.std.specs.FinMap as map
use Rattle.std.specs.FinSet as set
use Rattle.hv_partition_calls.proofs.Depths.{has_depth}
use Rattle.hv_partition_calls.proofs.NextChild.{next_is, id_or_0}
use Rattle.hv_partition.specs.Partition.{PartitionState, in_use}
use Rattle.hv_policy.specs.Answer.{next_child}
use Rattle.hv_policy.specs.Flat.{Flat, PartRow}
use Rattle.hv_privs.specs.declared.Privileges.{Privileges}
use Rattle.hv_admit.proofs.CountedRows.{children_counted, conns_counted, pool_counted, ports_counted, use_counted, vps_counted}
use Rattle.hv_admit.proofs.FoundRow.{content_row}
use Rattle.hv_admit.proofs.StateInvariant.{parents_below}
use Rattle.hv_admit.specs.Served.{TreeInvariant}
use Rattle.hv_admit.specs.Tie.{Refines, conn_row, conn_row_of, part_row, port_row, port_row_of}
use Rattle.hv_tree.specs.Rows.{HasDepth, IsLeastAbove, Row, Rows, children, content, parent}
use Rattle.hv_looks.specs.Look.{child_seen, features_seen, leaf_of, look_of, partition_seen}
use Rattle.hv_looks.specs.declared.partitions.PartitionLook.{PartitionLook}

-- a partition whose content is there has a row, and a flat one
module _ (rows : Rows PartitionState) (f : Flat) (flat : Refines rows f) (id : ℕ) where
  none : None ≡ content rows id → get f.part id ≡ None
  none gone = (flat.rows id).part ∙ by (get rows id) gone
    where
      by : (r : Option (Row PartitionState)) → None ≡ option_map (λ r. r.1) r → option_map part_row r ≡ None
      by None gone = refl
      by (Some r) gone = cc

  pub no_part : None ≡ content rows id → None ≡ partition_seen f id
  no_part gone = sym (ap (option_map (look_of f id)) (none gone))

  pub no_features : None ≡ content rows id → None ≡ features_seen f id
  no_features gone = sym (ap (option_map (λ row. leaf_of row.mask)) (none gone))

  pub no_children : contains_key rows id ≡ false → (previous : ℕ) → None ≡ child_seen f id previous
  no_children gone previous = sym (ap (option_map (λ row. next_child f id previous)) ((flat.rows id).part ∙ by (get rows id) gone))
    where
      by : (r : Option (Row PartitionState)) → is_some r ≡ false → option_map part_row r ≡ None
      by None gone = refl
      by (Some r) gone = cc

  pub child_is : contains_key rows id ≡ true → (previous : ℕ) (least : Option ℕ) → IsLeastAbove previous (children rows id) least → Some (id_or_0 least) ≡ child_seen f id previous
  child_is there previous least is =
      ap Some (sym (next_is rows f flat id previous least is)) ∙ by (get rows id) there ∙ sym (ap (option_map (λ row. next_child f id previous)) (flat.rows id).part)
    where
      by : (r : Option (Row PartitionState)) → is_some r ≡ true → Some (next_child f id previous) ≡ option_map (λ row. next_child f id previous) (option_map part_row r)
      by None there = cc
      by (Some r) there = refl

  -- its ports and connections
  pub port_is : (n : ℕ) (p : PartitionState) → Some p ≡ content rows id → option_map port_row_of (get p.ports.rows n) ≡ get f.port (id, n)
  port_is n p is = let (r, there, same) = content_row rows id p is in
      ap {A = PartitionState} (λ p. option_map port_row_of (get p.ports.rows n)) (sym same) ∙ sym ((flat.rows id).port n ∙ ap (port_row n) there)

  pub no_port : (n : ℕ) → None ≡ content rows id → None ≡ get f.port (id, n)
  no_port n gone = sym ((flat.rows id).port n ∙ by (get rows id) gone)
    where
      by : (r : Option (Row PartitionState)) → None ≡ option_map (λ r. r.1) r → port_row n r ≡ None
      by None gone = refl
      by (Some r) gone = cc

  pub conn_is : (n : ℕ) (p : PartitionState) → Some p ≡ content rows id → option_map conn_row_of (get p.conns.rows n) ≡ get f.conn (id, n)
  conn_is n p is = let (r, there, same) = content_row rows id p is in
      ap {A = PartitionState} (λ p. option_map conn_row_of (get p.conns.rows n)) (sym same) ∙ sym ((flat.rows id).conn n ∙ ap (conn_row n) there)

  pub no_conn : (n : ℕ) → None ≡ content rows id → None ≡ get f.conn (id, n)
  no_conn n gone = sym ((flat.rows id).conn n ∙ by (get rows id) gone)
    where
      by : (r : Option (Row PartitionState)) → None ≡ option_map (λ r. r.1) r → conn_row n r ≡ None
      by None gone = refl
      by (Some r) gone = cc

  module _ (p : PartitionState) (is : Some p ≡ content rows id) where
    pub found : (r : Row PartitionState) × (get rows id ≡ Some r) × (r.1 ≡ p)
    found = content_row rows id p is

    pub part_is : get f.part id ≡ Some (part_row found.0)
    part_is = (flat.rows id).part ∙ ap (option_map part_row) found.1

    pub features_is : Some (leaf_of p.mask) ≡ features_seen f id
    features_is = ap {A = PartitionState} (λ p. Some (leaf_of p.mask)) (sym found.2) ∙ sym (ap (option_map (λ row. leaf_of row.mask)) part_is)

    -- what the tree keeps of it
    abbrev kept_look : Option ℕ → ℕ → ℕ → PartitionLook
    kept_look above depth count = record {
      life = p.life;
      mask = p.mask;
      parent = above;
      depth = depth;
      pooled = set.len p.pooled.pages;
      in_use = in_use count p;
      children = count;
      vps = map.len p.vps.vps;
      ports = map.len p.ports.rows;
      conns = map.len p.conns.rows;
    }

    pub look_is : TreeInvariant rows → (above : Option ℕ) (depth count : ℕ) → above ≡ parent rows id → HasDepth rows id depth → count ≡ length (children rows id)
        → Some (kept_look above depth count) ≡ partition_seen f id
    look_is law above depth count named deep counted =
        let (r, there, same) = found in
        let mine : above ≡ r.0 = named ∙ parent_of r there in
        let deep_is = sym (has_depth rows f flat (parents_below rows law.flat law.tied law.pages law.lawful) id depth deep) in
        let pool = ap {A = PartitionState} (λ p. set.len p.pooled.pages) (sym same) ∙ sym (pool_counted rows f flat id r there) in
        let used = ap {A = ℕ} (λ n. in_use n p) counted ∙ ap {A = PartitionState} (in_use (length (children rows id))) (sym same) ∙ sym (use_counted rows f flat id r there) in
        let kids = counted ∙ sym (children_counted rows f flat id) in
        let vps = ap {A = PartitionState} (λ p. map.len p.vps.vps) (sym same) ∙ sym (vps_counted rows f flat id r there) in
        let ports = ap {A = PartitionState} (λ p. map.len p.ports.rows) (sym same) ∙ sym (ports_counted rows f flat id r there) in
        let conns = ap {A = PartitionState} (λ p. map.len p.conns.rows) (sym same) ∙ sym (conns_counted rows f flat id r there) in
        let life = ap {A = PartitionState} (λ p. p.life) (sym same) in
        let mask = ap {A = PartitionState} (λ p. p.mask) (sym same) in
        ap Some (λ i. record {
          life = life i;
          mask = mask i;
          parent = mine i;
          depth = deep_is i;
          pooled = pool i;
          in_use = used i;
          children = kids i;
          vps = vps i;
          ports = ports i;
          conns = conns i;
        }) ∙ sym (ap (option_map (look_of f id)) part_is)
      where
        parent_of : (r : Row PartitionState) → get rows id ≡ Some r → parent rows id ≡ r.0
        parent_of r there = ap (option_and_then (λ r. r.0)) there
