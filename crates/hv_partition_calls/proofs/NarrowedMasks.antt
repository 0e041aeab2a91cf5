-- Rows whose subtree was narrowed are tied to the model's partitions with the same subtree narrowed.
use Rattle.std.proofs.Common.{◌≡◌, ℕ, zero, suc, ◌<◌, Bool, true, false, cond, if◌then◌else◌, Option, Some, None, refl, sym, ap, subst, ◌∙◌, option_and_then, option_map}
use Rattle.std.specs.FinMap.{get}
use Rattle.hv_partition.specs.Partition.{PartitionState}
use Rattle.hv_policy.proofs.Rows.{get-narrowed}
use Rattle.hv_policy.proofs.Subtrees.{leads_tested, within_leads}
use Rattle.hv_policy.specs.Count.{parent_of}
use Rattle.hv_policy.specs.Effect.{narrowed as narrowed_parts, narrowed_row}
use Rattle.hv_policy.specs.Flat.{Flat, PartRow}
use Rattle.hv_policy.specs.Subtree.{LeadsUp, is_in_subtree}
use Rattle.hv_privs.specs.declared.Privileges.{Privileges}
use Rattle.hv_partition_calls.specs.Given.{narrowed}
use Rattle.hv_admit.proofs.ChangedPartition.{holds_alike}
use Rattle.hv_admit.proofs.StateInvariant.{parents_below}
use Rattle.hv_admit.specs.Served.{TreeInvariant}
use Rattle.hv_admit.specs.Tie.{Refines, PartitionRelation, part_row}
use Rattle.hv_tree.proofs.SubtreeLaws.{get-subtree}
use Rattle.hv_tree.specs.Rows.{Row, Rows, parent}
use Rattle.hv_tree.specs.Subtree as tree
use Rattle.hv_tree.specs.Subtree.{IsInSubtree}

module _ (rows : Rows PartitionState) (f : Flat) (flat : Refines rows f) where
  parents_tied : (id : ℕ) → parent_of f id ≡ parent rows id
  parents_tied id = ap (option_and_then (λ row. row.parent)) (flat.rows id).part ∙ by (get rows id)
    where
      by : (r : Option (Row PartitionState)) → option_and_then (λ (row : PartRow). row.parent) (option_map part_row r) ≡ option_and_then (λ r. r.0) r
      by None = refl
      by (Some r) = refl

  -- a chain of parents in the one is a chain in the other
  leads_in_rows : (n id top : ℕ) → LeadsUp (parent_of f) top n id → tree.LeadsUp (parent rows) id top n
  leads_in_rows zero id top leads = leads
  leads_in_rows (suc n) id top (p, is, leads) = (p, sym (parents_tied id) ∙ is, leads_in_rows n p top leads)

  leads_in_flat : (n id top : ℕ) → tree.LeadsUp (parent rows) id top n → LeadsUp (parent_of f) top n id
  leads_in_flat zero id top leads = leads
  leads_in_flat (suc n) id top (p, is, leads) = (p, parents_tied id ∙ is, leads_in_flat n p top leads)

  module _ (lawful : TreeInvariant rows) (top : ℕ) where
    rising : (id p : ℕ) → parent_of f id ≡ Some p → p < id
    rising id p is = parents_below rows lawful.flat lawful.tied lawful.pages lawful.lawful id p (sym (parents_tied id) ∙ is)

    in_rows : (id : ℕ) → is_in_subtree f top id ≡ true → IsInSubtree rows top id
    in_rows id h = let (n, leads) = within_leads (parent_of f) top id id h in (n, leads_in_rows n id top leads)

    not_in_rows : (id : ℕ) → is_in_subtree f top id ≡ false → IsInSubtree rows top id → ⊥
    not_in_rows id h (n, leads) = let found = leads_tested (parent_of f) top rising n id (leads_in_flat n id top leads) in cc

    module _ (value : Privileges) where
      abbrev after : Flat
      after = record f { part = narrowed_parts f top value }

      part_at : (id : ℕ) (b : Bool) → is_in_subtree f top id ≡ b → (r : Option (Row PartitionState)) → get f.part id ≡ option_map part_row r → get after.part id ≡ option_map
          (λ row. if b then narrowed_row value row else row) (option_map part_row r)
      part_at id b is r old = get-narrowed f top value id ∙ ap (λ b. option_map (λ row. if b then narrowed_row value row else row) (get f.part id)) is ∙ ap
          (option_map (λ row. if b then narrowed_row value row else row)) old

      shown : (id : ℕ) (b : Bool) → is_in_subtree f top id ≡ b → (r : Option (Row PartitionState)) → PartitionRelation f id r → PartitionRelation after id
          (option_map (λ r. (r.0, cond b (narrowed value r.1) r.1)) r)
      shown id b is None old = record {
        part = part_at id b is None old.part;
        page = old.page;
        vp = old.vp;
        port = old.port;
        conn = old.conn;
        mail = old.mail;
      }
      shown id true is (Some r) old = record {
        part = part_at id true is (Some r) old.part;
        page = λ page pooled. old.page page pooled ∙ holds_alike pooled page r (r.0, narrowed value r.1) refl refl;
        vp = old.vp;
        port = old.port;
        conn = old.conn;
        mail = old.mail;
      }
      shown id false is (Some r) old = record {
        part = part_at id false is (Some r) old.part;
        page = old.page;
        vp = old.vp;
        port = old.port;
        conn = old.conn;
        mail = old.mail;
      }

      pub narrowed_tied : (new : Rows PartitionState) → ((id : ℕ) → IsInSubtree rows top id → get new id ≡ option_map (λ r. (r.0, narrowed value r.1)) (get rows id)) →
          ((id : ℕ) → (IsInSubtree rows top id → ⊥) → get new id ≡ get rows id) → Refines new after
      narrowed_tied new edited others = record {
        rows = λ id. subst (PartitionRelation after id) (sym (get-subtree rows new top (narrowed value) (is_in_subtree f top) in_rows not_in_rows edited others id))
            (shown id (is_in_subtree f top id) refl (get rows id) (flat.rows id));
      }
