-- The processor that takes what comes to a port: the flat state's choice is that among the processors of the tree's row.
use Rattle.std.proofs.Common.{◌≡◌, ℕ, Bool, false, cond, List, [], ◌∷◌, Option, Some, None, find, length, refl, sym, ap, ◌∙◌, arith, option_map, nat_cmp}
use Rattle.std.proofs.lemmas.Option.{cond_some}
use Rattle.std.specs.FinMap.{FinMap, empty, entries, get, get-empty, len-empty, len-entries}
use Rattle.std.specs.Option.{option_map_or}
use Rattle.hv_defs.proofs.Maps.{found_row}
use Rattle.hv_defs.specs.declared.aim.Aim.{Aim}
use Rattle.hv_defs.specs.declared.aim.Aim.TheVariants.{One, Any}
use Rattle.hv_partition.specs.Partition.{PartitionState}
use Rattle.hv_policy.proofs.Pairs.{first_there}
use Rattle.hv_policy.specs.Aim.{lowest_vp, on_vp, select_vp}
use Rattle.hv_policy.specs.Flat.{Flat, VpRow}
use Rattle.hv_admit.proofs.FoundRow.{found}
use Rattle.hv_admit.proofs.ChangedProcessor.{vp_in, vp_there}
use Rattle.hv_admit.specs.Tie.{Refines, vp_row_of}
use Rattle.hv_tree.specs.Rows.{Row, Rows}
use Rattle.hv_vp.specs.Vp.{VpState}
use Rattle.hv_vp.specs.Vps.{lowest}

no_entries : (es : List (ℕ × VpState)) → entries {R = nat_cmp} (empty {X = VpState}) ≡ es → es ≡ []
no_entries [] is = refl
no_entries (e ∷ es) is =
    let none = sym (len-entries {R = nat_cmp} (empty {X = VpState})) ∙ len-empty nat_cmp VpState in
    let some = ap (λ (es : List (ℕ × VpState)). length es) is in
    absurd (omega arith)

module _ (rows : Rows PartitionState) (f : Flat) (flat : Refines rows f) (id : ℕ) (test : VpRow → Bool) where
  -- of a partition that is there the lowest is that of its row
  pub lowest_there : (r : Row PartitionState) → get rows id ≡ Some r → lowest_vp test f id ≡ lowest (λ v. test (vp_row_of v)) r.1.vps.vps
  lowest_there r there = first_there id vp_row_of test f.vp r.1.vps.vps (λ i. vp_there rows f flat id i ∙ ap (λ r. option_map vp_row_of (vp_in i r)) there)

  -- and one that isn't has none
  pub lowest_gone : get rows id ≡ None → lowest_vp test f id ≡ None
  lowest_gone gone =
      first_there id vp_row_of test f.vp empty (λ i. vp_there rows f flat id i ∙ ap (λ r. option_map vp_row_of (vp_in i r)) gone ∙ sym (ap (option_map vp_row_of) (get-empty nat_cmp i)))
      ∙ ap (λ (es : List (ℕ × VpState)). option_map (λ e. e.0) (find (λ e. test (vp_row_of e.1)) es)) (no_entries (entries empty) refl)

  -- whether one processor passes depends on its state
  pub one_there : (index : ℕ) → on_vp f (id, index) test ≡ option_map_or (λ v. test (vp_row_of v)) (vp_in index (get rows id)) false
  one_there index = ap (λ o. option_map_or test o false) (vp_there rows f flat id index) ∙ by (vp_in index (get rows id))
    where
      by : (o : Option VpState) → option_map_or test (option_map vp_row_of o) false ≡ option_map_or (λ v. test (vp_row_of v)) o false
      by o = grind arith

  -- the first entry that passes is a row of its map
  first_row : (vps : FinMap nat_cmp VpState) (vp : ℕ) (o : Option (ℕ × VpState)) → find (λ e. test (vp_row_of e.1)) (entries vps) ≡ o → option_map (λ e. e.0) o ≡ Some vp →
      (v : VpState) × (get vps vp ≡ Some v)
  first_row vps vp None at is = cc
  first_row vps vp (Some e) at is = let same : e.0 ≡ vp = cc in (e.1, ap (get vps) (sym same) ∙ (found_row (λ e. test (vp_row_of e.1)) vps e at).0)

  -- a processor that takes what comes is there
  pub taker_there : (aim : Aim) (vp : ℕ) → select_vp test f id aim ≡ Some vp → (v : VpState) × (vp_in vp (get rows id) ≡ Some v)
  taker_there (One index) vp is =
      let (v, at, passed) = found (λ o. cond (option_map_or (λ v. test (vp_row_of v)) o false) (Some index) None ≡ Some vp) (vp_in index (get rows id)) (λ none. cc)
      (ap (λ b. cond b (Some index) None) (sym (one_there index)) ∙ is) in
      let same : index ≡ vp = (cond_some (test (vp_row_of v)) index vp passed).1 in
      (v, ap (λ n. vp_in n (get rows id)) (sym same) ∙ at)
  taker_there Any vp is = by (get rows id) refl
    where
      by : (o : Option (Row PartitionState)) → get rows id ≡ o → (v : VpState) × (vp_in vp o ≡ Some v)
      by None at = let none = lowest_gone at in cc
      by (Some r) at = first_row r.1.vps.vps vp _ refl (sym (lowest_there r at) ∙ is)
