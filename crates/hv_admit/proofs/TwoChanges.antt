-- Two changes of one processor are one, and alike changes leave the same.
use Rattle.std.proofs.Common.{◌≡◌, ℕ, ◌==◌, cond, Option, Some, None, inl, inr, refl, sym, ap, ◌∙◌, arith, option_map, nat_cmp}
use Rattle.std.proofs.lemmas.Bool.{cases_Bool}
use Rattle.std.proofs.lemmas.Iterator.Adapters.{option_map_id}
use Rattle.std.specs.Cmp.{Equal-is, nat_cmp_total}
use Rattle.std.specs.FinMap.{FinMap, get, insert, same_map, nat_cmp-IsAntisymmetric}
use Rattle.std.specs.Ordering.{eq_by_cmp}
use Rattle.hv_partition.specs.Partition.{PartitionState}
use Rattle.hv_policy.proofs.Pairs.{pair_cmp_total, pair_cmp_exact}
use Rattle.hv_policy.proofs.Rows.{get-with_vp}
use Rattle.hv_policy.specs.Effect.{with_vp}
use Rattle.hv_policy.specs.Flat.{VpRow}
use Rattle.hv_defs.specs.Flags.{pair_cmp}
use Rattle.hv_tree.proofs.Laws.{change-same, get-change, same_rows}
use Rattle.hv_tree.specs.Rows.{Row, Rows, change, changed_at}
use Rattle.hv_vp.specs.Vp.{VpState}
use Rattle.hv_admit.proofs.ChangedProcessor.{get-state_changed, vp_in}
use Rattle.hv_admit.specs.Vp.{state_changed, with_state_of}

abbrev Staffed : Type 0
Staffed = FinMap nat_cmp VpState

same_vps : (vps others : Staffed) → ((n : ℕ) → get vps n ≡ get others n) → vps ≡ others
same_vps = same_map nat_cmp_total nat_cmp-IsAntisymmetric

-- of a map of processors
abbrev states : (vps : Staffed) (index : ℕ) → (VpState → VpState) → Staffed
states vps index g = state_changed vps index g (get vps index)

-- what changes twice at one key changes once by both, and what doesn't change there is as before
twice_at : {X : Type 0} (old new : ℕ → Option X) (k : ℕ) (a b : X → X) → ((n : ℕ) → new n ≡ cond (n == k) (option_map a (old k)) (old n)) → (n : ℕ) → cond (n == k) (option_map b (new k)) (new n) ≡
    cond (n == k) (option_map (λ x. b (a x)) (old k)) (old n)
twice_at old new k a b made n = grind (arith, made n, made k)

kept_at : {X : Type 0} (old : ℕ → Option X) (k n : ℕ) → cond (n == k) (option_map (λ x. x) (old k)) (old n) ≡ old n
kept_at old k n = grind arith

states-twice : (vps : Staffed) (index : ℕ) (a b : VpState → VpState) → states (states vps index a) index b ≡ states vps index (λ v. b (a v))
states-twice vps index a b = same_vps _ _ (λ n. get-state_changed (states vps index a) index b n ∙ twice_at (get vps) (get (states vps index a)) index a b (get-state_changed vps index a) n
    ∙ sym (get-state_changed vps index (λ v. b (a v)) n))

states-same : (vps : Staffed) (index : ℕ) → states vps index (λ v. v) ≡ vps
states-same vps index = same_vps _ _ (λ n. get-state_changed vps index (λ v. v) n ∙ kept_at (get vps) index n)

-- a partition with other processors
abbrev staffed : PartitionState → Staffed → PartitionState
staffed p vps = record p { vps = record p.vps { vps = vps } }

module _ (rows : Rows PartitionState) (id index : ℕ) where
  abbrev changed : (VpState → VpState) → Rows PartitionState
  changed g = change rows id (with_state_of index g)

  abbrev rowed : (VpState → VpState) → Row PartitionState → Row PartitionState
  rowed g r = (r.0, with_state_of index g r.1)

  -- two changes are one
  pub change-twice : (a b : VpState → VpState) → change (changed a) id (with_state_of index b) ≡ changed (λ v. b (a v))
  change-twice a b =
      same_rows _ _ (λ q. get-change (changed a) id (with_state_of index b) q
      ∙ twice_at (get rows) (get (changed a)) id (rowed a) (rowed b) (get-change rows id (with_state_of index a)) q
      ∙ sym (get-change rows id (λ p. with_state_of index b (with_state_of index a p)) q))
      ∙ (λ i. change rows id (λ p. staffed p (states-twice p.vps.vps index a b i)))

  -- a change of nothing
  pub change-none : changed (λ v. v) ≡ rows
  change-none = (λ i. change rows id (λ p. staffed p (states-same p.vps.vps index i))) ∙ change-same rows id

  -- changes that are alike of the processor that is there
  pub change-alike : (a b : VpState → VpState) → ((v : VpState) → vp_in index (get rows id) ≡ Some v → a v ≡ b v) → changed a ≡ changed b
  change-alike a b alike = by (get rows id) refl
    where
      of : (vps : Staffed) (o : Option VpState) → ((v : VpState) → o ≡ Some v → a v ≡ b v) → state_changed vps index a o ≡ state_changed vps index b o
      of vps None same = refl
      of vps (Some v) same = ap (insert vps index) (same v refl)

      by : (r : Option (Row PartitionState)) → get rows id ≡ r → changed_at rows id (with_state_of index a) r ≡ changed_at rows id (with_state_of index b) r
      by None is = refl
      by (Some r) is = ap {A = Staffed} (λ vps. insert rows id (r.0, staffed r.1 vps)) (of r.1.vps.vps (get r.1.vps.vps index) (λ v there. alike v (ap (vp_in index) is ∙ there)))

-- and in the flat state a change of nothing
pub with_vp-none : (vps : FinMap pair_cmp VpRow) (key : ℕ × ℕ) → with_vp vps key (λ row. row) ≡ vps
with_vp-none vps key = same_map pair_cmp_total pair_cmp_exact _ _ (λ q. get-with_vp vps key (λ row. row) q ∙ (elim (cases_Bool (eq_by_cmp pair_cmp q key)) [
  | inl s ↦ rw (s, pair_cmp_exact q key ((Equal-is (pair_cmp q key)).0 s)) (option_map_id (get vps key))
  | inr s ↦ rw s refl
]))
