-- Rows of a flat state after a change, and those that rules which are met tell of.
use Rattle.std.proofs.Common.{◌≡◌, ℕ, ◌==◌, Bool, true, false, cond, if◌then◌else◌, not, List, [], ◌∷◌, map, Option, Some, None, inl, inr, refl, sym, ap, ◌∙◌, eqb-true, option_map, nat_cmp}
use Rattle.std.proofs.lemmas.Bool.{cases_Bool}
use Rattle.std.specs.Cmp.{Equal-is, nat_cmp_total, unsigned_tied}
use Rattle.std.specs.FinMap as finite
use Rattle.std.specs.FinMap.{FinMap, get, entries, from_entries, get-entries, get-from_entries, get-insert, get-retain_keys}
use Rattle.std.specs.Ordering.{eq_by_cmp}
use Rattle.hv_defs.proofs.Maps.{get_at-insert}
use Rattle.hv_policy.proofs.Pairs.{pair_cmp_total, pair_cmp_exact}
use Rattle.hv_policy.specs.Effect.{with_row, with_vp, changed_at, narrowed, narrowed_row, rows_but}
use Rattle.hv_defs.specs.Flags.{pair_cmp}
use Rattle.hv_policy.specs.Flat.{Flat, PartRow, VpRow}
use Rattle.hv_policy.specs.Met.{test_row, on_part}
use Rattle.hv_policy.specs.Subtree.{is_in_subtree}
use Rattle.hv_privs.specs.declared.Privileges.{Privileges}

-- a row of the model once one of them is changed
pub get-with_row : (part : FinMap nat_cmp PartRow) (id : ℕ) (g : PartRow → PartRow) (q : ℕ) → get (with_row part id g) q ≡ cond (q == id) (option_map g (get part id)) (get part q)
get-with_row part id g q = by (get part id) refl
  where
    by : (r : Option PartRow) → get part id ≡ r → get (changed_at part id g r) q ≡ cond (q == id) (option_map g r) (get part q)
    by None is = elim (cases_Bool (q == id)) [
      | inl s ↦ rw s (ap (get part) (eqb-true q id s) ∙ is)
      | inr s ↦ rw s refl
    ]
    by (Some r) is = get_at-insert part id (g r) q

find-mapped_at : {X : Type 0} (g : ℕ → X → X) (q : ℕ) (es : List (ℕ × X)) → finite.find nat_cmp q (map (λ e. (e.0, g e.0 e.1)) es) ≡ option_map (g q) (finite.find nat_cmp q es)
find-mapped_at g q [] = refl
find-mapped_at {X = X} g q (e ∷ es) = by (eq_by_cmp nat_cmp q e.0) refl (find-mapped_at g q es)
  where
    by : (b : Bool) → eq_by_cmp nat_cmp q e.0 ≡ b → finite.find nat_cmp q (map (λ e. (e.0, g e.0 e.1)) es) ≡ option_map (g q) (finite.find nat_cmp q es) → cond b (Some (g e.0 e.1))
        (finite.find nat_cmp q (map (λ e. (e.0, g e.0 e.1)) es)) ≡ option_map (g q) (cond b (Some e.1) (finite.find nat_cmp q es))
    by true is rest = ap (λ n. Some (g n e.1)) (sym (eqb-true q e.0 (sym (unsigned_tied q e.0) ∙ is)))
    by false is rest = rest

-- a row once each is changed, by its number
pub get-mapped_at : {X : Type 0} (g : ℕ → X → X) (m : FinMap nat_cmp X) (q : ℕ) → get (from_entries {R = nat_cmp} (map (λ e. (e.0, g e.0 e.1)) (entries m))) q ≡ option_map (g q) (get m q)
get-mapped_at g m q = get-from_entries nat_cmp_total (map (λ e. (e.0, g e.0 e.1)) (entries m)) q ∙ find-mapped_at g q (entries m) ∙ ap (option_map (g q)) (sym (get-entries m q))

-- and a partition's row once a subtree is narrowed
pub get-narrowed : (f : Flat) (top : ℕ) (value : Privileges) (q : ℕ) → get (narrowed f top value) q ≡ option_map (λ row. if is_in_subtree f top q then narrowed_row value row else row) (get f.part q)
get-narrowed f top value q = get-mapped_at (λ q row. if is_in_subtree f top q then narrowed_row value row else row) f.part q

-- a processor's row once one of them is changed
pub get-with_vp : (vps : FinMap pair_cmp VpRow) (key : ℕ × ℕ) (g : VpRow → VpRow) (q : ℕ × ℕ) → get (with_vp vps key g) q ≡ cond (eq_by_cmp pair_cmp q key) (option_map g (get vps key)) (get vps q)
get-with_vp vps key g q = by (get vps key) refl
  where
    by : (r : Option VpRow) → get vps key ≡ r → get (changed_at vps key g r) q ≡ cond (eq_by_cmp pair_cmp q key) (option_map g r) (get vps q)
    by None is = elim (cases_Bool (eq_by_cmp pair_cmp q key)) [
      | inl s ↦ rw s (ap (get vps) (pair_cmp_exact q key ((Equal-is (pair_cmp q key)).0 s)) ∙ is)
      | inr s ↦ rw s refl
    ]
    by (Some r) is = get-insert pair_cmp_total vps key (g r) q

-- rows by (partition, number) without those of one partition
pub get-rows_but : {X : Type 0} (rows : FinMap pair_cmp X) (id : ℕ) (key : ℕ × ℕ) → get (rows_but id rows) key ≡ cond (not (key.0 == id)) (get rows key) None
get-rows_but rows id key = get-retain_keys rows (λ key. not (key.0 == id)) key (λ x tied. ap (λ key. not (key.0 == id)) (sym (pair_cmp_exact key x tied)))

-- the row that a test is met on
pub row_of : (f : Flat) (id : ℕ) (test : PartRow → Bool) → on_part f id test ≡ true → (row : PartRow) × (get f.part id ≡ Some row) × (test row ≡ true)
row_of f id test h = by (get f.part id) refl h
  where
    by : (r : Option PartRow) → get f.part id ≡ r → test_row test r ≡ true → (row : PartRow) × (get f.part id ≡ Some row) × (test row ≡ true)
    by None is h = cc
    by (Some row) is h = (row, is, h)
