-- How many rows by (partition, number) a partition has, once one comes or goes.
use Rattle.std.proofs.Common.{◌≡◌, ℕ, ◌+◌, ◌≤◌, ◌==◌, Bool, true, false, cond, Option, Some, None, is_some, refl, sym, ap, ◌∙◌, count_by}
use Rattle.std.specs.FinMap.{FinMap, get, insert, remove, entries, contains_key, get-remove}
use Rattle.std.specs.Ordering.{eq_by_cmp}
use Rattle.hv_defs.proofs.Counts.{passes}
use Rattle.hv_defs.proofs.Tallies.{count-fewer, count-insert}
use Rattle.hv_policy.proofs.Pairs.{pair_cmp_total, pair_cmp_exact}
use Rattle.hv_defs.specs.Flags.{pair_cmp}

module _ {X : Type 0} where
  -- whether an entry is a partition's
  abbrev pub is_of : ℕ → (ℕ × ℕ) × X → Bool
  is_of id e = e.0.0 == id

  abbrev pub owned : FinMap pair_cmp X → ℕ → ℕ
  owned rows id = count_by (is_of id) (entries rows)

  -- where no key is new there are no more
  pub no_more : (old new : FinMap pair_cmp X) → ((key : ℕ × ℕ) → is_some (get new key) ≡ true → is_some (get old key) ≡ true) → (id : ℕ) → owned new id ≤ owned old id
  no_more old new there id = count-fewer pair_cmp_total pair_cmp_exact (is_of id) (is_of id) new old (λ key h. by key (get new key) (get old key) (there key) h)
    where
      by : (key : ℕ × ℕ) (n o : Option X) → (is_some n ≡ true → is_some o ≡ true) → passes (is_of id) key n ≡ true → passes (is_of id) key o ≡ true
      by key None o there h = cc
      by key (Some n) None there h = (let none = there refl in cc)
      by key (Some n) (Some o) there h = h

  -- so where one was removed
  pub removed_owned : (rows : FinMap pair_cmp X) (key : ℕ × ℕ) (id : ℕ) → owned (remove rows key) id ≤ owned rows id
  removed_owned rows key id = no_more rows (remove rows key) (λ q h. by (eq_by_cmp pair_cmp q key) (get rows q) (sym (ap is_some (get-remove pair_cmp_total rows key q)) ∙ h)) id
    where
      by : (b : Bool) (r : Option X) → is_some (cond b None r) ≡ true → is_some r ≡ true
      by true r h = cc
      by false r h = h

  -- and where a key is new its partition has one more
  pub added_owned : (rows : FinMap pair_cmp X) (id n : ℕ) (row : X) → contains_key rows (id, n) ≡ false → (q : ℕ) → owned (insert rows (id, n) row) q ≡ owned rows q + cond (id == q) 1 0
  added_owned rows id n row free q = count-insert pair_cmp_total pair_cmp_exact (is_of q) rows (id, n) row (none_if (get rows (id, n)) free)
    where
      none_if : (r : Option X) → is_some r ≡ false → r ≡ None
      none_if None h = refl
      none_if (Some r) h = cc
