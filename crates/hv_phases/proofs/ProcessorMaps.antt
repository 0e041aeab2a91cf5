-- Maps that have something for each processor.
use Rattle.std.proofs.Common.{◌≡◌, ◌==◌, ◌&&◌, ℕ, sym, ap, ◌∙◌, arith, false, Option}
use Rattle.std.proofs.lemmas.Bool.Decides.{nat_tests}
use Rattle.hv_policy.specs.declared.event.Caller.{Caller}
use Rattle.hv_phases.specs.PassMap.{is_key, key_of}
use Rattle.indexmap.specs.IndexMap.{IndexMap, UpdatesBy, get, get_by}

keys_apart : (a b c d : ℕ) → ((a ≡ c) × (b ≡ d) → ⊥) → ((a == c) && (b == d)) ≡ false
keys_apart a b c d apart = grind (arith, nat_tests)

-- another processor has another key
apart : (by c : Caller) → (c ≡ by → ⊥) → is_key (key_of by) (key_of c) ≡ false
apart by c other = keys_apart by.part by.vp c.part c.vp (λ same. other (λ i. record { part = sym same.0 i; vp = sym same.1 i }))

module _ {X S : Type 0} where
  module _ (by : Caller) (key : ℕ × ℕ) (is : key ≡ key_of by) where
    -- what was found at a processor's key
    pub found_at : (map : IndexMap (ℕ × ℕ) X S) (o : Option X) → o ≡ get_by (is_key key) map → get is_key map (key_of by) ≡ o
    found_at map o found = ap (λ (k : ℕ × ℕ). get is_key map k) (sym is) ∙ sym found

    -- what is there after it at another processor's key, and at its own
    pub other_written : (old new : IndexMap (ℕ × ℕ) X S) (w : Option X) → UpdatesBy is_key (is_key key) old new w → (c : Caller) → (c ≡ by → ⊥)
        → get is_key new (key_of c) ≡ get is_key old (key_of c)
    other_written old new w did c other = did.2 (key_of c) (ap (λ (k : ℕ × ℕ). is_key k (key_of c)) is ∙ apart by c other)

    pub own_written : (old new : IndexMap (ℕ × ℕ) X S) (w : Option X) → UpdatesBy is_key (is_key key) old new w → (c : Caller) → c ≡ by
        → get is_key new (key_of c) ≡ w
    own_written old new w did c same = ap (λ (k : ℕ × ℕ). get is_key new k) (ap key_of same ∙ sym is) ∙ did.1
