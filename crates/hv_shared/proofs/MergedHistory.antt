-- A history that is gone through is a merge, and one that fails isn't.
use Rattle.std.proofs.Common.{◌≡◌, ℕ, suc, ◌+◌, ◌<◌, None, Some, Option, IfNone, List, [], ◌∷◌, length, drop, get_or, refl, sym, ap, ◌∙◌, subst, inl, inr, arith, Bool, true, false, ◌==◌}
use Rattle.std.proofs.Common.{All, if◌then◌else◌, ◌≢◌, length-set, get_or-set_same, get_or-set_other, eqb-true, eq-eqb, ne_eqb, Global}
use Rattle.std.proofs.lemmas.List.Elements.{All-nil, All-cons, All-head, All-tail}
use Rattle.std.proofs.lemmas.Bool.{eqb-false, false≢true}
use Rattle.std.proofs.lemmas.Option.{none-some}
use Rattle.hv_history.specs.declared.entry.Entry.{Entry}
use Rattle.hv_history.specs.Kept.{Kept}
use Rattle.hv_policy.specs.declared.config.Config.{Config}
use Rattle.hv_shared.specs.Settle.{IsFault, IsMadeOf}
use Rattle.hv_shared.specs.Merge.{IsOnlyNext, IsNext, IsOf, IsMergeFrom, SettlesAs, owned, next_is, without}
use Rattle.hv_shared.specs.Pass.{receipt}
use Rattle.hv_shared.specs.declared.receipts.Receipt.{Receipt}
use Rattle.hv_shared.specs.declared.fault.SettleFault.{SettleFault}
use Rattle.hv_shared.specs.declared.fault.SettleFault.TheVariants.{Missing, Differs}

head_is : (n : ℕ) (e : Entry Global) (l : List Receipt) → next_is n l ≡ true → IsOf e l → l ≡ receipt n e.event e.reply ∷ drop 1 l
head_is n e [] h s = absurd s
head_is n e (r ∷ rs) h s = let k = eqb-true r.number n h in (λ i. record { number = k i; event = s.0 i; reply = s.1 i } ∷ rs)

merged_at : (n i : ℕ) (e : Entry Global) (es : List (Entry Global)) (lists : List (List Receipt)) (owners : List ℕ) → IsOnlyNext n e lists i
    → ((j : ℕ) → get_or (without lists i) j [] ≡ owned j (n + 1) owners es) → (j : ℕ) (b : Bool) → (i == j) ≡ b
    → get_or lists j [] ≡ (if b then receipt n e.event e.reply ∷ owned j (n + 1) owners es else owned j (n + 1) owners es)
merged_at n i e es lists owners only each j true h =
    let ij = eqb-true i j h in
    ap (λ (k : ℕ). get_or lists k []) (sym ij) ∙ head_is n e (get_or lists i []) only.next only.same
    ∙ ap (λ (l : List Receipt). receipt n e.event e.reply ∷ l) (sym (get_or-set_same lists i (drop 1 (get_or lists i [])) [] only.there) ∙ each i ∙ ap (λ (k : ℕ). owned k (n + 1) owners es) ij)
merged_at n i e es lists owners only each j false h =
    let other : j ≢ i = λ ji. eqb-false i j h (sym ji) in
    sym (get_or-set_other lists i j (drop 1 (get_or lists i [])) [] other) ∙ each j

pub merged : (n : ℕ) (es : List (Entry Global)) (lists : List (List Receipt)) → SettlesAs n es lists None → IsMergeFrom n es lists
merged n [] lists done = record { owners = []; one_each = refl; there = All-nil _; each = done }
merged n (e ∷ es) lists (inl (inl fails)) = absurd (none-some Missing fails.0)
merged n (e ∷ es) lists (inl (inr fails)) = absurd (none-some Differs fails.0)
merged n (e ∷ es) lists (inr (i, only, rest)) =
    let m = merged (n + 1) es (without lists i) rest in
    record {
      owners = i ∷ m.owners;
      one_each = ap suc m.one_each;
      there = All-cons (λ (x : ℕ). x < length lists) i m.owners only.there (rw (length-set lists i (drop 1 (get_or lists i []))) at m.there);
      each = λ j. merged_at n i e es lists m.owners only m.each j (i == j) refl;
    }

module _ (n m : ℕ) (less : n < m) (i : ℕ) where
  later_at : (e : Entry Global) (rest : List Receipt) (b : Bool) → next_is n rest ≡ false → next_is n (if b then receipt m e.event e.reply ∷ rest else rest) ≡ false
  later_at e rest true h = ne_eqb m n (omega arith)
  later_at e rest false h = h

-- no receipt of later entries has the number n
later : (i n m : ℕ) (owners : List ℕ) (es : List (Entry Global)) → n < m → next_is n (owned i m owners es) ≡ false
later i n m [] es h = refl
later i n m (o ∷ os) [] h = refl
later i n m (o ∷ os) (e ∷ es) h = later_at n m h i e (owned i (m + 1) os es) (o == i) (later i n (m + 1) os es (omega arith))

owned_nil : (i n : ℕ) (owners : List ℕ) → owned i n owners [] ≡ []
owned_nil i n [] = refl
owned_nil i n (o ∷ os) = refl

-- what is known of lists of which one has the first entry
module _ (n o : ℕ) (e : Entry Global) (os : List ℕ) (es : List (Entry Global)) (lists : List (List Receipt)) where
  abbrev Each : Type 0
  Each = (j : ℕ) → get_or lists j [] ≡ (if o == j then receipt n e.event e.reply ∷ owned j (n + 1) os es else owned j (n + 1) os es)

  own : Each → get_or lists o [] ≡ receipt n e.event e.reply ∷ owned o (n + 1) os es
  own each = each o ∙ ap (λ (b : Bool). if b then receipt n e.event e.reply ∷ owned o (n + 1) os es else owned o (n + 1) os es) (eq-eqb o o refl)

  own_next : Each → IsNext n lists o
  own_next each = ap (next_is n) (own each) ∙ eq-eqb n n refl

  alone_at : (j : ℕ) (b : Bool) → (o == j) ≡ b → next_is n (if b then receipt n e.event e.reply ∷ owned j (n + 1) os es else owned j (n + 1) os es) ≡ true → j ≡ o
  alone_at j true is h = sym (eqb-true o j is)
  alone_at j false is h = let no_more = later j n (n + 1) os es (omega arith) in absurd (false≢true (sym no_more ∙ h))

  alone : Each → (j : ℕ) → IsNext n lists j → j ≡ o
  alone each j h = alone_at j (o == j) refl (sym (ap (next_is n) (each j)) ∙ h)

  other_at : Each → (j : ℕ) → (o == j) ≡ false → get_or lists j [] ≡ owned j (n + 1) os es
  other_at each j is = each j ∙ ap (λ (b : Bool). if b then receipt n e.event e.reply ∷ owned j (n + 1) os es else owned j (n + 1) os es) is

  rest_is_at : Each → o < length lists → (j : ℕ) (b : Bool) → (o == j) ≡ b → get_or (without lists o) j [] ≡ owned j (n + 1) os es
  rest_is_at each there j true is =
      let oj = eqb-true o j is in
      ap (λ (k : ℕ). get_or (without lists o) k []) (sym oj) ∙ get_or-set_same lists o (drop 1 (get_or lists o [])) [] there ∙ ap (drop 1) (own each) ∙ ap (λ (k : ℕ). owned k (n + 1) os es) oj
  rest_is_at each there j false is = get_or-set_other lists o j (drop 1 (get_or lists o [])) [] (λ jo. eqb-false o j is (sym jo)) ∙ other_at each j is

is_of : (n : ℕ) (e : Entry Global) (l : List Receipt) (rest : List Receipt) → l ≡ receipt n e.event e.reply ∷ rest → IsOf e l
is_of n e l rest h = subst (IsOf e) (sym h) (refl, refl)

-- receipts that fail are no merge
pub fails_no_merge : (n : ℕ) (es : List (Entry Global)) (lists : List (List Receipt)) (f : SettleFault) → SettlesAs n es lists (Some f) → (owners : List ℕ) → length owners ≡ length es
    → All (λ i. i < length lists) owners → ((i : ℕ) → get_or lists i [] ≡ owned i n owners es) → ⊥
fails_no_merge n [] lists f fails owners one there each = fails.1 (λ i. each i ∙ owned_nil i n owners)
fails_no_merge n (e ∷ es) lists f fails [] one there each = absurd (omega arith)
fails_no_merge n (e ∷ es) lists f (inl (inl at)) (o ∷ os) one there each = at.1 o (own_next n o e os es lists each)
fails_no_merge n (e ∷ es) lists f (inl (inr (is, inl two))) (o ∷ os) one there each =
    two.2 (alone n o e os es lists each two.0 two.3 ∙ sym (alone n o e os es lists each two.1 two.4))
fails_no_merge n (e ∷ es) lists f (inl (inr (is, inr other))) (o ∷ os) one there each =
    other.2 (subst (λ (k : ℕ). IsOf e (get_or lists k [])) (sym (alone n o e os es lists each other.0 other.1)) (is_of n e (get_or lists o []) _ (own n o e os es lists each)))
fails_no_merge n (e ∷ es) lists f (inr (i, only, rest)) (o ∷ os) one there each =
    let here : o < length lists = All-head (λ (x : ℕ). x < length lists) o os there in
    let io = sym (only.alone o (own_next n o e os es lists each)) in
    fails_no_merge (n + 1) es (without lists o) f (subst (λ (k : ℕ). SettlesAs (n + 1) es (without lists k) (Some f)) io rest) os (omega arith)
    (rw (length-set lists o (drop 1 (get_or lists o []))) (All-tail (λ (x : ℕ). x < length lists) o os there))
    (λ j. rest_is_at n o e os es lists each here j (o == j) refl)

pub made : (config : Config) (limit : ℕ) (kept : Kept Global) (lists : List (List Receipt)) (fault : Option SettleFault) → kept.config ≡ config → kept.limit ≡ limit
    → IfNone fault (SettlesAs 1 kept.history lists None) → IfNone fault (IsMadeOf config limit kept lists)
made config limit kept lists None c l m = record { same_config = c; same_limit = l; merge = merged 1 kept.history lists m }
made config limit kept lists (Some f) c l m = tt

pub fault_not_made : (config : Config) (limit : ℕ) (kept : Kept Global) (lists : List (List Receipt)) (f : SettleFault) → IsFault config limit kept lists f → IsMadeOf config limit kept lists → ⊥
fault_not_made config limit kept lists f (inl (inl other, is)) m = other m.same_config
fault_not_made config limit kept lists f (inl (inr other, is)) m = other m.same_limit
fault_not_made config limit kept lists f (inr (c, l, fails)) m = fails_no_merge 1 kept.history lists f fails m.merge.owners m.merge.one_each m.merge.there m.merge.each
