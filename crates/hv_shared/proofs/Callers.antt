-- What each caller did, where a history is a merge of the receipts of passes whose callers differ.
use Rattle.std.proofs.Common.{◌≡◌, ℕ, ◌+◌, ◌<◌, List, [], ◌∷◌, length, get_or, refl, sym, ap, ◌∙◌, subst, inl, inr, arith, Bool, true, false, ◌==◌, All, if◌then◌else◌, Contains, eqb-true, eq-eqb}
use Rattle.std.proofs.Common.{ne_eqb, Global}
use Rattle.std.proofs.lemmas.Bool.{and_from, and_parts, cases_eq, false≢true}
use Rattle.std.proofs.lemmas.List.{get_or_past}
use Rattle.std.proofs.lemmas.List.Elements.{All-head, All-tail}
use Rattle.hv_history.specs.declared.entry.Entry.{Entry}
use Rattle.hv_policy.specs.declared.event.Caller.{Caller}
use Rattle.hv_shared.specs.ByCaller.{AreDifferent, is_caller, receipts_by}
use Rattle.hv_shared.specs.Merge.{IsMerge, owned}
use Rattle.hv_shared.specs.Pass.{receipt}
use Rattle.hv_shared.specs.declared.receipts.Receipt.{Receipt}

pub same_caller : (by other : Caller) → is_caller by other ≡ true → other ≡ by
same_caller by other h =
    let t = and_parts (other.part == by.part) (other.vp == by.vp) h in
    let p = eqb-true other.part by.part t.0 in
    let v = eqb-true other.vp by.vp t.1 in
    (λ i. record { part = p i; vp = v i })

pub is_itself : (by other : Caller) → other ≡ by → is_caller by other ≡ true
is_itself by other e =
    and_from (other.part == by.part) (other.vp == by.vp) (eq-eqb other.part by.part (ap (λ (c : Caller). c.part) e)) (eq-eqb other.vp by.vp (ap (λ (c : Caller). c.vp) e))

is_another_at : (by other : Caller) (t : Bool) → (other ≡ by → ⊥) → is_caller by other ≡ t → t ≡ false
is_another_at by other true h is = absurd (h (same_caller by other is))
is_another_at by other false h is = refl

pub is_another : (by other : Caller) → (other ≡ by → ⊥) → is_caller by other ≡ false
is_another by other h = is_another_at by other (is_caller by other) h refl

rest_all : (P : Receipt → Type 0) (b : Bool) (r : Receipt) (rest : List Receipt) → All P (if b then r ∷ rest else rest) → All P rest
rest_all P true r rest h = All-tail P r rest h
rest_all P false r rest h = h

first_is : (P : Receipt → Type 0) (b : Bool) (r : Receipt) (rest : List Receipt) → b ≡ true → All P (if b then r ∷ rest else rest) → P r
first_is P true r rest is h = All-head P r rest h
first_is P false r rest is h = absurd (false≢true is)

-- each pass's receipts are by its caller, from an entry on
abbrev AreOwn : List Caller → ℕ → List ℕ → List (Entry Global) → Type 0
AreOwn callers n owners es = (j : ℕ) (d : Caller) → j < length callers → All (λ r. r.event.by ≡ get_or callers j d) (owned j n owners es)

module _ (callers : List Caller) (n o : ℕ) (owners : List ℕ) (e : Entry Global) (es : List (Entry Global)) (own : AreOwn callers n (o ∷ owners) (e ∷ es)) where
  later : AreOwn callers (n + 1) owners es
  later j d h = rest_all (λ r. r.event.by ≡ get_or callers j d) (o == j) (receipt n e.event e.reply) (owned j (n + 1) owners es) (own j d h)

  by_owner : (d : Caller) → o < length callers → e.event.by ≡ get_or callers o d
  by_owner d h = first_is (λ r. r.event.by ≡ get_or callers o d) (o == o) (receipt n e.event e.reply) (owned o (n + 1) owners es) (eq-eqb o o refl) (own o d h)

-- the receipts of a caller's events are those of pass i, if the caller is that of this pass alone
by_pass : (callers : List Caller) (c : Caller) (i : ℕ) → ((o : ℕ) → o < length callers → is_caller c (get_or callers o c) ≡ (o == i)) → (n : ℕ) (owners : List ℕ) (es : List (Entry Global))
    → length owners ≡ length es → All (λ o. o < length callers) owners → AreOwn callers n owners es → receipts_by c n es ≡ owned i n owners es
by_pass callers c i agree n [] [] count there own = refl
by_pass callers c i agree n [] (e ∷ es) count there own = absurd (omega arith)
by_pass callers c i agree n (o ∷ owners) [] count there own = absurd (omega arith)
by_pass callers c i agree n (o ∷ owners) (e ∷ es) count there own =
    let here = All-head (λ o. o < length callers) o owners there in
    let rest = by_pass callers c i agree (n + 1) owners es (omega arith) (All-tail (λ o. o < length callers) o owners there) (later callers n o owners e es own) in
    rw (rest, ap (is_caller c) (by_owner callers n o owners e es own c here) ∙ agree o here) refl

module _ (callers : List Caller) (lists : List (List Receipt)) (history : List (Entry Global)) (count : length lists ≡ length callers) (merge : IsMerge history lists)
    (own : (j : ℕ) (d : Caller) → j < length callers → All (λ r. r.event.by ≡ get_or callers j d) (get_or lists j [])) where
  within : All (λ o. o < length callers) merge.owners
  within = subst (λ (n : ℕ). All (λ o. o < n) merge.owners) count merge.there

  are_own : AreOwn callers 1 merge.owners history
  are_own j d h = subst (λ (rs : List Receipt). All (λ r. r.event.by ≡ get_or callers j d) rs) (merge.each j) (own j d h)

  -- what the caller of a pass did is what the pass has receipts of
  pub receipts_of_pass : AreDifferent callers → (i : ℕ) (c : Caller) → i < length callers → c ≡ get_or callers i c → receipts_by c 1 history ≡ get_or lists i []
  receipts_of_pass once i c h is = by_pass callers c i agree 1 merge.owners history merge.one_each within are_own ∙ sym (merge.each i)
    where
      agree : (o : ℕ) → o < length callers → is_caller c (get_or callers o c) ≡ (o == i)
      agree o there =
          elim (cases_eq o i) [
            | inl same ↦ is_itself c (get_or callers o c) (ap (λ (k : ℕ). get_or callers k c) same ∙ sym is) ∙ sym (eq-eqb o i same)
            | inr other ↦ is_another c (get_or callers o c) (λ same. other (once o i c there h (same ∙ is))) ∙ sym (ne_eqb o i other)
          ]

  -- and nobody else did anything
  pub no_receipts : (c : Caller) → (Contains callers c → ⊥) → receipts_by c 1 history ≡ []
  no_receipts c none =
      by_pass callers c (length callers) (λ o there. is_another c (get_or callers o c) (λ same. none (o, there, same)) ∙ sym (ne_eqb o (length callers) (omega arith)))
      1 merge.owners history merge.one_each within are_own
      ∙ sym (merge.each (length callers)) ∙ get_or_past lists (length callers) [] (omega arith)
