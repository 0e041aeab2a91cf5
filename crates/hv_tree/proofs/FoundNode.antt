-- A node that is found below a child is found below the child's parent, and so is a content that is written there.
use Rattle.std.proofs.Common.{◌≡◌, ℕ, ◌<◌, ◌∙◌, true, false, Bool, cond, refl, sym, ap, Option, None, List, ◌∷◌, Box, length, get_or, take, set, [], Some, is_some, MutBor, IfSome, IfNone, option_map}
use Rattle.std.proofs.Common.{eq-eqb}
use Rattle.std.specs.Box.{with_value}
use Rattle.std.specs.Option.{option_copied_mut}
use Rattle.hv_tree.specs.Nest.{Line, AreDistinct, HasTop, IsFound, IsNest, first_content, has_row, look, put_at, top}
use Rattle.hv_tree.specs.Below.{below, AreNests}
use Rattle.hv_tree.proofs.ChildRows.{held-row, off_own, off_before, put-child, IsPart-child}
use Rattle.hv_tree.proofs.RemovedRow.{has-nest}
use Rattle.hv_tree.proofs.Lists.{set-same}
use Rattle.hv_tree.proofs.IndexedParents.{has-in, or_right}

first_row : {T : Type 0} (es : List (Line T)) → HasTop es → Some (first_content es) ≡ option_map (λ r. r.1) (look (top es) es)
first_row [] t = absurd t
first_row (e ∷ es) t = rw (eq-eqb e.0 e.0 refl) refl

-- a node is found by its own id
pub IsFound-self : {T : Type 0} (es : List (Line T)) → IsNest es → AreDistinct es → IsFound (top es) es es
IsFound-self es nest d = record {
  there = has-nest es nest;
  here = refl;
  content = first_row es nest.topped;
  part = record { distinct = d; same = refl };
}

module _ {T A : Type 0} (own : ℕ) (ks : List (Box (List (Line T)) A)) (i : ℕ) (k : Box (List (Line T)) A) (lt : i < length ks) (is : k ≡ get_or ks i k) (content : Option T)
    (distinct : AreDistinct ((own, (None, content)) ∷ below own ks)) (q : ℕ) where
  before : has_row q k.value ≡ true → has_row q (below own (take i ks)) ≡ false
  before = off_before own ks i k lt is content distinct q

  pub there-child : has_row q k.value ≡ true → has_row q ((own, (None, content)) ∷ below own ks) ≡ true
  there-child has = or_right _ (has-in q own ks i k lt is has)

  pub IsFound-child : AreNests ks → (sub : List (Line T)) → IsFound q k.value sub → IsFound q ((own, (None, content)) ∷ below own ks) sub
  IsFound-child nests sub found = record {
    there = there-child found.there;
    here = found.here;
    content = found.content ∙ sym (held-row own ks i k lt is q (before found.there) content (off_own own ks i k lt is content distinct q found.there) found.there);
    part = IsPart-child own ks i k lt is content distinct q found.there nests sub found.part;
  }

  pub put-found : (did : Bool) (h : Option T) (new : List (Line T)) → (did ≡ true → has_row q k.value ≡ true) → new ≡ cond did (put_at q h k.value) k.value
      → (own, (None, content)) ∷ below own (set ks i (with_value k new)) ≡ cond did (put_at q h ((own, (None, content)) ∷ below own ks)) ((own, (None, content)) ∷ below own ks)
  put-found true h new has e = rw (off_own own ks i k lt is content distinct q (has refl), e)
      (ap (λ l. (own, (None, content)) ∷ l) (sym (put-child own ks i k lt is q (before (has refl)) h (has refl))))
  put-found false h new has e = ap (λ s. (own, (None, content)) ∷ below own s) (ap (λ v. set ks i (with_value k v)) e ∙ set-same ks i k lt is)

-- what holds of a result's copy
pub some_copied_mut : {X : Type 0} (P : X → Type 0) (o : Option (MutBor X)) → IfSome (option_copied_mut o) P → IfSome o (λ r. P r.now)
some_copied_mut P None h = tt
some_copied_mut P (Some r) h = h

pub none_copied_mut : {X : Type 0} (Y : Type 0) (o : Option (MutBor X)) → is_some (option_copied_mut o) ≡ true → IfNone o Y
none_copied_mut Y None h = cc
none_copied_mut Y (Some r) h = tt
