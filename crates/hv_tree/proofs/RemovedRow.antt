-- The rows of a node, once a row without children is taken out.
use Rattle.std.proofs.Common.{◌≡◌, ℕ, ◌<◌, ◌≤◌, zero, suc, Bool, true, false, ◌==◌, ◌||◌, Option, None, Some, List, [], ◌∷◌, ◌++◌, Box, refl, ap, ◌∙◌, arith, length, take, drop, set, get_or}
use Rattle.std.proofs.Common.{append_assoc, eq-eqb, remove}
use Rattle.std.specs.Box.{with_value}
use Rattle.hv_tree.specs.Nest.{Line, has_row, top, AreDistinct, HasTop, hang, IsNest, IsWithout}
use Rattle.hv_tree.specs.Below.{below, AreNests}
use Rattle.hv_tree.proofs.Lines.{has-append, below-append, hang-append}
use Rattle.hv_tree.proofs.ChildRows.{around, around-set, kids-child}

itself : (q : ℕ) → (q == q) ≡ true
itself q = eq-eqb q q refl

or_right : (a : Bool) → (a || true) ≡ true
or_right true = refl
or_right false = refl

pub has-top : {X : Type 0} (es : List (ℕ × X)) → 1 ≤ length es → has_row (top es) es ≡ true
has-top [] h = absurd (omega arith)
has-top (e ∷ es) h = rw (itself e.0) refl

HasTop-some : {C : Type 0} (es : List (ℕ × (Option ℕ × C))) → HasTop es → 1 ≤ length es
HasTop-some [] h = absurd h
HasTop-some (e ∷ es) h = omega arith

pub AreNests-get : {T A : Type 0} (ks : List (Box (List (Line T)) A)) (i : ℕ) (k : Box (List (Line T)) A) → AreNests ks → i < length ks → k ≡ get_or ks i k → IsNest k.value
AreNests-get [] i k ns lt is = absurd (omega arith)
AreNests-get (x ∷ ks) zero k ns lt is = rw is ns.0
AreNests-get (x ∷ ks) (suc i) k ns lt is = AreNests-get ks i k ns.1 (omega arith) is

pub has-nest : {T : Type 0} (es : List (Line T)) → IsNest es → has_row (top es) es ≡ true
has-nest es n = has-top es (HasTop-some es n.topped)

-- k is the child at i
module _ {T A : Type 0} (p : ℕ) (ks : List (Box (List (Line T)) A)) (i : ℕ) (k : Box (List (Line T)) A) (lt : i < length ks) (is : k ≡ get_or ks i k) where
  -- where no two rows of the node have one id
  module _ (c : Option T) (d : AreDistinct ((p, (None, c)) ∷ below p ks)) (ns : AreNests ks) (q : ℕ) (v : Option T) where
    -- the child is the row
    pub IsWithout-here : k.value ≡ (q, (None, v)) ∷ [] → IsWithout q v ((p, (None, c)) ∷ below p ks) ((p, (None, c)) ∷ below p (remove ks i))
    IsWithout-here one = record {
      before = (p, (None, c)) ∷ below p (take i ks);
      after = below p (drop (suc i) ks);
      parent = p;
      was = ap (λ l. (p, (None, c)) ∷ l) (around p ks i k lt is ∙ (rw one refl));
      is = ap (λ l. (p, (None, c)) ∷ l) (below-append p (take i ks) (drop (suc i) ks));
      bare = kids-child p ks i k lt is c d q (rw (one, itself q) refl) ns ∙ (rw one refl);
    }

    -- the row is within the child
    pub IsWithout-child : (new : List (Line T)) → IsWithout q v k.value new → IsWithout q v ((p, (None, c)) ∷ below p ks) ((p, (None, c)) ∷ below p (set ks i (with_value k new)))
    IsWithout-child new w =
        let has : has_row q k.value ≡ true = rw (w.was, has-append q w.before ((q, (Some w.parent, v)) ∷ w.after), itself q) (or_right (has_row q w.before)) in
        record {
          before = (p, (None, c)) ∷ (below p (take i ks) ++ hang p w.before);
          after = hang p w.after ++ below p (drop (suc i) ks);
          parent = w.parent;
          was = ap (λ l. (p, (None, c)) ∷ l) (around p ks i k lt is ∙ (rw (w.was, hang-append p w.before ((q, (Some w.parent, v)) ∷ w.after)) (simp append_assoc)));
          is = ap (λ l. (p, (None, c)) ∷ l) (around-set p ks i k lt is new ∙ (rw (w.is, hang-append p w.before w.after) (simp append_assoc)));
          bare = kids-child p ks i k lt is c d q has ns ∙ w.bare;
        }
