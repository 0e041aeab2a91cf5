-- The parts of a head, one after another.
use Rattle.std.proofs.Common.{◌≡◌, ℕ, List, [], ◌∷◌, ◌++◌, refl, sym, ap, ◌∙◌, subst, append-nil, append_assoc}
use Rattle.std.proofs.lemmas.List.Elements.{All-nil, All-push}
use Rattle.hv_policy.specs.declared.event.Caller.{Caller}
use Rattle.hv_draw.specs.Head.{HasOne, HasSome, IsEnd, IsHead, IsLane, IsName, ground_text, joined, name_text, size_text, style_text}

joined-push : (texts : List (List ℕ)) (text : List ℕ) → joined (texts ++ text ∷ []) ≡ joined texts ++ text
joined-push [] text = append-nil text
joined-push (first ∷ texts) text = ap (λ (l : List ℕ). first ++ l) (joined-push texts text) ∙ sym (append_assoc first (joined texts) text)

module _ (Is : List ℕ → Type 0) where
  pub no_part : (text : List ℕ) → HasSome Is text text
  no_part text = record { own = []; are = All-nil Is; added = sym (append-nil text) }

  pub one_part_more : (old mid new : List ℕ) → HasSome Is old mid → HasOne Is mid new → HasSome Is old new
  one_part_more old mid new has one = record {
    own = has.own ++ one.own ∷ [];
    are = All-push Is has.own one.own has.are one.is;
    added = one.added ∙ ap (λ (l : List ℕ). l ++ one.own) has.added ∙ append_assoc old (joined has.own) one.own ∙ ap (λ (l : List ℕ). old ++ l) (sym (joined-push has.own one.own));
  }

-- a text gains the name of a processor
pub name_added : (vp : Caller) (x y foot : ℕ) (old new : List ℕ) → new ≡ old ++ name_text vp x y foot → HasOne (IsName vp x) old new
name_added vp x y foot old new added = record { own = name_text vp x y foot; is = record { y = y; foot = foot; is = refl }; added = added }

-- a head is its size, its style, the ground, its lanes and the ends of its phases
pub head_of : (t0 t1 t2 t3 middle whole : List ℕ) (width height : ℕ) → t0 ≡ [] → t1 ≡ t0 ++ size_text width height → t2 ≡ t1 ++ style_text → t3 ≡ t2 ++ ground_text
    → HasSome IsLane t3 middle → HasSome IsEnd middle whole → IsHead whole
head_of t0 t1 t2 t3 middle whole width height none size style ground lanes ends = record {
  width = width;
  height = height;
  middle = middle;
  lanes = subst (λ (t : List ℕ). HasSome IsLane t middle)
      (ground ∙ ap (λ (l : List ℕ). l ++ ground_text) (style ∙ ap (λ (l : List ℕ). l ++ style_text) (size ∙ ap (λ (l : List ℕ). l ++ size_text width height) none))) lanes;
  ends = ends;
}
