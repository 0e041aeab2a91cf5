-- The members of an object, and one more.
use Rattle.std.proofs.Common.{◌≡◌, ◌==◌, ℕ, List, [], ◌∷◌, ◌++◌, length, refl, sym, ap, ◌∙◌, append_assoc, arith, codes, All, Bool, true, false, if◌then◌else◌}
use Rattle.std.proofs.lemmas.Bool.{false≢true}
use Rattle.std.proofs.lemmas.Bool.Decides.{nat_tests}
use Rattle.std.proofs.lemmas.List.Elements.{All-cons, All-nil, All-push}
use Rattle.hv_trace.specs.Members.{AreMembers, IsMember, with_commas}

with_more : (text : List ℕ) (texts : List (List ℕ)) (more : List ℕ) → with_commas ((text ∷ texts) ++ more ∷ []) ≡ with_commas (text ∷ texts) ++ codes "," ++ more
with_more text [] more = refl
with_more text (next ∷ texts) more =
    let front : List ℕ = text ++ codes "," in
    let rest : List ℕ = with_commas (next ∷ texts) in
    ap (λ (l : List ℕ). front ++ l) (with_more next texts more) ∙ sym (append_assoc front (rest ++ codes ",") more)
    ∙ ap (λ (l : List ℕ). l ++ more) (sym (append_assoc front rest (codes ",")))

-- the text of one member, which is the first one
first_one : (text whole own : List ℕ) → (length text == 0) ≡ true → whole ≡ text ++ [] ++ own → IsMember own → AreMembers whole
first_one [] whole own none is member = (own ∷ [], All-cons IsMember own [] member (All-nil IsMember), is)
first_one (byte ∷ text) whole own none is member = let no : ⊥ = grind (arith, nat_tests, none) in absurd no

next_one : (text whole own : List ℕ) (members : List (List ℕ)) → (length text == 0) ≡ false → text ≡ with_commas members → All IsMember members → whole ≡ text ++ codes "," ++ own → IsMember own
    → AreMembers whole
next_one text whole own [] some are all is member = absurd (false≢true (sym some ∙ ap (λ (t : List ℕ). length t == 0) are))
next_one text whole own (first ∷ members) some are all is member =
    ((first ∷ members) ++ own ∷ [], All-push IsMember (first ∷ members) own all member, is ∙ ap (λ (t : List ℕ). t ++ codes "," ++ own) are ∙ sym (with_more first members own))

-- one member more, after a comma unless it is the first
pub one_member_more : (text whole own : List ℕ) (is_first : Bool) → AreMembers text → is_first ≡ (length text == 0) → whole ≡ text ++ (if is_first then [] else codes ",") ++ own → IsMember own
    → AreMembers whole
one_member_more text whole own true are first is member = first_one text whole own (sym first) is member
one_member_more text whole own false are first is member = next_one text whole own are.0 (sym first) are.2 are.1 is member
