-- Numbers with commas between.
use Rattle.std.proofs.Common.{◌≡◌, ℕ, zero, suc, ◌+◌, ◌/◌, ◌%◌, ◌<◌, ◌==◌, List, [], ◌∷◌, ◌++◌, refl, sym, ap, ◌∙◌, subst, arith, append_assoc, codes, decimal, Bool, true, false, Option}
use Rattle.std.proofs.Common.{if◌then◌else◌, slice_index}
use Rattle.std.specs.Io.KnownBytes.{Appends}
use Rattle.std.proofs.KnownBytes.{Appends-nil, Appends-trans}
use Rattle.std.specs.FinSet as set
use Rattle.std.specs.Int.{bit_at}
use Rattle.hv_defs.specs.Vectors.{VectorSet}
use Rattle.hv_admit.specs.Effect.{has_bit as is_shown}
use Rattle.hv_mail.proofs.Members.{contains-numbers_of}
use Rattle.hv_mail.specs.Words.{has_bit, numbers_of}
use Rattle.hv_trace.specs.Effect.{joined, picked}

-- the mark before one more number
abbrev pub comma_of : List ℕ → List ℕ
comma_of [] = []
comma_of (n ∷ ns) = codes ","

comma_more : (ns : List ℕ) (n : ℕ) → comma_of (ns ++ n ∷ []) ≡ codes ","
comma_more [] n = refl
comma_more (m ∷ ns) n = refl

-- one number more
joined_more : (ns : List ℕ) (n : ℕ) → joined (ns ++ n ∷ []) ≡ joined ns ++ (comma_of ns ++ decimal n)
joined_more [] n = refl
joined_more (m ∷ []) n = append_assoc (decimal m) (codes ",") (decimal n)
joined_more (m ∷ k ∷ ns) n =
    ap (λ (l : List ℕ). decimal m ++ codes "," ++ l) (joined_more (k ∷ ns) n)
    ∙ sym (append_assoc (decimal m ++ codes ",") (joined (k ∷ ns)) (codes "," ++ decimal n))

-- the numbers below an end were written, and `comma` goes before the next one
pub record AreWritten (test : ℕ → Bool) (end : ℕ) (comma : List ℕ) (before after : Option (List ℕ)) : Type 0 where
  pub comma_is : comma ≡ comma_of (picked test end)
  pub wrote : Appends before after (joined (picked test end))

module _ (test : ℕ → Bool) (before : Option (List ℕ)) where
  pub none_written : AreWritten test 0 [] before before
  unfolding picked
  none_written = record { comma_is = refl; wrote = Appends-nil before }

  picked_one : (at : ℕ) → test at ≡ true → picked test (at + 1) ≡ picked test at ++ at ∷ []
  unfolding picked
  picked_one at is =
      let next : at + 1 ≡ suc at = omega arith in
      ap (picked test) next ∙ ap (λ (b : Bool). if b then picked test at ++ at ∷ [] else picked test at) is

  picked_none : (at : ℕ) → test at ≡ false → picked test (at + 1) ≡ picked test at
  unfolding picked
  picked_none at is =
      let next : at + 1 ≡ suc at = omega arith in
      ap (picked test) next ∙ ap (λ (b : Bool). if b then picked test at ++ at ∷ [] else picked test at) is

  pub one_written : (at : ℕ) (comma : List ℕ) (mid after : Option (List ℕ)) → test at ≡ true → AreWritten test at comma before mid → Appends mid after (comma ++ decimal at)
      → AreWritten test (at + 1) (codes ",") before after
  one_written at comma mid after is so_far wrote =
      let more = picked_one at is in
      let text : joined (picked test (at + 1)) ≡ joined (picked test at) ++ (comma ++ decimal at) =
      ap joined more ∙ joined_more (picked test at) at ∙ ap (λ (l : List ℕ). joined (picked test at) ++ (l ++ decimal at)) (sym so_far.comma_is) in
      record {
        comma_is = sym (ap comma_of more ∙ comma_more (picked test at) at);
        wrote = subst (Appends before after) (sym text) (Appends-trans before mid after _ _ so_far.wrote wrote);
      }

  pub none_more : (at : ℕ) (comma : List ℕ) (after : Option (List ℕ)) → test at ≡ false → AreWritten test at comma before after → AreWritten test (at + 1) comma before after
  none_more at comma after is so_far =
      let same = sym (picked_none at is) in
      record { comma_is = so_far.comma_is ∙ ap comma_of same; wrote = subst (λ (ns : List ℕ). Appends before after (joined ns)) same so_far.wrote }

-- tests that agree below an end pick alike
pub picked_same : (t u : ℕ → Bool) (end : ℕ) → ((k : ℕ) → k < end → t k ≡ u k) → picked t end ≡ picked u end
unfolding picked
picked_same t u zero same = refl
picked_same t u (suc n) same =
    let rest : picked t n ≡ picked u n = picked_same t u n (λ k below. same k (omega (arith, below))) in
    (λ i. if same n (omega arith) i then rest i ++ n ∷ [] else rest i)

-- the bits of one word
pub picked_shown : (shown : ℕ) → picked (has_bit (shown ∷ [])) 16 ≡ picked (is_shown shown) 16
picked_shown shown = picked_same (has_bit (shown ∷ [])) (is_shown shown) 16 (λ k below.
    let word : k / 64 ≡ 0 = omega (arith, below) in
    let bit : k % 64 ≡ k = omega (arith, below) in
    λ i. bit_at (slice_index (shown ∷ []) (word i)) (bit i) == 1)

-- the numbers in a set of vectors
pub picked_raised : (words : List ℕ) (raised : VectorSet) → numbers_of words ≡ raised → picked (has_bit words) 256 ≡ picked (set.contains raised) 256
picked_raised words raised is = picked_same (has_bit words) (set.contains raised) 256 (λ k below.
    sym (contains-numbers_of words k) ∙ ap (λ (s : VectorSet). set.contains s k) is)
