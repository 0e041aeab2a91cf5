-- The vectors that SINTs raise, by which of them raise theirs.
use Rattle.std.proofs.Common.{◌≡◌, ℕ, zero, suc, ◌<◌, ◌==◌, ◌&&◌, not, Bool, false, cond, refl, sym, ap, ◌∙◌, arith, eq-eqb, ne_eqb, inl, inr, nat_cmp, None}
use Rattle.std.proofs.Math.Arith.{lt_of_le-ne}
use Rattle.std.proofs.Math.Bool.{and-not_self}
use Rattle.std.proofs.lemmas.Bool.{cases_eq}
use Rattle.std.specs.FinMap.{FinMap, get}
use Rattle.std.specs.List.{list_any}
use Rattle.hv_defs.specs.Vectors.{raised}
use Rattle.hv_defs.specs.declared.sizes.TheConstants.{SINTS}
use Rattle.hv_policy.specs.Flat.{Flat}
use Rattle.hv_policy.specs.Mail.{is_shown, mail_at, place}
use Rattle.hv_admit.proofs.ProcessorChange.{no_vectors}
use Rattle.hv_admit.specs.Effect.{rings}
use Rattle.hv_admit.specs.Raised.{became_shown, registers_of, vectors_of}
use Rattle.hv_admit.specs.declared.effect.Synic.{Synic}

-- vectors of tests that agree
pub vectors_same : (t u : ℕ → Bool) (registers : FinMap nat_cmp ℕ) (n : ℕ) → ((k : ℕ) → k < n → t k ≡ u k) → vectors_of t registers n ≡ vectors_of u registers n
unfolding vectors_of
vectors_same t u registers zero same = refl
vectors_same t u registers (suc n) same =
    let rest = vectors_same t u registers n (λ k less. same k (omega arith)) in
    let here = same n (omega arith) in
    λ i. cond (here i) (raised registers n (rest i)) (rest i)

-- of none
pub vectors_none : (t : ℕ → Bool) (registers : FinMap nat_cmp ℕ) (n : ℕ) → ((k : ℕ) → k < n → t k ≡ false) → no_vectors ≡ vectors_of t registers n
unfolding vectors_of
vectors_none t registers zero none = refl
vectors_none t registers (suc n) none =
    let rest = vectors_none t registers n (λ k less. none k (omega arith)) in
    rest ∙ sym (ap (λ b. cond b (raised registers n (vectors_of t registers n)) (vectors_of t registers n)) (none n (omega arith)))

-- and of one
pub vectors_one : (t : ℕ → Bool) (registers : FinMap nat_cmp ℕ) (sint n : ℕ) → sint < n → ((k : ℕ) → k < n → t k ≡ k == sint)
    → raised registers sint no_vectors ≡ vectors_of t registers n
unfolding vectors_of
vectors_one t registers sint zero low only = absurd (omega arith)
vectors_one t registers sint (suc n) low only = elim (cases_eq n sint) [
  | inl same ↦
      ap (λ k. raised registers k no_vectors) (sym same)
      ∙ ap (raised registers n) (vectors_none t registers n (λ k less. only k (omega arith) ∙ ne_eqb k sint (λ e. omega (arith, e, same, less))))
      ∙ sym (ap (λ b. cond b (raised registers n (vectors_of t registers n)) (vectors_of t registers n)) (only n (omega arith) ∙ eq-eqb n sint same))
  | inr apart ↦
      vectors_one t registers sint n (lt_of_le-ne (omega arith) (λ e. apart (sym e))) (λ k less. only k (omega arith))
      ∙ sym (ap (λ b. cond b (raised registers n (vectors_of t registers n)) (vectors_of t registers n)) (only n (omega arith) ∙ ne_eqb n sint apart))
]

module _ (s : Synic) (f g : Flat) where
  -- where no flag is named, and no SINT shows a message that showed none
  pub none_rings : s.flag ≡ None → ((k : ℕ) → became_shown s.part s.vp f g k ≡ false)
      → no_vectors ≡ vectors_of (rings s f g) (registers_of (get g.vp (s.part, s.vp))) SINTS
  none_rings no_flag none = vectors_none (rings s f g) (registers_of (get g.vp (s.part, s.vp))) SINTS (λ k less. grind (arith, none k, no_flag))

-- a SINT with the messages that it had shows none anew
pub still_shown : (part vp : ℕ) (f g : Flat) (k : ℕ) → mail_at (place part vp k) g.mail ≡ mail_at (place part vp k) f.mail → became_shown part vp f g k ≡ false
still_shown part vp f g k same =
    ap (λ rows. list_any is_shown rows && not (list_any is_shown (mail_at (place part vp k) f.mail))) same
    ∙ and-not_self (list_any is_shown (mail_at (place part vp k) f.mail))
