-- At which SINTs nothing stands, once one of them was written.
use Rattle.std.proofs.Common.{◌≡◌, ℕ, ◌-◌, ◌*◌, ◌%◌, ◌^◌, ◌<◌, false, cond, List, [], ◌∷◌, None, refl, arith, inl, inr, sym, ap, ◌∙◌, ne_eqb, eq-eqb}
use Rattle.std.specs.Int.{bit_at, w16}
use Rattle.std.specs.Int.RustNames.{bit_and, bit_or}
use Rattle.std.proofs.lemmas.Bool.{false≢true, cases_eq}
use Rattle.std.proofs.lemmas.Nat.Bits.{bit_at_set_same, bit_at_set_other, bit_at_clear_other}
use Rattle.hv_mail.proofs.Rows.{at-with_at}
use Rattle.hv_mail.specs.Mail.{Mail, SintMail, no_mail, at, with_at, cleared}
use Rattle.hv_mail.specs.Queue.{AreQuiet}
use Rattle.hv_mail.specs.Slot.{is_some_of}
use Rattle.hv_mail.specs.declared.message.Message.{Message}

-- nothing is left where none waits and the shown message goes
pub none_left : (there : SintMail) → is_some_of there.waiting ≡ false → cleared there ≡ no_mail
none_left there none = by there.waiting none
  where
    by : (waiting : List Message) → is_some_of waiting ≡ false → cleared (record { slot = None; waiting = waiting }) ≡ no_mail
    by [] h = refl
    by (oldest ∷ waiting) h = absurd (false≢true (sym h))

module _ (busy : ℕ) (mail : Mail) (sint : ℕ) (quiet : AreQuiet busy mail) where
  -- at each other SINT stands what stood there
  other : (there : SintMail) (k : ℕ) → (k ≡ sint → ⊥) → k < 16 → bit_at busy k ≡ 0 → at (with_at mail sint there) k ≡ no_mail
  other there k apart low clear = at-with_at mail sint there k ∙ ap (λ b. cond b there (at mail k)) (ne_eqb k sint apart) ∙ quiet k low clear

  -- and at the SINT nothing does, where that is what was written
  same : (there : SintMail) (k : ℕ) → k ≡ sint → there ≡ no_mail → at (with_at mail sint there) k ≡ no_mail
  same there k is none = at-with_at mail sint there k ∙ ap (λ b. cond b there (at mail k)) (eq-eqb k sint is) ∙ none

  -- after a change that leaves nothing where nothing stood
  pub quiet_kept : (f : SintMail → SintMail) → f no_mail ≡ no_mail → AreQuiet busy (with_at mail sint (f (at mail sint)))
  quiet_kept f nothing k low clear =
      elim (cases_eq k sint) [
        | inl is ↦ same (f (at mail sint)) k is (ap f (ap (at mail) (sym is) ∙ quiet k low clear) ∙ nothing)
        | inr apart ↦ other (f (at mail sint)) k apart low clear
      ]

  -- after any change, where the SINT's bit is set
  pub quiet_set : (there : SintMail) → sint < 16 → AreQuiet (bit_or busy (1 * 2 ^ sint % 2 ^ 16)) (with_at mail sint there)
  quiet_set there fits k low clear =
      elim (cases_eq k sint) [
        | inl is ↦ absurd (omega (arith, bit_at_set_same w16 busy sint fits, ap (bit_at (bit_or busy (1 * 2 ^ sint % 2 ^ 16))) is, clear))
        | inr apart ↦ other there k apart low (sym (bit_at_set_other w16 busy sint fits k apart) ∙ clear)
      ]

  -- and where nothing is left and its bit is cleared
  pub quiet_cleared : (there : SintMail) → there ≡ no_mail → sint < 16 → AreQuiet (bit_and busy (2 ^ 16 - 1 - 1 * 2 ^ sint % 2 ^ 16)) (with_at mail sint there)
  quiet_cleared there none fits k low clear =
      elim (cases_eq k sint) [
        | inl is ↦ same there k is none
        | inr apart ↦ other there k apart low (sym (bit_at_clear_other w16 busy sint fits k low apart) ∙ clear)
      ]
