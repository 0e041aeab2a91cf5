-- What each change at a processor tells, from what the processor read before it.
use Rattle.std.proofs.Common.{◌≡◌, ℕ, ◌*◌, ◌%◌, ◌^◌, ◌<◌, ◌==◌, not, is_some, Bool, true, false, List, [], ◌∷◌, map, find, Option, Some, None, inl, inr, refl, sym, ap, ◌∙◌}
use Rattle.std.proofs.Common.{arith, eq-eqb, ne_eqb, option_map}
use Rattle.std.proofs.Math.Bool.{not-not}
use Rattle.std.proofs.Math.Pow.{pow-lt}
use Rattle.std.proofs.lemmas.Bool.{cases_eq}
use Rattle.std.proofs.lemmas.Nat.Bits.{bit_at-pow_other, bit_at-pow_same}
use Rattle.std.specs.FinSet as set
use Rattle.std.specs.List.{list_any}
use Rattle.hv_defs.specs.Vectors.{raised}
use Rattle.hv_admit.proofs.PostEffect.{post_shows, post_waits}
use Rattle.hv_admit.proofs.SlotAndVectorEffects.{cleared_again, cleared_shown}
use Rattle.hv_admit.specs.Effect.{Tells, has_bit, quiet}
use Rattle.hv_admit.specs.declared.effect.Effect.TheVariants as effect
use Rattle.hv_mail.specs.Mail.{SintMail, at, has_next, with_last}
use Rattle.hv_mail.specs.declared.message.Message.{Message}
use Rattle.hv_policy.specs.Effect.{post}
use Rattle.hv_policy.specs.Flat.{Flat}
use Rattle.hv_policy.specs.Mail.{Place, cleared, is_shown, mail_at, shown_at}
use Rattle.hv_admit.specs.Tie.{here, mail_row, rows_of, vp_row_of}
use Rattle.hv_vp.specs.Vp.{VpState}
use Rattle.hv_messages.specs.Processor.{HasState}

-- the one bit of a SINT's mask
mask_bit : (sint : ℕ) → sint < 16 → (k : ℕ) → has_bit (1 * 2 ^ sint % 2 ^ 16) k ≡ k == sint
mask_bit sint low k =
    let small : 2 ^ sint < 2 ^ 16 = pow-lt low in
    let mask : 1 * 2 ^ sint % 2 ^ 16 ≡ 2 ^ sint = omega arith in
    ap (λ n. has_bit n k) mask
    ∙ elim (cases_eq k sint) as (λ _. has_bit (2 ^ sint) k ≡ k == sint) [
      | inl same ↦ ap (has_bit (2 ^ sint)) same ∙ ap (λ n. n == 1) (bit_at-pow_same sint) ∙ sym (eq-eqb k sint same)
      | inr apart ↦ ap (λ n. n == 1) (bit_at-pow_other sint k apart) ∙ sym (ne_eqb k sint apart)
    ]

-- whether a message is shown among the rows of what is at a SINT
shown_rows : (at_sint : Place) (mail : SintMail) → list_any is_shown (rows_of at_sint mail) ≡ is_some mail.slot
shown_rows at_sint mail = by mail.slot mail.waiting
  where
    waits : (waiting : List Message) → list_any is_shown (map (mail_row at_sint false) waiting) ≡ false
    waits [] = refl
    waits (message ∷ waiting) = waits waiting

    by : (slot : Option Message) (waiting : List Message) → list_any is_shown (rows_of at_sint (record { slot = slot; waiting = waiting })) ≡ is_some slot
    by None waiting = waits waiting
    by (Some message) waiting = refl

-- where none is shown, the last one or an older one becomes shown
becomes : (mail : SintMail) (message : Message) → has_next (with_last mail message) ≡ not (is_some mail.slot)
becomes mail message = by mail.slot mail.waiting
  where
    by : (slot : Option Message) (waiting : List Message) → has_next (with_last (record { slot = slot; waiting = waiting }) message) ≡ not (is_some slot)
    by None [] = refl
    by None (first ∷ waiting) = refl
    by (Some shown) [] = refl
    by (Some shown) (first ∷ waiting) = refl

module _ (f : Flat) (part index : ℕ) (v : VpState) (is : HasState f part index v) (sint : ℕ) where
  abbrev place : Place
  place = here part index sint

  seen : list_any is_shown (mail_at place f.mail) ≡ is_some (at v.mail sint).slot
  seen = ap (list_any is_shown) (is.mail sint) ∙ shown_rows place (at v.mail sint)

  shown : (message : Message) (b : Bool) → b ≡ has_next (with_last (at v.mail sint) message) → list_any is_shown (mail_at place f.mail) ≡ not b
  shown message b told = seen ∙ sym (ap not (told ∙ becomes (at v.mail sint) message) ∙ not-not (is_some (at v.mail sint).slot))

  -- a post that waits, and one at which a message becomes shown
  pub waits_told : (message : Message) → false ≡ has_next (with_last (at v.mail sint) message)
      → Tells (effect.Synic (record (quiet part index) { waiting = Some sint })) f (post (mail_row place false message) f)
  waits_told message told = post_waits (mail_row place false message) f refl (shown message false told)

  pub shows_told : (message : Message) → sint < 16 → true ≡ has_next (with_last (at v.mail sint) message)
      → Tells (effect.Synic (record (quiet part index) { shown = 1 * 2 ^ sint % 2 ^ 16; raised = raised v.registers sint set.empty })) f (post (mail_row place false message) f)
  shows_told message low told = post_shows (mail_row place false message) f refl low (1 * 2 ^ sint % 2 ^ 16) (mask_bit sint low) (vp_row_of v) is.row (shown message true told)

  -- a slot is cleared that shows none, and one that shows a message
  pub again_told : None ≡ option_map (λ (message : Message). message.port) (at v.mail sint).slot → Tells effect.Nothing f (record f { mail = cleared place f.mail })
  again_told none = cleared_again place f (seen ∙ by (at v.mail sint).slot none)
    where
      by : (slot : Option Message) → None ≡ option_map (λ (message : Message). message.port) slot → is_some slot ≡ false
      by None h = refl
      by (Some message) h = cc

  pub freed_told : (port : ℕ) → port < 2 ^ 32 → sint < 16 → Some port ≡ option_map (λ (message : Message). message.port) (at v.mail sint).slot
      → Tells (effect.Synic (record (quiet part index) { shown = 1 * 2 ^ sint % 2 ^ 16; freed = Some port })) f (record f { mail = cleared place f.mail })
  freed_told port fits low some = by (at v.mail sint).slot refl some
    where
      by : (slot : Option Message) → (at v.mail sint).slot ≡ slot → Some port ≡ option_map (λ (message : Message). message.port) slot
          → Tells (effect.Synic (record (quiet part index) { shown = 1 * 2 ^ sint % 2 ^ 16; freed = Some port })) f (record f { mail = cleared place f.mail })
      by None slot some = cc
      by (Some message) slot some =
          let same : port ≡ message.port = cc in
          let first : shown_at place f.mail ≡ Some (mail_row place true message) =
          ap (find is_shown) (is.mail sint ∙ ap (λ slot. rows_of place (record (at v.mail sint) { slot = slot })) slot) in
          cleared_shown place f (1 * 2 ^ sint % 2 ^ 16) port (mask_bit sint low) (mail_row place true message) first (omega arith)
