-- The counts after a change at a SINT.
use Rattle.std.proofs.Common.{◌≡◌, ℕ, ◌+◌, ◌<◌, List, length, get_or, Option, Some, None, IfSome, Box, option_map, ap, arith, eq-eqb, refl}
use Rattle.std.proofs.Math.ListN.{set}
use Rattle.hv_mail.proofs.QueuedMessages.{count-with_next, count-posted, count-cleared}
use Rattle.hv_mail.proofs.Totals.{count_set, count_below}
use Rattle.hv_mail.specs.Mail.{Mail, count_at, count_of, count_shown, with_next, posted, cleared}
use Rattle.hv_mail.specs.Queue.{QueueState, mail_from}
use Rattle.hv_mail.specs.Tally.{one_at}
use Rattle.hv_mail.specs.declared.message.Message.{Message}

-- the counts are those of the mail
abbrev pub AreOf : (ℕ → ℕ → ℕ) → Mail → Type 0
AreOf counts mail = (port born : ℕ) → counts port born ≡ count_of port born mail

-- the message in a box, if there is one
abbrev pub taken : {A : Type 0} → Option (Box Message A) → Option Message
taken {A} went = option_map (λ (held : Box Message A). held.value) went

-- a message is one of its own port
one_here : (message : Message) → count_shown message.port message.born (Some message) ≡ 1
one_here message = rw (eq-eqb message.port message.port refl, eq-eqb message.born message.born refl) refl

module _ (counts : ℕ → ℕ → ℕ) (queues : List QueueState) (k : ℕ) (old new : QueueState) (less : k < length queues) (is : old ≡ get_or queues k old)
    (counted : AreOf counts (mail_from 0 queues)) where
  pub next_counted : new.mail ≡ with_next old.mail → AreOf counts (mail_from 0 (set queues k new))
  next_counted made p b = omega (arith, count_set p b queues k old new less is, ap (count_at p b) made, count-with_next p b old.mail, counted p b)

  pub posted_counted : (after : ℕ → ℕ → ℕ) (message : Message) → new.mail ≡ posted old.mail message → ((p b : ℕ) → after p b ≡ counts p b + one_at message.port message.born p b)
      → AreOf after (mail_from 0 (set queues k new))
  posted_counted after message made more p b =
      omega (arith, count_set p b queues k old new less is, ap (count_at p b) made, count-posted p b old.mail message, counted p b, more p b)

  module _ {A : Type 0} (went : Option (Box Message A)) (same : taken went ≡ old.mail.slot) where
    pub cleared_counted : (after : ℕ → ℕ → ℕ) → new.mail ≡ cleared old.mail → ((p b : ℕ) → counts p b ≡ after p b + count_shown p b (taken went))
        → AreOf after (mail_from 0 (set queues k new))
    cleared_counted after made fewer p b =
        omega (arith, count_set p b queues k old new less is, ap (count_at p b) made, count-cleared p b old.mail, ap (count_shown p b) same, counted p b, fewer p b)

    -- a shown message is counted
    pub is_counted : IfSome went (λ held. 0 < counts held.value.port held.value.born)
    is_counted = by went same
      where
        by : (went : Option (Box Message A)) → taken went ≡ old.mail.slot → IfSome went (λ held. 0 < counts held.value.port held.value.born)
        by None same = _
        by (Some held) same =
            let port = held.value.port in
            let born = held.value.born in
            omega (arith, count_below port born queues k old less is, count-cleared port born old.mail, ap (count_shown port born) same, one_here held.value, counted port born)
