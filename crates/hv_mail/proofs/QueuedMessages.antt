-- How many messages of a port are at a SINT, before and after a change.
use Rattle.std.proofs.Common.{◌≡◌, ℕ, ◌+◌, cond, List, [], ◌∷◌, Option, Some, None, count_by, refl, sym, ◌∙◌, zero-add, arith}
use Rattle.std.proofs.lemmas.List.Sums.{sum_by-cons, sum_by_push}
use Rattle.hv_mail.specs.Mail.{SintMail, count_at, count_shown, is_of, show_next, with_next, with_last, posted, cleared}
use Rattle.hv_mail.specs.Tally.{one_at}
use Rattle.hv_mail.specs.declared.message.Message.{Message}

module _ (port born : ℕ) where
  -- Show leaves them
  pub count-with_next : (there : SintMail) → count_at port born (with_next there) ≡ count_at port born there
  count-with_next there = by there.slot there.waiting
    where
      by : (slot : Option Message) (waiting : List Message) → count_at port born (show_next slot waiting) ≡ count_shown port born slot + count_by (is_of port born) waiting
      by (Some message) waiting = refl
      by None [] = refl
      by None (oldest ∷ waiting) = sym (sum_by-cons (λ m. cond (is_of port born m) 1 0) oldest waiting) ∙ sym (zero-add _)

  -- a message more
  pub count-posted : (there : SintMail) (message : Message) → count_at port born (posted there message) ≡ count_at port born there + one_at message.port message.born port born
  count-posted there message =
      let push = sum_by_push (λ m. cond (is_of port born m) 1 0) there.waiting message in
      count-with_next (with_last there message) ∙ omega (arith, push)

  -- and the shown one less
  pub count-cleared : (there : SintMail) → count_at port born (cleared there) + count_shown port born there.slot ≡ count_at port born there
  count-cleared there = omega arith
