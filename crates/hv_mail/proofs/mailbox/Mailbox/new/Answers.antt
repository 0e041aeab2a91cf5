use Rattle.std.proofs.Common.{◌∙◌, refl, ap, sym, nat_cmp}
use Rattle.std.proofs.lemmas.Bool.{false≢true}
use Rattle.std.specs.FinMap.{get-empty}
use Rattle.hv_mail.proofs.Totals.{nothing}
use Rattle.hv_mail.specs.Mail.{mail_or_none}
use Rattle.hv_mail.proofs.mailbox.Mailbox.new.Goals as goal

pub invariant_of-result : goal.invariant_of-result
invariant_of-result g c = record {
  whole = rw c.new.ensures.items refl;
  counted = rw c.new.ensures.items (λ port born. c.new-2.ensures.counts port born ∙ sym (nothing port born));
  room = λ noted. absurd (false≢true noted);
  quiet = rw c.new.ensures.items (λ sint low clear. ap mail_or_none (get-empty nat_cmp sint));
}
