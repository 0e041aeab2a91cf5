-- A SINT at which nothing stands.
use Rattle.std.proofs.Common.{◌≡◌, ℕ, suc, Bool, true, false, cond, ◌==◌, List, [], ◌∷◌, Option, Some, None, refl, sym, ap, ◌∙◌, nat_cmp}
use Rattle.std.specs.FinMap.{get, get-empty}
use Rattle.hv_mail.proofs.Queues.{same_absent}
use Rattle.hv_mail.proofs.Rows.{get-with_at, row_of}
use Rattle.hv_mail.specs.Mail.{Mail, SintMail, no_mail, mail_or_none, at, with_at, with_next}
use Rattle.hv_mail.specs.Queue.{QueueState, mail_from}
use Rattle.hv_mail.specs.declared.message.Message.{Message}

-- a row that has nothing is none
no_row : (slot : Option Message) (waiting : List Message) → mail_or_none (row_of slot waiting) ≡ no_mail → row_of slot waiting ≡ None
no_row None [] nothing = refl
no_row None (oldest ∷ waiting) nothing = let none : oldest ∷ waiting ≡ [] = ap {A = SintMail} (λ m. m.waiting) nothing in cc
no_row (Some message) waiting nothing = let none : Some message ≡ None = ap {A = SintMail} (λ m. m.slot) nothing in cc

-- a row or what another map has
no_choice : (b : Bool) (slot : Option Message) (waiting : List Message) (other : Option SintMail) → (mail_or_none other ≡ no_mail → other ≡ None)
    → mail_or_none (cond b (row_of slot waiting) other) ≡ no_mail → cond b (row_of slot waiting) other ≡ None
no_choice true slot waiting other here nothing = no_row slot waiting nothing
no_choice false slot waiting other here nothing = here nothing

-- where nothing stands, the mail of queues has no row
pub absent : (s : ℕ) (queues : List QueueState) (k : ℕ) → at (mail_from s queues) k ≡ no_mail → get (mail_from s queues) k ≡ None
absent s [] k nothing = get-empty nat_cmp k
absent s (queue ∷ queues) k nothing =
    let rest : Mail = mail_from (suc s) queues in
    let there = get-with_at rest s queue.mail k in
    there ∙ no_choice (k == s) queue.mail.slot queue.mail.waiting (get rest k) (absent (suc s) queues k) (ap mail_or_none (sym there) ∙ nothing)

-- so Show there changes nothing and shows nothing
pub quiet_next : (queues : List QueueState) (sint : ℕ) → at (mail_from 0 queues) sint ≡ no_mail → mail_from 0 queues ≡ with_at (mail_from 0 queues) sint (with_next (at (mail_from 0 queues) sint))
quiet_next queues sint nothing = same_absent (mail_from 0 queues) sint with_next refl (absent 0 queues sint nothing)
