-- A mailbox as contracts see it.
use Rattle.std.specs.Prelude.{ℕ, zero, suc, ◌+◌, ◌==◌, ◌&&◌, Bool, true, false, if◌then◌else◌, List, [], ◌∷◌}
use Rattle.std.specs.Prelude.{◌++◌, Option, None, Some, count_by, refl, sum_by}
use Rattle.std.specs.Coded.{Coded, code_by, coded×, coded_ℕ, coded_bool, coded_list, coded_option}
use Rattle.std.specs.Ordering.{nat_cmp}
use Rattle.std.specs.FinMap as map
use Rattle.hv_mail.specs.Message.{message_code}
use Rattle.hv_mail.specs.declared.message.Message.{Message}

-- the messages at one SINT: the one that its slot shows, if any, and those that wait, the oldest first
pub record SintMail : Type 0 where
  pub slot : Option Message
  pub waiting : List Message

-- no messages
abbrev pub no_mail : SintMail
no_mail = record { slot = None; waiting = [] }

-- Show: if none is shown, the oldest that waits becomes shown
abbrev pub show_next : Option Message → List Message → SintMail
show_next (Some message) waiting = record { slot = Some message; waiting = waiting }
show_next None [] = no_mail
show_next None (oldest ∷ waiting) = record { slot = Some oldest; waiting = waiting }

-- Show at a SINT
abbrev pub with_next : SintMail → SintMail
with_next mail = show_next mail.slot mail.waiting

-- whether Show makes a message shown
abbrev pub is_next : Option Message → List Message → Bool
is_next (Some message) waiting = false
is_next None [] = false
is_next None (oldest ∷ waiting) = true

-- whether Show at a SINT makes one shown
abbrev pub has_next : SintMail → Bool
has_next mail = is_next mail.slot mail.waiting

-- the messages with one more, behind all others
abbrev pub with_last : SintMail → Message → SintMail
with_last mail message = record mail { waiting = mail.waiting ++ message ∷ [] }

-- the messages with one more, and then Show
abbrev pub posted : SintMail → Message → SintMail
posted mail message = with_next (with_last mail message)

-- the messages without the shown one
abbrev pub cleared : SintMail → SintMail
cleared mail = record mail { slot = None }

-- whether a message came through this port of this birth
abbrev pub is_of : ℕ → ℕ → Message → Bool
is_of port born message = (message.port == port) && (message.born == born)

-- the number of messages of a port and birth: of the shown one, and of all at a SINT
abbrev pub count_shown : ℕ → ℕ → Option Message → ℕ
count_shown port born None = 0
count_shown port born (Some message) = if is_of port born message then 1 else 0

abbrev pub count_at : ℕ → ℕ → SintMail → ℕ
count_at port born mail = count_shown port born mail.slot + count_by (is_of port born) mail.waiting

-- the mail of a processor by SINT, with no row for a SINT without messages
abbrev pub Mail : Type 0
Mail = map.FinMap nat_cmp SintMail

-- the messages of a row, or none if there is no row
abbrev pub mail_or_none : Option SintMail → SintMail
mail_or_none None = no_mail
mail_or_none (Some mail) = mail

-- the messages at a SINT
abbrev pub at : Mail → ℕ → SintMail
at mail sint = mail_or_none (map.get mail sint)

-- the mail with this row, or without a row if the row has no messages
abbrev pub with_row : Mail → ℕ → Option Message → List Message → Mail
with_row mail sint None [] = map.remove mail sint
with_row mail sint slot waiting = map.insert mail sint (record { slot = slot; waiting = waiting })

-- the mail with these messages at a SINT
abbrev pub with_at : Mail → ℕ → SintMail → Mail
with_at mail sint there = with_row mail sint there.slot there.waiting

-- Show at each SINT below a number
unfoldable pub all_next : ℕ → Mail → Mail
all_next zero mail = mail
all_next (suc sint) mail = with_at (all_next sint mail) sint (with_next (at (all_next sint mail) sint))

-- the number of messages of a port and birth at a processor
abbrev pub count_of : ℕ → ℕ → Mail → ℕ
count_of port born mail = sum_by (λ e. count_at port born e.1) (map.entries mail)

-- the mail, and whether each SINT can take one more message without memory
pub record MailboxState : Type 0 where
  pub mail : Mail
  pub room : Bool

-- no message, and no room
abbrev pub no_messages : MailboxState
no_messages = record { mail = map.empty; room = false }

-- they are stored as the pairs of their fields, and mail as its map
abbrev pub sint_mail_code : Coded SintMail
sint_mail_code =
    code_by (Option Message × List Message) (coded× (coded_option message_code) (coded_list message_code))
    (λ m. (m.slot, m.waiting)) (λ t. record { slot = t.0; waiting = t.1 }) (λ _. refl)

abbrev pub mail_code : Coded Mail
mail_code = map.code coded_ℕ sint_mail_code

abbrev pub mailbox_code : Coded MailboxState
mailbox_code =
    code_by (Mail × Bool) (coded× mail_code coded_bool)
    (λ m. (m.mail, m.room)) (λ t. record { mail = t.0; room = t.1 }) (λ _. refl)
