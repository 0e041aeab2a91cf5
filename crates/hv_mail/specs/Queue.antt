-- One SINT's queue, and all sixteen, as contracts see them.
use Rattle.std.specs.Prelude.{◌≡◌, ℕ, suc, ◌<◌, ◌==◌, ◌||◌, ◌&&◌, not, Bool, true, false, List, [], ◌∷◌, Some}
use Rattle.std.specs.Prelude.{None, length, map as list_map, refl, Option, Box, is_some}
use Rattle.std.specs.Coded.{Coded, code_by, coded×, coded_bool}
use Rattle.std.specs.FinMap as map
use Rattle.std.specs.Int.{bit_at}
use Rattle.std.specs.List.{list_all}
use Rattle.hv_defs.specs.declared.sizes.TheConstants.{SINTS}
use Rattle.hv_mail.specs.Mail.{Mail, SintMail, sint_mail_code, no_mail, at, count_of, with_at}
use Rattle.hv_mail.specs.Tally.{has_room, kept_in}
use Rattle.hv_mail.specs.declared.message.Message.{Message}
use Rattle.hv_mail.specs.declared.tree.Tree.{Tree}

-- the messages of a queue, and whether it has memory for one more
pub record QueueState : Type 0 where
  pub mail : SintMail
  pub room : Bool

-- it is stored as the pair of its fields
abbrev pub queue_code : Coded QueueState
queue_code = code_by (SintMail × Bool) (coded× sint_mail_code coded_bool) (λ q. (q.mail, q.room))
    (λ t. record { mail = t.0; room = t.1 }) (λ _. refl)

-- the messages in some boxes
abbrev pub messages_of : {A : Type 0} → List (Box Message A) → List Message
messages_of boxes = list_map (λ b. b.value) boxes

-- the messages at a SINT from a list, the oldest first, whose first one may be shown
abbrev pub standing : Bool → List Message → SintMail
standing true (first ∷ waiting) = record { slot = Some first; waiting = waiting }
standing true [] = no_mail
standing false waiting = record { slot = None; waiting = waiting }

-- the mail of some queues, the first of which is that of this SINT
abbrev pub mail_from : ℕ → List QueueState → Mail
mail_from sint [] = map.empty
mail_from sint (queue ∷ queues) = with_at (mail_from (suc sint) queues) sint queue.mail

-- whether there are queues, each with room
abbrev pub are_ready : List QueueState → Bool
are_ready queues = not (length queues == 0) && list_all (λ q. q.room) queues

-- whether there is room for a message of any port at any SINT
abbrev pub is_roomy : {M N : Type 0} → List QueueState → Option M → Option N → ℕ → Bool
is_roomy queues spare node kept = are_ready queues && (is_some spare && has_room node kept)

-- no queues yet, or one for each SINT
abbrev pub is_whole : List QueueState → Bool
is_whole queues = (length queues == 0) || (length queues == SINTS)

-- a SINT whose bit is 0 has no messages
abbrev pub AreQuiet : ℕ → Mail → Type 0
AreQuiet busy mail = (sint : ℕ) → sint < SINTS → bit_at busy sint ≡ 0 → at mail sint ≡ no_mail

-- the tree has the number of messages of each port
abbrev pub AreCounted : {A : Type 0} → Tree A → Mail → Type 0
AreCounted tree mail = (port born : ℕ) → kept_in tree port born ≡ count_of port born mail

-- the invariant of a mailbox: its queues, the tree of their counts, and its notes that each queue has room
-- and which SINTs may have a message
pub record AreQueues {A : Type 0} (queues : List QueueState) (tree : Tree A) (roomy : Bool)
    (busy : ℕ) : Type 0 where
  pub whole : is_whole queues ≡ true
  pub counted : AreCounted tree (mail_from 0 queues)
  pub room : roomy ≡ true → are_ready queues ≡ true
  pub quiet : AreQuiet busy (mail_from 0 queues)
