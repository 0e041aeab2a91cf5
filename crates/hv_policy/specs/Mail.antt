-- The messages of the flat state: one list in order of posting, and the messages at each place.
use Rattle.std.specs.Prelude.{ℕ, ◌==◌, ◌&&◌, not, Bool, true, false, if◌then◌else◌, nat_lt, length, List, []}
use Rattle.std.specs.Prelude.{◌∷◌, Option, None, Some, count_by, find, filter}
use Rattle.std.specs.List.{list_any}
use Rattle.hv_defs.specs.Slot.{zeros, message_bytes}
use Rattle.hv_policy.specs.declared.event.Caller.{Caller}
use Rattle.hv_policy.specs.Flat.{MailRow}

-- a place of messages: a SINT of a processor of a partition
pub record Place : Type 0 where
  pub part : ℕ
  pub vp : ℕ
  pub sint : ℕ

abbrev pub place : ℕ → ℕ → ℕ → Place
place part vp sint = record { part = part; vp = vp; sint = sint }

abbrev pub place_of : MailRow → Place
place_of row = record { part = row.part; vp = row.vp; sint = row.sint }

-- a SINT of the calling processor
abbrev pub place_at : Caller → ℕ → Place
place_at by sint = record { part = by.part; vp = by.vp; sint = sint }

abbrev pub stands_at : Place → MailRow → Bool
stands_at place row = (row.part == place.part) && ((row.vp == place.vp) && (row.sint == place.sint))

-- the messages at a place, in the order of posting
abbrev pub mail_at : Place → List MailRow → List MailRow
mail_at place mail = filter (stands_at place) mail

abbrev pub is_shown : MailRow → Bool
is_shown row = row.shown

abbrev pub as_shown : MailRow → MailRow
as_shown row = record row { shown = true }

-- the messages with the first at a place shown
abbrev pub with_first_shown : Place → List MailRow → List MailRow
with_first_shown place [] = []
with_first_shown place (row ∷ mail) = if stands_at place row then as_shown row ∷ mail else row ∷
    with_first_shown place mail

-- the messages with the first at a place shown, if none is shown there
abbrev pub shown_next : Place → List MailRow → List MailRow
shown_next place mail = if list_any is_shown (mail_at place mail) then mail else with_first_shown place mail

abbrev pub is_some_row : List MailRow → Bool
is_some_row [] = false
is_some_row (row ∷ rows) = true

-- whether `shown_next` shows a message: none is shown at the place, and one waits
abbrev pub has_next : Place → List MailRow → Bool
has_next place mail = not (list_any is_shown (mail_at place mail)) && is_some_row (mail_at place mail)

-- the messages without the one shown at a place
abbrev pub cleared : Place → List MailRow → List MailRow
cleared place mail = filter (λ row. not (stands_at place row && row.shown)) mail

-- the messages at the processors of all other partitions
abbrev pub mail_but : ℕ → List MailRow → List MailRow
mail_but id mail = filter (λ row. not (row.part == id)) mail

-- the messages at all other processors
abbrev pub mail_but_at : ℕ → ℕ → List MailRow → List MailRow
mail_but_at id vp mail = filter (λ row. not (row.part == id && row.vp == vp)) mail

-- whether a message came through the port with this birth, and the number of kept messages that did, shown or
-- waiting
abbrev pub came_through : ℕ → ℕ → ℕ → MailRow → Bool
came_through part port born row = (row.part == part) && ((row.port == port) && (row.born == born))

abbrev pub kept_of : ℕ → ℕ → ℕ → List MailRow → ℕ
kept_of part port born mail = count_by (came_through part port born) mail

-- the message that a place shows, and whether another one is there
abbrev pub shown_at : Place → List MailRow → Option MailRow
shown_at place mail = find is_shown (mail_at place mail)

abbrev pub is_pending_at : Place → List MailRow → Bool
is_pending_at place mail = nat_lt 1 (length (mail_at place mail))

abbrev pub row_bytes : Option MailRow → Bool → List ℕ
row_bytes None pending = zeros 256
row_bytes (Some row) pending = message_bytes row.type row.port row.payload pending

-- the bytes of a slot: 256 zeros if it shows no message
abbrev pub slot_at : Place → List MailRow → List ℕ
slot_at place mail = row_bytes (shown_at place mail) (is_pending_at place mail)
