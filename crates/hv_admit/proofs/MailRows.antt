-- The rows of one place through Show, a post, and a cleared slot.
use Rattle.std.proofs.Common.{◌≡◌, ℕ, ◌+◌, Bool, false, cond, not, ◌&&◌, nat_lt, List, [], ◌∷◌, ◌++◌, map, length, Option, None, refl, ap, ◌∙◌, count_by, filter, find, arith}
use Rattle.std.proofs.lemmas.List.{map-append}
use Rattle.std.proofs.lemmas.List.Recursion.{is_count_by}
use Rattle.std.proofs.lemmas.List.Sums.{sum_by-append, sum_by-cons}
use Rattle.std.specs.List.{list_any}
use Rattle.hv_mail.specs.Mail.{SintMail, with_next, has_next as box_has_next, with_last, posted as box_posted, cleared as box_cleared, is_of, count_shown, count_at}
use Rattle.hv_mail.specs.Slot.{slot_bytes}
use Rattle.hv_mail.specs.declared.message.Message.{Message}
use Rattle.hv_policy.proofs.Places.{next_rows}
use Rattle.hv_policy.specs.Mail.{Place, is_shown, is_some_row, row_bytes, came_through}
use Rattle.hv_admit.specs.Tie.{mail_row, rows_of, slot_rows}

module _ (place : Place) where
  none_shown : (waiting : List Message) → list_any is_shown (map (mail_row place false) waiting) ≡ false
  none_shown [] = refl
  none_shown (message ∷ waiting) = none_shown waiting

  all_wait : (waiting : List Message) → filter (λ row. not row.shown) (map (mail_row place false) waiting) ≡ map (mail_row place false) waiting
  all_wait [] = refl
  all_wait (message ∷ waiting) = ap (λ rows. mail_row place false message ∷ rows) (all_wait waiting)

  -- Show
  pub next_box : (mail : SintMail) → next_rows (rows_of place mail) ≡ rows_of place (with_next mail)
  next_box mail = grind (arith, none_shown)

  -- whether Show makes one shown
  pub has_next_box : (mail : SintMail) → not (list_any is_shown (rows_of place mail)) && is_some_row (rows_of place mail) ≡ box_has_next mail
  has_next_box mail = grind (arith, none_shown)

  pub last_box : (mail : SintMail) (message : Message) → rows_of place mail ++ mail_row place false message ∷ [] ≡ rows_of place (with_last mail message)
  last_box mail message = grind (arith, map-append (mail_row place false) mail.waiting (message ∷ []))

  -- a post
  pub posted_box : (mail : SintMail) (message : Message) → next_rows (rows_of place mail ++ mail_row place false message ∷ []) ≡ rows_of place (box_posted mail message)
  posted_box mail message = ap next_rows (last_box mail message) ∙ next_box (with_last mail message)

  -- the shown message goes
  pub cleared_box : (mail : SintMail) → filter (λ row. not row.shown) (rows_of place mail) ≡ rows_of place (box_cleared mail)
  cleared_box mail = grind (arith, all_wait mail.waiting)

  none_found : (waiting : List Message) → find is_shown (map (mail_row place false) waiting) ≡ None
  none_found [] = refl
  none_found (message ∷ waiting) = none_found waiting

  -- the slot's bytes
  pub slot_box : (mail : SintMail) → row_bytes (find is_shown (rows_of place mail)) (nat_lt 1 (length (rows_of place mail))) ≡ slot_bytes mail
  slot_box mail = grind (arith, none_found mail.waiting)

  -- how many messages of a port there are
  waiting_counted : (port born : ℕ) (shown : Bool) (messages : List Message) → count_by (came_through place.part port born) (map (mail_row place shown) messages) ≡ count_by (is_of port born) messages
  waiting_counted port born shown messages = is_count_by (λ ms. count_by (came_through place.part port born) (map (mail_row place shown) ms)) (is_of port born) refl
      (λ m ms. sum_by-cons (λ row. cond (came_through place.part port born row) 1 0) (mail_row place shown m) (map (mail_row place shown) ms) ∙ more m (count_by _ (map _ ms))) messages
    where
      more : (m : Message) (n : ℕ) → cond (came_through place.part port born (mail_row place shown m)) 1 0 + n ≡ cond (is_of port born m) (1 + n) n
      more m n = grind arith

  pub counted_box : (port born : ℕ) (mail : SintMail) → count_by (came_through place.part port born) (rows_of place mail) ≡ count_at port born mail
  counted_box port born mail = sum_by-append (λ row. cond (came_through place.part port born row) 1 0) (slot_rows place mail.slot) (map (mail_row place false) mail.waiting)
      ∙ ap (λ n. count_by (came_through place.part port born) (slot_rows place mail.slot) + n) (waiting_counted port born false mail.waiting)
      ∙ ap (λ n. n + count_by (is_of port born) mail.waiting) (by mail.slot)
    where
      by : (slot : Option Message) → count_by (came_through place.part port born) (slot_rows place slot) ≡ count_shown port born slot
      by slot = grind arith
