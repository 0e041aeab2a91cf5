-- How many queues a mailbox with room has.
use Rattle.std.proofs.Common.{◌≡◌, ℕ, ◌==◌, ◌<◌, true, ◌||◌, not, List, length, None, ◌≤◌, inl, inr, ◌⊎◌, ◌&&◌, Option, is_some, ap, ◌∙◌, arith, eqb-true, length-set}
use Rattle.std.proofs.lemmas.Bool.{or_cases, and_parts, and_from}
use Rattle.std.proofs.Math.ListN.{get_or, set}
use Rattle.std.specs.List.{list_all}
use Rattle.std.specs.FinMap.{get}
use Rattle.hv_mail.proofs.Queues.{past-mail_from, room_at, roomy_set}
use Rattle.hv_mail.specs.Queue.{QueueState, are_ready, is_roomy, is_whole, mail_from}
use Rattle.hv_mail.specs.Tally.{has_room}

-- none, or sixteen
pub none_or_whole : (n : ℕ) → (n == 0) || (n == 16) ≡ true → (n ≡ 0) ⊎ (n ≡ 16)
none_or_whole n h = elim (or_cases (n == 0) (n == 16) h) [
  | inl e ↦ inl (eqb-true n 0 e)
  | inr e ↦ inr (eqb-true n 16 e)
]

-- sixteen, where there is room
pub whole : (queues : List QueueState) → is_whole queues ≡ true → are_ready queues ≡ true → length queues ≡ 16
whole queues w r =
    let some = (and_parts (not (length queues == 0)) (list_all (λ q. q.room) queues) r).0 in
    elim (or_cases (length queues == 0) (length queues == 16) w) [
      | inl e ↦ cc
      | inr e ↦ eqb-true (length queues) 16 e
    ]

-- and no queue for a SINT where there are none yet
pub absent_at : (queues : List QueueState) (k : ℕ) → is_whole queues ≡ true → k < 16 → length queues ≤ k → get (mail_from 0 queues) k ≡ None
absent_at queues k w small past = past-mail_from 0 queues k (omega arith)

-- one of them written anew
pub still_whole : (queues : List QueueState) (k : ℕ) (new : QueueState) → is_whole queues ≡ true → is_whole (set queues k new) ≡ true
still_whole queues k new w = ap (λ n. (n == 0) || (n == 16)) (length-set queues k new) ∙ w

-- where there is room, a queue that is written anew and keeps its room leaves room
pub still_roomy : (queues : List QueueState) (k : ℕ) (old new : QueueState) → k < length queues → old ≡ get_or queues k old → (old.room ≡ true → new.room ≡ true)
    → are_ready queues ≡ true → are_ready (set queues k new) ≡ true
still_roomy queues k old new less is kept r =
    let parts = and_parts (not (length queues == 0)) (list_all (λ q. q.room) queues) r in
    let had : old.room ≡ true = ap {A = QueueState} (λ q. q.room) is ∙ room_at queues k old less parts.1 in
    and_from (not (length (set queues k new) == 0)) _ (ap (λ n. not (n == 0)) (length-set queues k new) ∙ parts.0) (roomy_set queues k new (kept had) parts.1)

-- the room of a mailbox is that of its queues, of the message to spare and of the tally
pub room_parts : {M N : Type 0} (queues : List QueueState) (spare : Option M) (node : Option N) (kept : ℕ) → is_roomy queues spare node kept ≡ true
    → (are_ready queues ≡ true) × ((is_some spare ≡ true) × (has_room node kept ≡ true))
room_parts queues spare node kept r =
    let parts = and_parts (are_ready queues) (is_some spare && has_room node kept) r in
    (parts.0, and_parts (is_some spare) (has_room node kept) parts.1)

pub room_from : {M N : Type 0} (queues : List QueueState) (spare : Option M) (node : Option N) (kept : ℕ) → are_ready queues ≡ true → (is_some spare ≡ true) × (has_room node kept ≡ true)
    → is_roomy queues spare node kept ≡ true
room_from queues spare node kept ready rest = and_from (are_ready queues) _ ready (and_from (is_some spare) (has_room node kept) rest.0 rest.1)
