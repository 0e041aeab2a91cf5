-- The mail of a list of queues.
use Rattle.std.proofs.Common.{◌≡◌, ℕ, zero, suc, ◌+◌, ◌<◌, true, cond, ◌&&◌, List, [], ◌∷◌, ◌++◌, length, take, None, refl, sym, ap, ◌∙◌, arith, add-zero, zero-add, ne_eqb, eq-eqb, nat_cmp}
use Rattle.std.proofs.lemmas.Bool.{and_parts, and_from}
use Rattle.std.proofs.Math.ListN.{get_or, set}
use Rattle.std.specs.FinMap.{get, empty, get-empty}
use Rattle.std.specs.List.{list_all}
use Rattle.hv_mail.proofs.Rows.{get-with_at, at-with_at, row_of, with_at-again, with_at-swap, with_at-same}
use Rattle.hv_mail.specs.Mail.{Mail, SintMail, no_mail, mail_or_none, at, with_at}
use Rattle.hv_mail.specs.Queue.{QueueState, mail_from}

-- what the queues have from a place on, and nothing before it
pub at-mail_from : (s : ℕ) (queues : List QueueState) (k : ℕ) (d : QueueState) → k < length queues → at (mail_from s queues) (s + k) ≡ (get_or queues k d).mail
at-mail_from s [] k d less = absurd (omega arith)
at-mail_from s (q ∷ queues) zero d less = at-with_at (mail_from (suc s) queues) s q.mail (s + 0) ∙ ap (λ b. cond b q.mail (at (mail_from (suc s) queues) (s + 0))) (eq-eqb (s + 0) s (add-zero s))
at-mail_from s (q ∷ queues) (suc k) d less =
    let next : s + suc k ≡ suc s + k = omega arith in
    at-with_at (mail_from (suc s) queues) s q.mail (s + suc k) ∙ ap (λ b. cond b q.mail (at (mail_from (suc s) queues) (s + suc k))) (ne_eqb (s + suc k) s (λ e. omega (arith, e)))
    ∙ ap (at (mail_from (suc s) queues)) next ∙ at-mail_from (suc s) queues k d (omega arith)

-- a queue written anew
pub mail_from-set : (s : ℕ) (queues : List QueueState) (k : ℕ) (v : QueueState) → k < length queues → mail_from s (set queues k v) ≡ with_at (mail_from s queues) (s + k) v.mail
mail_from-set s [] k v less = absurd (omega arith)
mail_from-set s (q ∷ queues) zero v less = sym (ap (λ n. with_at (with_at (mail_from (suc s) queues) s q.mail) n v.mail) (add-zero s) ∙ with_at-again (mail_from (suc s) queues) s q.mail v.mail)
mail_from-set s (q ∷ queues) (suc k) v less =
    let next : suc s + k ≡ s + suc k = omega arith in
    ap (λ m. with_at m s q.mail) (mail_from-set (suc s) queues k v (omega arith) ∙ ap (λ n. with_at (mail_from (suc s) queues) n v.mail) next)
    ∙ sym (with_at-swap (mail_from (suc s) queues) s (s + suc k) q.mail v.mail (ne_eqb s (s + suc k) (λ e. omega (arith, e))))

-- past all queues nothing stands
pub past-mail_from : (s : ℕ) (queues : List QueueState) (q : ℕ) → s + length queues < suc q → get (mail_from s queues) q ≡ None
past-mail_from s [] q past = get-empty nat_cmp q
past-mail_from s (queue ∷ queues) q past =
    get-with_at (mail_from (suc s) queues) s queue.mail q ∙ ap (λ b. cond b (row_of queue.mail.slot queue.mail.waiting) (get (mail_from (suc s) queues) q)) (ne_eqb q s (λ e. omega (arith, e)))
    ∙ past-mail_from (suc s) queues q (omega arith)

-- where nothing stands, what leaves nothing changes nothing
pub same_absent : (m : Mail) (k : ℕ) (f : SintMail → SintMail) → f no_mail ≡ no_mail → get m k ≡ None → m ≡ with_at m k (f (at m k))
same_absent m k f quiet is = sym (ap (λ there. with_at m k there) (ap f (ap mail_or_none is) ∙ quiet) ∙ with_at-same m k None [] is)

-- queues with the same mail, one of them written anew
pub same-set : (s : ℕ) (queues : List QueueState) (k : ℕ) (v d : QueueState) → k < length queues → v.mail ≡ (get_or queues k d).mail → mail_from s (set queues k v) ≡ mail_from s queues
same-set s [] k v d less is = absurd (omega arith)
same-set s (q ∷ queues) zero v d less is = ap (with_at (mail_from (suc s) queues) s) is
same-set s (q ∷ queues) (suc k) v d less is = ap (λ m. with_at m s q.mail) (same-set (suc s) queues k v d (omega arith) is)

-- a queue with nothing in it at the end
pub quiet_push : (s : ℕ) (queues : List QueueState) (v : QueueState) → v.mail ≡ no_mail → mail_from s (queues ++ v ∷ []) ≡ mail_from s queues
quiet_push s [] v quiet = ap (with_at empty s) quiet ∙ with_at-same empty s None [] (get-empty nat_cmp s)
quiet_push s (q ∷ queues) v quiet = ap (λ m. with_at m s q.mail) (quiet_push (suc s) queues v quiet)

-- each queue has room where all have
pub room_at : (queues : List QueueState) (k : ℕ) (d : QueueState) → k < length queues → list_all (λ q. q.room) queues ≡ true → (get_or queues k d).room ≡ true
room_at [] k d less h = absurd (omega arith)
room_at (q ∷ queues) zero d less h = (and_parts q.room (list_all (λ q. q.room) queues) h).0
room_at (q ∷ queues) (suc k) d less h = room_at queues k d (omega arith) (and_parts q.room (list_all (λ q. q.room) queues) h).1

-- and still do where one of them is written anew with room
pub roomy_set : (queues : List QueueState) (k : ℕ) (v : QueueState) → v.room ≡ true → list_all (λ q. q.room) queues ≡ true → list_all (λ q. q.room) (set queues k v) ≡ true
roomy_set [] k v r h = h
roomy_set (q ∷ queues) zero v r h = and_from v.room _ r (and_parts q.room (list_all (λ q. q.room) queues) h).1
roomy_set (q ∷ queues) (suc k) v r h =
    let parts = and_parts q.room (list_all (λ q. q.room) queues) h in
    and_from q.room _ parts.0 (roomy_set queues k v r parts.1)

-- one queue changed
pub write_queue : (queues : List QueueState) (k : ℕ) (old new : QueueState) (f : SintMail → SintMail) → k < length queues → old ≡ get_or queues k old → new.mail ≡ f old.mail → mail_from 0
    (set queues k new) ≡ with_at (mail_from 0 queues) k (f (at (mail_from 0 queues) k))
write_queue queues k old new f less is made =
    let there : at (mail_from 0 queues) k ≡ old.mail = ap (at (mail_from 0 queues)) (sym (zero-add k)) ∙ at-mail_from 0 queues k old less ∙ ap {A = QueueState} (λ q. q.mail) (sym is) in
    mail_from-set 0 queues k new less ∙ ap (λ n. with_at (mail_from 0 queues) n new.mail) (zero-add k)
    ∙ ap (with_at (mail_from 0 queues) k) (made ∙ ap f (sym there))

-- and read
pub read_queue : (queues : List QueueState) (k : ℕ) (old : QueueState) → k < length queues → old ≡ get_or queues k old → at (mail_from 0 queues) k ≡ old.mail
read_queue queues k old less is = ap (at (mail_from 0 queues)) (sym (zero-add k)) ∙ at-mail_from 0 queues k old less ∙ ap {A = QueueState} (λ q. q.mail) (sym is)

-- one queue more has room
pub roomy_more : (queues : List QueueState) (i : ℕ) (v : QueueState) → i < length queues → list_all (λ q. q.room) (take i queues) ≡ true → v.room ≡ true → list_all (λ q. q.room)
    (take (suc i) (set queues i v)) ≡ true
roomy_more [] i v less h r = absurd (omega arith)
roomy_more (q ∷ queues) zero v less h r = ap (λ b. b && true) r
roomy_more (q ∷ queues) (suc i) v less h r =
    let parts = and_parts q.room (list_all (λ q. q.room) (take i queues)) h in
    and_from q.room _ parts.0 (roomy_more queues i v (omega arith) parts.1 r)

pub roomy_all : (queues : List QueueState) (i : ℕ) → length queues < suc i → list_all (λ q. q.room) (take i queues) ≡ true → list_all (λ q. q.room) queues ≡ true
roomy_all [] i past h = refl
roomy_all (q ∷ queues) zero past h = absurd (omega arith)
roomy_all (q ∷ queues) (suc i) past h =
    let parts = and_parts q.room (list_all (λ q. q.room) (take i queues)) h in
    and_from q.room _ parts.0 (roomy_all queues i (omega arith) parts.1)

-- before the first queue nothing stands
pub below-mail_from : (s : ℕ) (queues : List QueueState) (q : ℕ) → q < s → get (mail_from s queues) q ≡ None
below-mail_from s [] q below = get-empty nat_cmp q
below-mail_from s (queue ∷ queues) q below =
    get-with_at (mail_from (suc s) queues) s queue.mail q ∙ ap (λ b. cond b (row_of queue.mail.slot queue.mail.waiting) (get (mail_from (suc s) queues) q)) (ne_eqb q s (λ e. omega (arith, e)))
    ∙ below-mail_from (suc s) queues q (omega arith)
