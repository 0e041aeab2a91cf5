-- Lists that are the same place by place stay so, and are counted alike.
use Rattle.std.proofs.Common.{◌≡◌, ℕ, zero, suc, ◌+◌, ◌≤◌, Bool, true, false, cond, not, List, [], ◌∷◌, ◌++◌, length, refl, sym, ap, subst, ◌∙◌, arith, count_by, find, nat_lt, zero-add, filter}
use Rattle.std.proofs.lemmas.List.Filters.{length-filter_both, sum_by-filter_both}
use Rattle.std.proofs.lemmas.List.Sums.{sum_by-cons}
use Rattle.std.specs.List.{AllByRecursion}
use Rattle.hv_policy.proofs.Filters.{filter_swap}
use Rattle.hv_policy.proofs.Places.{is_place, is_place_true, is_place_same, next_rows, next_there, next_apart, posted, posted_there, posted_apart}
use Rattle.hv_policy.specs.Flat.{MailRow}
use Rattle.hv_policy.specs.Mail.{Place, stands_at, mail_at, place_of, shown_next, came_through, kept_of, slot_at, row_bytes, is_shown}
use Rattle.hv_policy.specs.Same.{IsSameMail}

module _ (mail others : List MailRow) (same : IsSameMail mail others) where
  -- a message is posted
  pub posted_same : (row : MailRow) → IsSameMail (posted row mail) (posted row others)
  posted_same row place = by (is_place (place_of row) place) refl
    where
      by : (b : Bool) → is_place (place_of row) place ≡ b → mail_at place (posted row mail) ≡ mail_at place (posted row others)
      by true h = subst (λ p. mail_at p (posted row mail) ≡ mail_at p (posted row others)) (sym (is_place_true (place_of row) place h))
          (posted_there row mail ∙ ap (λ rows. next_rows (rows ++ row ∷ [])) (same (place_of row)) ∙ sym (posted_there row others))
      by false h = posted_apart place row h mail ∙ same place ∙ sym (posted_apart place row h others)

  -- Show
  pub next_same : (at : Place) → IsSameMail (shown_next at mail) (shown_next at others)
  next_same at place = by (is_place at place) refl
    where
      by : (b : Bool) → is_place at place ≡ b → mail_at place (shown_next at mail) ≡ mail_at place (shown_next at others)
      by true h = subst (λ p. mail_at p (shown_next at mail) ≡ mail_at p (shown_next at others)) (sym (is_place_true at place h))
          (next_there at mail ∙ ap next_rows (same at) ∙ sym (next_there at others))
      by false h = next_apart place at h mail ∙ same place ∙ sym (next_apart place at h others)

  -- messages that pass a test go from both, as those shown at a place, or of a processor, or of a partition
  pub left_same : (keep : MailRow → Bool) → IsSameMail (filter keep mail) (filter keep others)
  left_same keep place = filter_swap (stands_at place) keep mail ∙ ap (filter keep) (same place) ∙ sym (filter_swap (stands_at place) keep others)

  pub slot_same : (place : Place) → slot_at place mail ≡ slot_at place others
  slot_same place = ap (λ rows. row_bytes (find is_shown rows) (nat_lt 1 (length rows))) (same place)

nothing_at : (others : List MailRow) → ((place : Place) → [] ≡ mail_at place others) → others ≡ []
nothing_at [] h = refl
nothing_at (row ∷ others) h =
    let some : mail_at (place_of row) (row ∷ others) ≡ row ∷ mail_at (place_of row) others = ap (λ b. cond b (row ∷ mail_at (place_of row) others) (mail_at (place_of row) others))
    (is_place_same (place_of row)) in
    let none = h (place_of row) ∙ some in cc

-- lists that are the same place by place are counted alike
count_same : (test : MailRow → Bool) (n : ℕ) (mail others : List MailRow) → length mail ≤ n → IsSameMail mail others → count_by test mail ≡ count_by test others
count_same test n [] others few same = ap (count_by test) (sym (nothing_at others same))
count_same test zero (row ∷ mail) others few same = absurd (omega arith)
count_same test (suc n) (row ∷ mail) others few same =
    let place : Place = place_of row in
    let here : MailRow → Bool = stands_at place in
    let there : MailRow → Bool = λ r. not (stands_at place r) in
    let head : mail_at place (row ∷ mail) ≡ row ∷ mail_at place mail = ap (λ b. cond b (row ∷ mail_at place mail) (mail_at place mail)) (is_place_same place) in
    let long = ap (length {A = MailRow}) head in
    let parts = length-filter_both here there (λ _. refl) (row ∷ mail) in
    let rest = count_same test n (filter there (row ∷ mail)) (filter there others) (omega arith) (left_same (row ∷ mail) others same there) in
    let mine = sum_by-filter_both here there (λ _. refl) (λ r. cond (test r) 1 0) (row ∷ mail) in
    let theirs = sum_by-filter_both here there (λ _. refl) (λ r. cond (test r) 1 0) others in
    let both = ap (count_by test) (same place) in
    omega arith

pub kept_same : (part port born : ℕ) (mail others : List MailRow) → IsSameMail mail others → kept_of part port born mail ≡ kept_of part port born others
kept_same part port born mail others same = count_same (came_through part port born) (length mail) mail others (omega arith) same

-- where all messages of a port pass a test, those that pass it are counted alone
pub kept_among : (part port born : ℕ) (here : MailRow → Bool) (mail : List MailRow) → AllByRecursion (λ row. came_through part port born row ≡ true → here row ≡ true) mail → kept_of part port born
    mail ≡ kept_of part port born (filter here mail)
kept_among part port born here [] h = refl
kept_among part port born here (row ∷ mail) h = sum_by-cons (λ r. cond (came_through part port born r) 1 0) row mail ∙ by (came_through part port born row) (here row) refl refl
    (kept_among part port born here mail h.1)
  where
    by : (a b : Bool) → came_through part port born row ≡ a → here row ≡ b → kept_of part port born mail ≡ kept_of part port born (filter here mail) → cond a 1 0 + kept_of part port born mail ≡
        kept_of part port born (cond b (row ∷ filter here mail) (filter here mail))
    by true true s t rest = ap (λ n. 1 + n) rest ∙ sym (sum_by-cons (λ r. cond (came_through part port born r) 1 0) row (filter here mail) ∙ ap
        (λ b. cond b 1 0 + kept_of part port born (filter here mail)) s)
    by true false s t rest = let is = h.0 s in cc
    by false true s t rest = ap (λ n. 0 + n) rest ∙ sym (sum_by-cons (λ r. cond (came_through part port born r) 1 0) row (filter here mail) ∙ ap
        (λ b. cond b 1 0 + kept_of part port born (filter here mail)) s)
    by false false s t rest = zero-add _ ∙ rest

-- what all of one list have all of the other have
none_fails : (test : MailRow → Bool) (mail : List MailRow) → AllByRecursion (λ row. test row ≡ true) mail → count_by (λ row. not (test row)) mail ≡ 0
none_fails test [] all = refl
none_fails test (row ∷ mail) all =
    sum_by-cons (λ r. cond (not (test r)) 1 0) row mail ∙ ap (λ b. cond (not b) 1 0 + count_by (λ row. not (test row)) mail) all.0
    ∙ zero-add _ ∙ none_fails test mail all.1

all_pass : (test : MailRow → Bool) (mail : List MailRow) → count_by (λ row. not (test row)) mail ≡ 0 → AllByRecursion (λ row. test row ≡ true) mail
all_pass test [] none = tt
all_pass test (row ∷ mail) none = by (test row) refl (sym (sum_by-cons (λ r. cond (not (test r)) 1 0) row mail) ∙ none) (all_pass test mail)
  where
    by : (b : Bool) → test row ≡ b → cond (not b) 1 0 + count_by (λ row. not (test row)) mail ≡ 0 → (count_by (λ row. not (test row)) mail ≡ 0 → AllByRecursion (λ row. test row ≡ true) mail) →
        (test row ≡ true) × AllByRecursion (λ row. test row ≡ true) mail
    by true is none rest = (is, rest (sym (zero-add _) ∙ none))
    by false is none rest = absurd (omega arith)

pub all_same : (test : MailRow → Bool) (mail others : List MailRow) → IsSameMail mail others → AllByRecursion (λ row. test row ≡ true) mail → AllByRecursion (λ row. test row ≡ true) others
all_same test mail others same all =
    all_pass test others (sym (count_same (λ row. not (test row)) (length mail) mail others (omega arith) same) ∙ none_fails test mail all)
