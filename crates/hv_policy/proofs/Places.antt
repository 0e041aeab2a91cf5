-- What each change of the one list does at each place, by that place's messages alone.
use Rattle.std.proofs.Common.{◌≡◌, ℕ, ◌==◌, Bool, true, false, cond, not, ◌&&◌, List, [], ◌∷◌, ◌++◌, refl, sym, ap, ◌∙◌, append-nil, eqb-true, eq-eqb, filter}
use Rattle.std.proofs.lemmas.Bool.{and_parts, and_from}
use Rattle.std.proofs.lemmas.List.Elements.{filter-append}
use Rattle.std.specs.List.{list_any}
use Rattle.hv_policy.proofs.Filters.{filter_kept, filter_gone, filter_swap}
use Rattle.hv_policy.specs.Flat.{MailRow}
use Rattle.hv_policy.specs.Mail.{Place, stands_at, mail_at, is_shown, as_shown, with_first_shown, shown_next, place_of, cleared, mail_but_at, mail_but}

-- whether a place is this one; where a message stands is a place
abbrev pub is_place : Place → Place → Bool
is_place place other = (other.part == place.part) && ((other.vp == place.vp) && (other.sint == place.sint))

pub is_place_true : (place other : Place) → is_place place other ≡ true → other ≡ place
is_place_true place other h =
    let first = and_parts (other.part == place.part) ((other.vp == place.vp) && (other.sint == place.sint)) h in
    let rest = and_parts (other.vp == place.vp) (other.sint == place.sint) first.1 in
    let a = eqb-true other.part place.part first.0 in
    let b = eqb-true other.vp place.vp rest.0 in
    let c = eqb-true other.sint place.sint rest.1 in
    λ i. record { part = a i; vp = b i; sint = c i }

pub is_place_same : (place : Place) → is_place place place ≡ true
is_place_same place = and_from _ _ (eq-eqb place.part place.part refl) (and_from _ _ (eq-eqb place.vp place.vp refl) (eq-eqb place.sint place.sint refl))

-- what is at one place isn't at another
apart : (place other : Place) → is_place place other ≡ false → (row : MailRow) → stands_at other row ≡ true → stands_at place row ≡ false
apart place other h row is = ap (is_place place) (is_place_true other (place_of row) is) ∙ h

-- the first of some rows shown
abbrev pub head_shown : List MailRow → List MailRow
head_shown [] = []
head_shown (row ∷ rows) = as_shown row ∷ rows

-- Show, of the rows at one place
abbrev pub next_rows : List MailRow → List MailRow
next_rows rows = cond (list_any is_shown rows) rows (head_shown rows)

first_there : (place : Place) (mail : List MailRow) → mail_at place (with_first_shown place mail) ≡ head_shown (mail_at place mail)
first_there place [] = refl
first_there place (row ∷ mail) = by (stands_at place row) refl (first_there place mail)
  where
    by : (b : Bool) → stands_at place row ≡ b → mail_at place (with_first_shown place mail) ≡ head_shown (mail_at place mail) → mail_at place
        (cond b (as_shown row ∷ mail) (row ∷ with_first_shown place mail)) ≡ head_shown (cond b (row ∷ mail_at place mail) (mail_at place mail))
    by true is rest = rw is refl
    by false is rest = rw is rest

first_apart : (place other : Place) → is_place other place ≡ false → (mail : List MailRow) → mail_at place (with_first_shown other mail) ≡ mail_at place mail
first_apart place other h [] = refl
first_apart place other h (row ∷ mail) = by (stands_at other row) (stands_at place row) refl refl (first_apart place other h mail)
  where
    by : (a b : Bool) → stands_at other row ≡ a → stands_at place row ≡ b → mail_at place (with_first_shown other mail) ≡ mail_at place mail → mail_at place
        (cond a (as_shown row ∷ mail) (row ∷ with_first_shown other mail)) ≡ cond b (row ∷ mail_at place mail) (mail_at place mail)
    by true true s t rest = let no = sym (apart other place h row t) ∙ s in cc
    by true false s t rest = rw t refl
    by false true s t rest = rw t (ap (λ rows. row ∷ rows) rest)
    by false false s t rest = rw t rest

-- Show
pub next_there : (place : Place) (mail : List MailRow) → mail_at place (shown_next place mail) ≡ next_rows (mail_at place mail)
next_there place mail = by (list_any is_shown (mail_at place mail))
  where
    by : (b : Bool) → mail_at place (cond b mail (with_first_shown place mail)) ≡ cond b (mail_at place mail) (head_shown (mail_at place mail))
    by true = refl
    by false = first_there place mail

pub next_apart : (place other : Place) → is_place other place ≡ false → (mail : List MailRow) → mail_at place (shown_next other mail) ≡ mail_at place mail
next_apart place other h mail = by (list_any is_shown (mail_at other mail))
  where
    by : (b : Bool) → mail_at place (cond b mail (with_first_shown other mail)) ≡ mail_at place mail
    by true = refl
    by false = first_apart place other h mail

-- a message at the end
pub last_there : (place : Place) (mail : List MailRow) (row : MailRow) (b : Bool) → stands_at place row ≡ b → mail_at place (mail ++ row ∷ []) ≡ mail_at place mail ++ cond b (row ∷ []) []
last_there place mail row b is = filter-append (stands_at place) mail (row ∷ []) ∙ ap (λ t. mail_at place mail ++ cond t (row ∷ []) []) is

-- a message is posted: it goes last, and then Show at its place
abbrev pub posted : MailRow → List MailRow → List MailRow
posted row mail = shown_next (place_of row) (mail ++ row ∷ [])

pub posted_there : (row : MailRow) (mail : List MailRow) → mail_at (place_of row) (posted row mail) ≡ next_rows (mail_at (place_of row) mail ++ row ∷ [])
posted_there row mail = next_there (place_of row) (mail ++ row ∷ []) ∙ ap next_rows (last_there (place_of row) mail row true (is_place_same (place_of row)))

pub posted_apart : (place : Place) (row : MailRow) → is_place (place_of row) place ≡ false → (mail : List MailRow) → mail_at place (posted row mail) ≡ mail_at place mail
posted_apart place row h mail =
    let elsewhere : stands_at place row ≡ false = by (is_place place (place_of row)) refl in
    next_apart place (place_of row) h (mail ++ row ∷ []) ∙ last_there place mail row false elsewhere ∙ append-nil (mail_at place mail)
  where
    by : (b : Bool) → is_place place (place_of row) ≡ b → b ≡ false
    by true is = sym (is_place_same place) ∙ ap (λ p. is_place p place) (sym (is_place_true place (place_of row) is)) ∙ h
    by false is = refl

-- the shown message goes
pub cleared_there : (place : Place) (mail : List MailRow) → mail_at place (cleared place mail) ≡ filter (λ row. not row.shown) (mail_at place mail)
cleared_there place [] = refl
cleared_there place (row ∷ mail) = by (stands_at place row) row.shown refl refl (cleared_there place mail)
  where
    by : (a b : Bool) → stands_at place row ≡ a → row.shown ≡ b → mail_at place (cleared place mail) ≡ filter (λ row. not row.shown) (mail_at place mail) → mail_at place
        (cond (not (a && b)) (row ∷ cleared place mail) (cleared place mail)) ≡ filter (λ row. not row.shown) (cond a (row ∷ mail_at place mail) (mail_at place mail))
    by true true s t rest = rest ∙ sym (ap (λ c. cond (not c) (row ∷ filter (λ row. not row.shown) (mail_at place mail)) (filter (λ row. not row.shown) (mail_at place mail))) t)
    by true false s t rest =
        ap (λ c. cond c (row ∷ mail_at place (cleared place mail)) (mail_at place (cleared place mail))) s ∙ ap (λ rows. row ∷ rows) rest
        ∙ sym (ap (λ c. cond (not c) (row ∷ filter (λ row. not row.shown) (mail_at place mail)) (filter (λ row. not row.shown) (mail_at place mail))) t)
    by false b s t rest = ap (λ c. cond c (row ∷ mail_at place (cleared place mail)) (mail_at place (cleared place mail))) s ∙ rest

not_and : (a b : Bool) → a ≡ false → not (a && b) ≡ true
not_and true b e = cc
not_and false b e = refl

pub cleared_apart : (place other : Place) → is_place other place ≡ false → (mail : List MailRow) → mail_at place (cleared other mail) ≡ mail_at place mail
cleared_apart place other h mail = filter_kept (stands_at place) (λ row. not (stands_at other row && row.shown)) (λ row is. not_and (stands_at other row) row.shown (apart other place h row is)) mail

-- the messages of other processors, and of other partitions
abbrev pub is_vp : ℕ → ℕ → Place → Bool
is_vp part vp place = (place.part == part) && (place.vp == vp)

pub but_vp_there : (part vp : ℕ) (place : Place) (b : Bool) → is_vp part vp place ≡ b → (mail : List MailRow) → mail_at place (mail_but_at part vp mail) ≡ cond b [] (mail_at place mail)
but_vp_there part vp place true h mail = filter_gone (stands_at place) (λ row. not (is_vp part vp (place_of row))) (λ row is. ap not (ap (is_vp part vp) (is_place_true place (place_of row) is) ∙ h))
    mail
but_vp_there part vp place false h mail = filter_kept (stands_at place) (λ row. not (is_vp part vp (place_of row))) (λ row is. ap not (ap (is_vp part vp) (is_place_true place (place_of row) is) ∙ h))
    mail

pub but_part_there : (part : ℕ) (place : Place) (b : Bool) → place.part == part ≡ b → (mail : List MailRow) → mail_at place (mail_but part mail) ≡ cond b [] (mail_at place mail)
but_part_there part place true h mail = filter_gone (stands_at place) (λ row. not (row.part == part))
    (λ row is. ap not (ap {A = Place} (λ p. p.part == part) (is_place_true place (place_of row) is) ∙ h)) mail
but_part_there part place false h mail = filter_kept (stands_at place) (λ row. not (row.part == part))
    (λ row is. ap not (ap {A = Place} (λ p. p.part == part) (is_place_true place (place_of row) is) ∙ h)) mail

-- messages that pass a test of their own go from each place alike, as those of one port
pub left_there : (keep : MailRow → Bool) (place : Place) (mail : List MailRow) → mail_at place (filter keep mail) ≡ filter keep (mail_at place mail)
left_there keep place mail = filter_swap (stands_at place) keep mail
