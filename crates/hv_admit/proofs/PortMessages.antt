-- How many messages of a port are kept: the list's count is that of the mailbox at which the port aims, or of all
-- mailboxes of its partition.
use Rattle.std.proofs.Common.{◌≡◌, ℕ, ◌+◌, ◌==◌, Bool, true, false, cond, not, ◌||◌, List, [], ◌∷◌, Option, Some, None, is_some, inl, inr, refl, sym, ap, ◌∙◌, arith, eq-eqb, eqb-true, filter}
use Rattle.std.proofs.Common.{sum_by, nat_cmp}
use Rattle.std.proofs.lemmas.Bool.{cases_Bool}
use Rattle.std.proofs.lemmas.List.Filters.{sum_by-filter_both}
use Rattle.std.proofs.lemmas.List.Sums.{sum_by-cons}
use Rattle.std.specs.Cmp.{unsigned_tied}
use Rattle.std.specs.FinMap.{FinMap, get, entries, entries_sorted, get-entries, find}
use Rattle.std.specs.List.{AllByRecursion, IsDistinct}
use Rattle.std.specs.Map.{keys_of}
use Rattle.std.specs.Ordering.{eq_by_cmp}
use Rattle.hv_defs.proofs.Counts.{distinct_keys}
use Rattle.hv_defs.specs.declared.aim.Aim.TheVariants.{One, Any}
use Rattle.hv_invariants.specs.StateInvariant.{StateInvariant, is_placed, stands_where}
use Rattle.hv_mail.specs.Mail.{SintMail, at, count_at, count_of, mail_or_none}
use Rattle.hv_partition.specs.Partition.{PartitionState}
use Rattle.hv_policy.proofs.Filters.{filter_kept}
use Rattle.hv_policy.proofs.Places.{is_place_same}
use Rattle.hv_policy.proofs.SameMail.{kept_among}
use Rattle.hv_policy.specs.Flat.{Flat, MailRow, PortRow}
use Rattle.hv_policy.specs.Mail.{Place, came_through, kept_of, mail_at, place_of, stands_at}
use Rattle.hv_tree.specs.Rows.{Row, Rows}
use Rattle.hv_vp.specs.Vp.{VpState}
use Rattle.hv_vp.specs.Vps.{kept_by_all}
use Rattle.hv_admit.proofs.MailRows.{counted_box}
use Rattle.hv_admit.proofs.ChangedProcessor.{rows_there, vp_in}
use Rattle.hv_admit.specs.Tie.{Refines, here, rows_of, sint_mail}

-- a key is found in a list of entries at its first one
module _ {X : Type 0} where
  found_next : (k : ℕ) (e : ℕ × X) (es : List (ℕ × X)) → find nat_cmp k (e ∷ es) ≡ cond (k == e.0) (Some e.1) (find nat_cmp k es)
  found_next k e es = ap (λ b. cond b (Some e.1) (find nat_cmp k es)) (unsigned_tied k e.0)

  unlisted : (k : ℕ) (es : List (ℕ × X)) → AllByRecursion (λ y. eq_by_cmp nat_cmp k y ≡ false) (keys_of es) → find nat_cmp k es ≡ None
  unlisted k [] h = refl
  unlisted k (e ∷ es) h = ap (λ b. cond b (Some e.1) (find nat_cmp k es)) h.0 ∙ unlisted k es h.1

  found_first : (e : ℕ × X) (es : List (ℕ × X)) → find nat_cmp e.0 (e ∷ es) ≡ Some e.1
  found_first e es = rw (found_next e.0 e es, eq-eqb e.0 e.0 refl) refl

  found_later : (k : ℕ) (x : X) (e : ℕ × X) (es : List (ℕ × X)) → find nat_cmp e.0 es ≡ None → find nat_cmp k es ≡ Some x → find nat_cmp k (e ∷ es) ≡ Some x
  found_later k x e es none is = rw (found_next k e es) (grind (arith, none, is))

-- a map's sum is what one row is worth, where all others are worth nothing
module _ {X : Type 0} (key : ℕ) (g : X → ℕ) where
  abbrev worth : Option X → ℕ
  worth None = 0
  worth (Some x) = g x

  one_more : (k s : ℕ) (x : X) (later : Option X) → (k ≡ key → later ≡ None) → (k == key ≡ false → g x ≡ 0) → s ≡ worth later → g x + s ≡ worth (cond (key == k) (Some x) later)
  one_more k s x later none zero rest = grind (arith, none, zero)

  one_listed : (es : List (ℕ × X)) → IsDistinct (eq_by_cmp nat_cmp) (keys_of es) → ((k : ℕ) (x : X) → k == key ≡ false → find nat_cmp k es ≡ Some x → g x ≡ 0) → sum_by (λ e. g e.1) es ≡ worth
      (find nat_cmp key es)
  unfolding IsDistinct
  one_listed [] d h = refl
  one_listed (e ∷ es) d h =
      let none = unlisted e.0 es d.0 in
      let rest = one_listed es d.1 (λ k x apart is. h k x apart (found_later k x e es none is)) in
      sum_by-cons (λ (e : ℕ × X). g e.1) e es
      ∙ one_more e.0 _ e.1 (find nat_cmp key es) (λ same. ap (λ k. find nat_cmp k es) (sym same) ∙ none) (λ apart. h e.0 e.1 apart (found_first e es)) rest
      ∙ sym (ap worth (found_next key e es))

  sum-one : (m : FinMap nat_cmp X) → ((k : ℕ) (x : X) → k == key ≡ false → get m k ≡ Some x → g x ≡ 0) → sum_by (λ e. g e.1) (entries m) ≡ worth (get m key)
  sum-one m h = one_listed (entries m) (distinct_keys nat_cmp (entries m) (entries_sorted m)) (λ k x apart is. h k x apart (get-entries m k ∙ is)) ∙ ap worth (sym (get-entries m key))

-- where all messages of a port pass a test, none is at a place where none passes it
none_apart : (part port born : ℕ) (passes : MailRow → Bool) (other : Place) → ((row : MailRow) → passes row ≡ true → stands_at other row ≡ false) → (mail : List MailRow) → AllByRecursion
    (λ row. came_through part port born row ≡ true → passes row ≡ true) mail → kept_of part port born (mail_at other mail) ≡ 0
none_apart part port born passes other apart [] h = refl
none_apart part port born passes other apart (row ∷ mail) h = by (stands_at other row) (came_through part port born row) refl refl (none_apart part port born passes other apart mail h.1)
  where
    by : (a b : Bool) → stands_at other row ≡ a → came_through part port born row ≡ b → kept_of part port born (mail_at other mail) ≡ 0 → kept_of part port born
        (cond a (row ∷ mail_at other mail) (mail_at other mail)) ≡ 0
    by a b s t rest = grind (arith, apart row, h.0, sum_by-cons (λ r. cond (came_through part port born r) 1 0) row (mail_at other mail))

-- what holds of every place where nothing is holds of no message's place
each_place : (there : Place → Bool) (mail : List MailRow) → ((place : Place) → there place ≡ false → mail_at place mail ≡ []) → AllByRecursion (λ row. there (place_of row) ≡ true) mail
each_place there [] h = tt
each_place there (row ∷ mail) h = (own (there (place_of row)) refl, each_place there mail (λ place none. later place (stands_at place row) (h place none)))
  where
    own : (b : Bool) → there (place_of row) ≡ b → b ≡ true
    own b is = grind (arith, h (place_of row), is_place_same (place_of row))

    later : (place : Place) (b : Bool) → cond b (row ∷ mail_at place mail) (mail_at place mail) ≡ [] → mail_at place mail ≡ []
    later place b none = grind arith

-- the messages of a port of which each is at one SINT of a listed processor are counted processor by processor
module _ (id port born sint : ℕ) (g : VpState → ℕ) where
  abbrev Fits : List (ℕ × VpState) → MailRow → Type 0
  Fits es row = came_through id port born row ≡ true → (stands_where id Any sint row ≡ true) × (is_some (find nat_cmp row.vp es) ≡ true)

  abbrev AreCounted : List (ℕ × VpState) → List MailRow → Type 0
  AreCounted es mail = (k : ℕ) (v : VpState) → find nat_cmp k es ≡ Some v → kept_of id port born (mail_at (here id k sint) mail) ≡ g v

  none_fits : (mail : List MailRow) → AllByRecursion (Fits []) mail → kept_of id port born mail ≡ 0
  none_fits [] h = refl
  none_fits (row ∷ mail) h = sum_by-cons (λ r. cond (came_through id port born r) 1 0) row mail ∙ by (came_through id port born row) refl (none_fits mail h.1)
    where
      by : (b : Bool) → came_through id port born row ≡ b → kept_of id port born mail ≡ 0 → cond b 1 0 + kept_of id port born mail ≡ 0
      by b is rest = grind (arith, h.0)

  module _ (e : ℕ × VpState) (es : List (ℕ × VpState)) where
    abbrev away : MailRow → Bool
    away row = not (stands_at (here id e.0 sint) row)

    -- a message that isn't at the first processor is at another
    still_fits : (mail : List MailRow) → AllByRecursion (Fits (e ∷ es)) mail → AllByRecursion (Fits es) (filter away mail)
    still_fits [] h = tt
    still_fits (row ∷ mail) h = by (away row) refl (still_fits mail h.1)
      where
        fits : away row ≡ true → Fits (e ∷ es) row → Fits es row
        fits is fit came = grind (arith, fit came, unsigned_tied row.vp e.0)

        by : (b : Bool) → away row ≡ b → AllByRecursion (Fits es) (filter away mail) → AllByRecursion (Fits es) (cond b (row ∷ filter away mail) (filter away mail))
        by true is rest = (fits is h.0, rest)
        by false is rest = rest

    -- and what is at another is there as before
    still_there : (k : ℕ) → k == e.0 ≡ false → (mail : List MailRow) → mail_at (here id k sint) (filter away mail) ≡ mail_at (here id k sint) mail
    still_there k apart mail = filter_kept (stands_at (here id k sint)) away elsewhere mail
      where
        elsewhere : (row : MailRow) → stands_at (here id k sint) row ≡ true → away row ≡ true
        elsewhere row h = grind arith

  one_by_one : (es : List (ℕ × VpState)) → IsDistinct (eq_by_cmp nat_cmp) (keys_of es) → (mail : List MailRow) → AllByRecursion (Fits es) mail → AreCounted es mail → kept_of id port born mail ≡ sum_by
      (λ e. g e.1) es
  unfolding IsDistinct
  one_by_one [] d mail fits are = none_fits mail fits
  one_by_one (e ∷ es) d mail fits are =
      let here_is = are e.0 e.1 (found_first e es) in
      let rest = one_by_one es d.1 (filter (away e es) mail) (still_fits e es mail fits) others in
      let both = sum_by-filter_both (stands_at (here id e.0 sint)) (away e es) (λ _. refl) (λ r. cond (came_through id port born r) 1 0) mail in
      sym both ∙ ap (λ n. n + kept_of id port born (filter (away e es) mail)) here_is ∙ ap (λ n. g e.1 + n) rest ∙ sym (sum_by-cons (λ (e : ℕ × VpState). g e.1) e es)
    where
      others : AreCounted es (filter (away e es) mail)
      others k v is = elim (cases_Bool (k == e.0)) [
        | inl same ↦ (let none = sym is ∙ ap (λ q. find nat_cmp q es) (eqb-true k e.0 same) ∙ unlisted e.0 es d.0 in cc)
        | inr apart ↦ ap (kept_of id port born) (still_there e es k apart mail) ∙ are k v (found_later k v e es (unlisted e.0 es d.0) is)
      ]

module _ (f : Flat) (id port : ℕ) (row : PortRow) (is : get f.port (id, port) ≡ Some row) where
  -- as long as a port is there, the messages that came through it stand where it aims
  placed_there : (m : MailRow) → is_placed f m ≡ true → came_through id port row.born m ≡ true → stands_where id row.vp row.sint m ≡ true
  placed_there m placed came = grind (arith, is)

  all_there : (mail : List MailRow) → AllByRecursion (λ m. is_placed f m ≡ true) mail → AllByRecursion (λ m. came_through id port row.born m ≡ true → stands_where id row.vp row.sint m ≡ true) mail
  all_there [] h = tt
  all_there (m ∷ mail) h = (placed_there m h.0, all_there mail h.1)

module _ (rows : Rows PartitionState) (f : Flat) (flat : Refines rows f) (pages : ℕ) (lawful : StateInvariant pages f) (id port : ℕ) (row : PortRow) (is : get f.port (id, port) ≡ Some row)
    (r : Row PartitionState) (there : get rows id ≡ Some r) where
  own : AllByRecursion (λ m. came_through id port row.born m ≡ true → stands_where id row.vp row.sint m ≡ true) f.mail
  own = all_there f id port row is f.mail lawful.placed

  module _ (vp : ℕ) (v : VpState) (found : get r.1.vps.vps vp ≡ Some v) where
    -- what is at a SINT of a processor, counted
    counted : (sint : ℕ) → kept_of id port row.born (mail_at (here id vp sint) f.mail) ≡ count_at port row.born (at v.mail sint)
    counted sint =
        ap (kept_of id port row.born) (rows_there rows f flat id vp sint ∙ ap (λ o. rows_of (here id vp sint) (sint_mail sint o)) (ap (vp_in vp) there ∙ found))
        ∙ counted_box (here id vp sint) port row.born (at v.mail sint)

    -- at every other SINT there is none
    none_else : (sint : ℕ) (m : SintMail) → sint == row.sint ≡ false → get v.mail sint ≡ Some m → count_at port row.born m ≡ 0
    none_else sint m apart at_sint =
        ap (λ o. count_at port row.born (mail_or_none o)) (sym at_sint) ∙ sym (counted sint)
        ∙ none_apart id port row.born (stands_where id row.vp row.sint) (here id vp sint) elsewhere f.mail own
      where
        elsewhere : (m : MailRow) → stands_where id row.vp row.sint m ≡ true → stands_at (here id vp sint) m ≡ false
        elsewhere m stands = grind arith

    -- so the messages of its mailbox are those that are at the port's SINT there
    counted_there : kept_of id port row.born (mail_at (here id vp row.sint) f.mail) ≡ count_of port row.born v.mail
    counted_there = counted row.sint ∙ by (get v.mail row.sint) ∙ sym (sum-one row.sint (count_at port row.born) v.mail none_else)
      where
        by : (o : Option SintMail) → count_at port row.born (mail_or_none o) ≡ worth row.sint (count_at port row.born) o
        by o = grind arith

    -- P23's count of a port that aims at one processor, over the list and over the mailbox
    pub kept_by_one : row.vp ≡ One vp → kept_of id port row.born f.mail ≡ count_of port row.born v.mail
    kept_by_one aim =
        kept_among id port row.born (stands_where id row.vp row.sint) f.mail own
        ∙ ap (λ aim. kept_of id port row.born (filter (stands_where id aim row.sint) f.mail)) aim ∙ counted_there

  -- no message is at a processor that isn't there
  abbrev has_vp : Place → Bool
  has_vp place = not (place.part == id) || is_some (get r.1.vps.vps place.vp)

  nothing_there : (place : Place) → has_vp place ≡ false → mail_at place f.mail ≡ []
  nothing_there place none = rows_there rows f flat place.part place.vp place.sint ∙ ap (λ o. rows_of place (sint_mail place.sint o)) gone
    where
      gone : vp_in place.vp (get rows place.part) ≡ None
      gone = grind (arith, there, none)

  all_fit : (mail : List MailRow) → AllByRecursion (λ m. came_through id port row.born m ≡ true → stands_where id row.vp row.sint m ≡ true) mail → AllByRecursion (λ m. has_vp (place_of m) ≡ true) mail
      → AllByRecursion (Fits id port row.born row.sint (λ v. count_of port row.born v.mail) (entries r.1.vps.vps)) mail
  all_fit [] own all = tt
  all_fit (m ∷ mail) own all = (fits own.0 all.0, all_fit mail own.1 all.1)
    where
      fits : (came_through id port row.born m ≡ true → stands_where id row.vp row.sint m ≡ true) → has_vp (place_of m) ≡ true → Fits id port row.born row.sint (λ v. count_of port row.born v.mail)
          (entries r.1.vps.vps) m
      fits own has came = grind (arith, own came, get-entries r.1.vps.vps m.vp)

  -- and of any port of the partition, over the list and over all mailboxes there
  pub kept_by_any : kept_of id port row.born f.mail ≡ kept_by_all port row.born r.1.vps.vps
  kept_by_any =
      one_by_one id port row.born row.sint (λ v. count_of port row.born v.mail) (entries r.1.vps.vps)
      (distinct_keys nat_cmp (entries r.1.vps.vps) (entries_sorted r.1.vps.vps)) f.mail
      (all_fit f.mail own (each_place has_vp f.mail nothing_there))
      (λ k v at. counted_there k v (get-entries r.1.vps.vps k ∙ at))
