-- What the marks of births become where ports come and go.
use Rattle.std.proofs.Common.{◌≡◌, ℕ, ◌+◌, ◌≤◌, ◌==◌, not, Bool, true, false, cond, List, [], ◌∷◌, map, Option, Some, None, refl, sym, ap, ◌∙◌, arith, ne_eqb, filter, option_map}
use Rattle.std.specs.FinMap.{FinMap, get, insert, remove, get-insert, get-remove}
use Rattle.std.specs.List.{AllByRecursion}
use Rattle.std.specs.Option.{option_map_or}
use Rattle.std.specs.Ordering.{eq_by_cmp}
use Rattle.hv_defs.specs.Flags.{pair_cmp}
use Rattle.hv_policy.proofs.Pairs.{pair_cmp_total}
use Rattle.hv_policy.proofs.Rows.{get-rows_but}
use Rattle.hv_policy.specs.Effect.{rows_but}
use Rattle.hv_policy.specs.Flat.{ConnRow, Flat, MailRow, PortRow}
use Rattle.hv_security.specs.Alike.{is_born, mark, marked, marked_conn}

pub unmarked : (b : Bool) → mark b == 1 ≡ b
unmarked true = refl
unmarked false = refl

-- a test that doesn't look at births keeps the same messages
pub filter_marked : (f : Flat) (keep : MailRow → Bool) → ((m : MailRow) → keep (marked f m) ≡ keep m) → (mail : List MailRow) → filter keep (map (marked f) mail) ≡ map (marked f) (filter keep mail)
filter_marked f keep blind [] = refl
filter_marked f keep blind (m ∷ mail) = (λ i. cond (blind m i) (marked f m ∷ filter_marked f keep blind mail i) (filter_marked f keep blind mail i)) ∙ by (keep m)
  where
    by : (b : Bool) → cond b (marked f m ∷ map (marked f) (filter keep mail)) (map (marked f) (filter keep mail)) ≡ map (marked f) (cond b (m ∷ filter keep mail) (filter keep mail))
    by true = refl
    by false = refl

-- a row with another mark, by its port's key and the mark that it has
abbrev pub remarked : (ℕ × ℕ → Bool → Bool) → MailRow → MailRow
remarked change row = record row { born = mark (change (row.part, row.port) (row.born == 1)) }

abbrev pub remarked_conn : (ℕ → Bool) → (ℕ × ℕ → Bool → Bool) → ConnRow → ConnRow
remarked_conn members change row = record row { born = cond (members row.part) (mark (change (row.part, row.port) (row.born == 1))) 0 }

-- with other ports, which decide of past births by whether they were those of the ports before
module _ (f : Flat) (ports : FinMap pair_cmp PortRow) (change : ℕ × ℕ → Bool → Bool) (is : (key : ℕ × ℕ) (born : ℕ) → born ≤ f.served → is_born (record f { port = ports }) key born ≡ change key
    (is_born f key born)) where
  abbrev now : Flat
  now = record f { port = ports }

  one_remarked : (row : MailRow) → row.born ≤ f.served → marked now row ≡ remarked change (marked f row)
  one_remarked row past =
      ap (λ b. record row { born = mark b })
      (is (row.part, row.port) row.born past ∙ ap (change (row.part, row.port)) (sym (unmarked (is_born f (row.part, row.port) row.born))))

  pub all_remarked : (keep : MailRow → Bool) (mail : List MailRow) → AllByRecursion (λ row. row.born ≤ f.served) mail → map (marked now) (filter keep mail) ≡ map (remarked change)
      (map (marked f) (filter keep mail))
  all_remarked keep [] h = refl
  all_remarked keep (row ∷ mail) h = by (keep row) (all_remarked keep mail h.1)
    where
      by : (b : Bool) → map (marked now) (filter keep mail) ≡ map (remarked change) (map (marked f) (filter keep mail)) → map (marked now) (cond b (row ∷ filter keep mail) (filter keep mail)) ≡ map
          (remarked change) (map (marked f) (cond b (row ∷ filter keep mail) (filter keep mail)))
      by true rest = λ i. one_remarked row h.0 i ∷ rest i
      by false rest = rest

  module _ (members : ℕ → Bool) where
    conn_remarked : (row : ConnRow) → row.born ≤ f.served → marked_conn members now row ≡ remarked_conn members change (marked_conn members f row)
    conn_remarked row past = by (members row.part)
      where
        by : (b : Bool) → record row { born = cond b (mark (is_born now (row.part, row.port) row.born)) 0 } ≡ record row
            { born = cond b (mark (change (row.part, row.port) (cond b (mark (is_born f (row.part, row.port) row.born)) 0 == 1))) 0 }
        by true =
            ap (λ b. record row { born = mark b })
            (is (row.part, row.port) row.born past ∙ ap (change (row.part, row.port)) (sym (unmarked (is_born f (row.part, row.port) row.born))))
        by false = refl

    pub conns_remarked : (r : Option ConnRow) → ((row : ConnRow) → r ≡ Some row → row.born ≤ f.served) → option_map (marked_conn members now) r ≡ option_map (remarked_conn members change)
        (option_map (marked_conn members f) r)
    conns_remarked None past = refl
    conns_remarked (Some row) past = ap Some (conn_remarked row (past row refl))

-- a port is made, and its birth is later than those before
pub made_born : (f : Flat) (at : ℕ × ℕ) (row : PortRow) → row.born ≡ f.served + 1 → (key : ℕ × ℕ) (born : ℕ) → born ≤ f.served
    → is_born (record f { port = insert f.port at row }) key born ≡ cond (eq_by_cmp pair_cmp key at) false (is_born f key born)
made_born f at row new key born past =
    ap (λ r. option_map_or (λ (row : PortRow). row.born == born) r false) (get-insert pair_cmp_total f.port at row key) ∙ by (eq_by_cmp pair_cmp key at)
  where
    by : (b : Bool) → option_map_or (λ (row : PortRow). row.born == born) (cond b (Some row) (get f.port key)) false ≡ cond b false (is_born f key born)
    by true = ne_eqb row.born born (λ same. omega (arith, same, new, past))
    by false = refl

-- one is deleted, and those of a partition are
pub deleted_born : (f : Flat) (at : ℕ × ℕ) (key : ℕ × ℕ) (born : ℕ) → born ≤ f.served
    → is_born (record f { port = remove f.port at }) key born ≡ cond (eq_by_cmp pair_cmp key at) false (is_born f key born)
deleted_born f at key born past =
    ap (λ r. option_map_or (λ (row : PortRow). row.born == born) r false) (get-remove pair_cmp_total f.port at key) ∙ by (eq_by_cmp pair_cmp key at)
  where
    by : (b : Bool) → option_map_or (λ (row : PortRow). row.born == born) (cond b None (get f.port key)) false ≡ cond b false (is_born f key born)
    by true = refl
    by false = refl

pub ended_born : (f : Flat) (target : ℕ) (key : ℕ × ℕ) (born : ℕ) → born ≤ f.served
    → is_born (record f { port = rows_but target f.port }) key born ≡ cond (not (key.0 == target)) (is_born f key born) false
ended_born f target key born past =
    ap (λ r. option_map_or (λ (row : PortRow). row.born == born) r false) (get-rows_but f.port target key) ∙ by (not (key.0 == target))
  where
    by : (b : Bool) → option_map_or (λ (row : PortRow). row.born == born) (cond b (get f.port key) None) false ≡ cond b (is_born f key born) false
    by true = refl
    by false = refl
