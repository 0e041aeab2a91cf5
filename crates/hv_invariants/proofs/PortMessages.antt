-- What holds of the ports and of the messages that came through them, once either changes.
use Rattle.std.proofs.Common.{◌≡◌, ℕ, ◌+◌, ◌==◌, ◌&&◌, ◌||◌, not, nat_le, Bool, true, false, cond, List, [], ◌∷◌, ◌++◌, Option, Some, None, refl, sym, ap, subst, ◌∙◌, arith, eq-eqb, eqb-true, le-leb}
use Rattle.std.proofs.Common.{leb-true, ne_eqb, filter}
use Rattle.std.proofs.lemmas.Bool.{and_from, and_parts}
use Rattle.std.specs.FinMap.{FinMap, get, insert, remove, get-insert, get-remove}
use Rattle.std.specs.List.{AllByRecursion, list_any}
use Rattle.std.specs.Ordering.{eq_by_cmp}
use Rattle.hv_defs.specs.Flags.{pair_cmp}
use Rattle.hv_policy.proofs.Pairs.{pair_cmp_total}
use Rattle.hv_policy.proofs.Rows.{get-rows_but}
use Rattle.hv_policy.proofs.SameMail.{kept_among}
use Rattle.hv_policy.specs.Aim.{aims_at}
use Rattle.hv_policy.specs.Effect.{rows_but}
use Rattle.hv_policy.specs.Flat.{Flat, MailRow, PortRow}
use Rattle.hv_policy.specs.Mail.{Place, as_shown, came_through, is_shown, kept_of, mail_at, shown_next, stands_at, with_first_shown}
use Rattle.hv_invariants.specs.StateInvariant.{StateInvariant, IsPort, is_aimed, mail_where, stands_where}

-- whether a message's birth is past, and it stands where its port aims
abbrev pub is_placed_by : ℕ → FinMap pair_cmp PortRow → MailRow → Bool
is_placed_by served ports row = nat_le row.born served && is_aimed row (get ports (row.part, row.port))

-- what a lawful state with these ports and messages has of them
pub record AreMailed (served : ℕ) (held : FinMap pair_cmp PortRow) (mail : List MailRow) : Type 0 where
  pub ports : (key : ℕ × ℕ) (port : PortRow) → get held key ≡ Some port → IsPort served port
  pub placed : AllByRecursion (λ row. is_placed_by served held row ≡ true) mail

pub mailed_of : (pages : ℕ) (f : Flat) → StateInvariant pages f → AreMailed f.served f.port f.mail
mailed_of pages f l = record { ports = l.ports; placed = l.placed }

all_also : (P Q : MailRow → Type 0) → ((row : MailRow) → P row → Q row) → (mail : List MailRow) → AllByRecursion P mail → AllByRecursion Q mail
all_also P Q h [] all = tt
all_also P Q h (row ∷ mail) all = (h row all.0, all_also P Q h mail all.1)

all_left : (p keep : MailRow → Bool) (mail : List MailRow) → AllByRecursion (λ row. p row ≡ true) mail → AllByRecursion (λ row. p row ≡ true) (filter keep mail)
all_left p keep [] all = tt
all_left p keep (row ∷ mail) all = by (keep row) (all_left p keep mail all.1)
  where
    by : (b : Bool) → AllByRecursion (λ row. p row ≡ true) (filter keep mail) → AllByRecursion (λ row. p row ≡ true) (cond b (row ∷ filter keep mail) (filter keep mail))
    by true rest = (all.0, rest)
    by false rest = rest

all_last : (p : MailRow → Bool) (mail : List MailRow) (row : MailRow) → AllByRecursion (λ row. p row ≡ true) mail → p row ≡ true → AllByRecursion (λ row. p row ≡ true) (mail ++ row ∷ [])
all_last p [] row all is = (is, tt)
all_last p (first ∷ mail) row all is = (all.0, all_last p mail row all.1 is)

module _ (served : ℕ) (ports : FinMap pair_cmp PortRow) where
  -- messages that pass a test stay, or one more comes
  pub mail_left : (keep : MailRow → Bool) (mail : List MailRow) → AreMailed served ports mail → AreMailed served ports (filter keep mail)
  mail_left keep mail are = record { ports = are.ports; placed = all_left (is_placed_by served ports) keep mail are.placed }

  pub mail_last : (row : MailRow) (mail : List MailRow) → is_placed_by served ports row ≡ true → AreMailed served ports mail → AreMailed served ports (mail ++ row ∷ [])
  mail_last row mail is are = record { ports = are.ports; placed = all_last (is_placed_by served ports) mail row are.placed is }

  first_placed : (place : Place) (mail : List MailRow) → AllByRecursion (λ row. is_placed_by served ports row ≡ true) mail → AllByRecursion (λ row. is_placed_by served ports row ≡ true)
      (with_first_shown place mail)
  first_placed place [] all = tt
  first_placed place (row ∷ mail) all = by (stands_at place row) (first_placed place mail all.1)
    where
      by : (b : Bool) → AllByRecursion (λ row. is_placed_by served ports row ≡ true) (with_first_shown place mail) → AllByRecursion (λ row. is_placed_by served ports row ≡ true)
          (cond b (as_shown row ∷ mail) (row ∷ with_first_shown place mail))
      by true rest = (all.0, all.1)
      by false rest = (all.0, rest)

  -- Show moves none
  pub mail_shown : (place : Place) (mail : List MailRow) → AreMailed served ports mail → AreMailed served ports (shown_next place mail)
  mail_shown place mail are = by (list_any is_shown (mail_at place mail))
    where
      by : (b : Bool) → AreMailed served ports (cond b mail (with_first_shown place mail))
      by true = are
      by false = record { ports = are.ports; placed = first_placed place mail are.placed }

  -- one more served event
  pub mail_counted : (mail : List MailRow) → AreMailed served ports mail → AreMailed (served + 1) ports mail
  mail_counted mail are = record {
    ports = λ key port is. (let old = are.ports key port is in let born = old.born in record { sint = old.sint; flags = old.flags; born = omega arith });
    placed = all_also (λ row. is_placed_by served ports row ≡ true) (λ row. is_placed_by (served + 1) ports row ≡ true) later mail are.placed;
  }
    where
      later : (row : MailRow) → is_placed_by served ports row ≡ true → is_placed_by (served + 1) ports row ≡ true
      later row h =
          let parts = and_parts (nat_le row.born served) (is_aimed row (get ports (row.part, row.port))) h in
          let past = leb-true row.born served parts.0 in
          and_from _ _ (le-leb row.born (served + 1) (omega arith)) parts.1

  -- ports go: a message whose port is gone may stand anywhere
  module _ (left : FinMap pair_cmp PortRow) (gone : ℕ × ℕ → Bool) (at : (key : ℕ × ℕ) → get left key ≡ cond (gone key) None (get ports key)) where
    pub ports_left : (mail : List MailRow) → AreMailed served ports mail → AreMailed served left mail
    ports_left mail are = record {
      ports = λ key port is. kept key port (gone key) (sym (at key) ∙ is);
      placed = all_also (λ row. is_placed_by served ports row ≡ true) (λ row. is_placed_by served left row ≡ true) still mail are.placed;
    }
      where
        kept : (key : ℕ × ℕ) (port : PortRow) (b : Bool) → cond b None (get ports key) ≡ Some port → IsPort served port
        kept key port true is = cc
        kept key port false is = are.ports key port is

        aimed : (row : MailRow) (b : Bool) → is_aimed row (get ports (row.part, row.port)) ≡ true → is_aimed row (cond b None (get ports (row.part, row.port))) ≡ true
        aimed row true h = refl
        aimed row false h = h

        still : (row : MailRow) → is_placed_by served ports row ≡ true → is_placed_by served left row ≡ true
        still row h =
            let parts = and_parts (nat_le row.born served) (is_aimed row (get ports (row.part, row.port))) h in
            and_from _ _ parts.0 (ap (is_aimed row) (at (row.part, row.port)) ∙ aimed row (gone (row.part, row.port)) parts.1)

  pub port_left : (key : ℕ × ℕ) (mail : List MailRow) → AreMailed served ports mail → AreMailed served (remove ports key) mail
  port_left key = ports_left (remove ports key) (λ q. eq_by_cmp pair_cmp q key) (get-remove pair_cmp_total ports key)

  pub ports_but : (id : ℕ) (mail : List MailRow) → AreMailed served ports mail → AreMailed served (rows_but id ports) mail
  ports_but id = ports_left (rows_but id ports) (λ key. key.0 == id) (λ key. get-rows_but ports id key ∙ turned (key.0 == id) (get ports key))
    where
      turned : (b : Bool) (port : Option PortRow) → cond (not b) port None ≡ cond b None port
      turned true port = refl
      turned false port = refl

  -- a port comes with the next event: no message has its birth
  pub port_more : (key : ℕ × ℕ) (port : PortRow) → port.born ≡ served + 1 → IsPort (served + 1) port → (mail : List MailRow) → AreMailed served ports mail → AreMailed (served + 1)
      (insert ports key port) mail
  port_more key port born good mail are = record {
    ports = λ q other is. one q other (eq_by_cmp pair_cmp q key) (sym (get-insert pair_cmp_total ports key port q) ∙ is);
    placed = all_also (λ row. is_placed_by served ports row ≡ true) (λ row. is_placed_by (served + 1) (insert ports key port) row ≡ true) still mail are.placed;
  }
    where
      one : (q : ℕ × ℕ) (other : PortRow) (b : Bool) → cond b (Some port) (get ports q) ≡ Some other → IsPort (served + 1) other
      one q other true is = let same : port ≡ other = cc in subst (IsPort (served + 1)) same good
      one q other false is = (mail_counted mail are).ports q other is

      aimed : (row : MailRow) (b : Bool) → port.born == row.born ≡ false → is_aimed row (get ports (row.part, row.port)) ≡ true → is_aimed row (cond b (Some port) (get ports (row.part, row.port))) ≡
          true
      aimed row true apart h = ap (λ b. not b || (aims_at port.vp row.vp && (row.sint == port.sint))) apart
      aimed row false apart h = h

      still : (row : MailRow) → is_placed_by served ports row ≡ true → is_placed_by (served + 1) (insert ports key port) row ≡ true
      still row h =
          let parts = and_parts (nat_le row.born served) (is_aimed row (get ports (row.part, row.port))) h in
          let past = leb-true row.born served parts.0 in
          let apart : port.born == row.born ≡ false = ne_eqb port.born row.born (λ same. omega (arith, same, born, past)) in
          and_from _ _ (le-leb row.born (served + 1) (omega arith))
          (ap (is_aimed row) (get-insert pair_cmp_total ports key port (row.part, row.port)) ∙ aimed row (eq_by_cmp pair_cmp (row.part, row.port) key) apart parts.1)

-- the messages of a port that is there are counted where it aims
pub kept_where_aimed : (pages : ℕ) (f : Flat) → StateInvariant pages f → (part port born : ℕ) (row : PortRow) → get f.port (part, port) ≡ Some row → row.born ≡ born → kept_of part port born f.mail ≡
    kept_of part port born (mail_where part row.vp row.sint f.mail)
kept_where_aimed pages f l part port born row there same =
    kept_among part port born (stands_where part row.vp row.sint) f.mail
    (all_also (λ m. is_placed_by f.served f.port m ≡ true) (λ m. came_through part port born m ≡ true → stands_where part row.vp row.sint m ≡ true) stands f.mail l.placed)
  where
    unless : (b : Bool) (rest : Bool) → b ≡ true → (not b || rest) ≡ true → rest ≡ true
    unless true rest is h = h
    unless false rest is h = cc

    stands : (m : MailRow) → is_placed_by f.served f.port m ≡ true → came_through part port born m ≡ true → stands_where part row.vp row.sint m ≡ true
    stands m is came =
        let first = and_parts (m.part == part) ((m.port == port) && (m.born == born)) came in
        let second = and_parts (m.port == port) (m.born == born) first.1 in
        let found : get f.port (m.part, m.port) ≡ Some row = (λ i. get f.port (eqb-true m.part part first.0 i, eqb-true m.port port second.0 i)) ∙ there in
        let aimed : is_aimed m (Some row) ≡ true = sym (ap (is_aimed m) found) ∙ (and_parts (nat_le m.born f.served) (is_aimed m (get f.port (m.part, m.port))) is).1 in
        let its : row.born == m.born ≡ true = eq-eqb row.born m.born (same ∙ sym (eqb-true m.born born second.1)) in
        and_from _ _ first.0 (unless (row.born == m.born) (aims_at row.vp m.vp && (m.sint == row.sint)) its aimed)
