-- Messages that are shown, go or are posted alike in two states stay alike.
use Rattle.std.proofs.Common.{◌≡◌, ℕ, zero, suc, ◌==◌, ◌&&◌, ◌||◌, not, Bool, true, false, cond, List, [], ◌∷◌, ◌++◌, map, Option, Some, None, refl, sym, ap, subst, ◌∙◌, filter}
use Rattle.std.proofs.lemmas.List.{map-append}
use Rattle.std.specs.FinMap.{FinMap, get}
use Rattle.std.specs.List.{list_any}
use Rattle.std.specs.Option.{option_map_or}
use Rattle.hv_defs.specs.Flags.{pair_cmp}
use Rattle.hv_defs.specs.declared.registers.TheConstants.{EOM}
use Rattle.hv_defs.specs.declared.sizes.TheConstants.{SINTS}
use Rattle.hv_policy.proofs.Places.{cleared_apart, cleared_there, head_shown, is_place, is_place_true, last_there, next_apart, next_rows, next_there}
use Rattle.hv_policy.specs.Aim.{is_ready_for_messages, on_vp}
use Rattle.hv_policy.specs.Effect.{end_if, post, row_raised, show, show_each, with_vp, write_msr, write_register, written}
use Rattle.hv_policy.specs.Flat.{Flat, MailRow, VpRow}
use Rattle.hv_policy.specs.Mail.{Place, cleared, has_next, is_shown, is_some_row, mail_at, place_of, shown_next, stands_at}
use Rattle.hv_security.specs.Same.{place}
use Rattle.hv_security.specs.Alike.{AreLowEquivalent, marked}
use Rattle.hv_security.proofs.BirthMarks.{filter_marked}
use Rattle.hv_security.proofs.AlikeRows.{vp_alike}

-- marks don't tell what is shown
module _ (f : Flat) where
  any_shown : (rows : List MailRow) → list_any is_shown (map (marked f) rows) ≡ list_any is_shown rows
  any_shown [] = refl
  any_shown (row ∷ rows) = ap (λ b. row.shown || b) (any_shown rows)

  some_row : (rows : List MailRow) → is_some_row (map (marked f) rows) ≡ is_some_row rows
  some_row [] = refl
  some_row (row ∷ rows) = refl

  head_marked : (rows : List MailRow) → map (marked f) (head_shown rows) ≡ head_shown (map (marked f) rows)
  head_marked [] = refl
  head_marked (row ∷ rows) = refl

  pub next_marked : (rows : List MailRow) → map (marked f) (next_rows rows) ≡ next_rows (map (marked f) rows)
  next_marked rows = by (list_any is_shown rows) ∙ ap (λ b. cond b (map (marked f) rows) (head_shown (map (marked f) rows))) (sym (any_shown rows))
    where
      by : (b : Bool) → map (marked f) (cond b rows (head_shown rows)) ≡ cond b (map (marked f) rows) (head_shown (map (marked f) rows))
      by true = refl
      by false = head_marked rows

  abbrev waits : List MailRow → Bool
  waits rows = not (list_any is_shown rows) && is_some_row rows

  pub next_waits : (rows : List MailRow) → waits rows ≡ waits (map (marked f) rows)
  next_waits rows = λ i. not (sym (any_shown rows) i) && sym (some_row rows) i

module _ (members : ℕ → Bool) where
  -- processors and messages alone change
  pub staff_changed : (f g : Flat) → AreLowEquivalent members f g → (vps others : FinMap pair_cmp VpRow) (mail rest : List MailRow)
      → ((id : ℕ) → members id ≡ true → (vp : ℕ) → get vps (id, vp) ≡ get others (id, vp))
      → ((id : ℕ) → members id ≡ true → (vp sint : ℕ) → map (marked f) (mail_at (place id vp sint) mail) ≡ map (marked g) (mail_at (place id vp sint) rest))
      → AreLowEquivalent members (record f { vp = vps; mail = mail }) (record g { vp = others; mail = rest })
  staff_changed f g a vps others mail rest same mails id own = record {
    part = (a id own).part;
    pages = (a id own).pages;
    vps = same id own;
    ports = (a id own).ports;
    conns = (a id own).conns;
    mail = mails id own;
  }

  -- Show at a place of a member
  pub shown_alike : (at : Place) → members at.part ≡ true → (f g : Flat) → AreLowEquivalent members f g → AreLowEquivalent members (show at f) (show at g)
  shown_alike at member f g a = staff_changed f g a (show at f).vp (show at g).vp (shown_next at f.mail) (shown_next at g.mail)
      (λ id own vp. vp_alike f.vp g.vp (id, vp) ((a id own).vps vp) (at.part, at.vp) (row_raised (has_next at f.mail) at.sint) (row_raised (has_next at g.mail) at.sint)
      (ap (λ b. row_raised b at.sint) has))
      (λ id own vp sint. mails id own vp sint (is_place at (place id vp sint)) refl)
    where
      there : map (marked f) (mail_at at f.mail) ≡ map (marked g) (mail_at at g.mail)
      there = (a at.part member).mail at.vp at.sint

      has : has_next at f.mail ≡ has_next at g.mail
      has = next_waits f (mail_at at f.mail) ∙ ap (λ rows. not (list_any is_shown rows) && is_some_row rows) there ∙ sym (next_waits g (mail_at at g.mail))

      mails : (id : ℕ) → members id ≡ true → (vp sint : ℕ) (b : Bool) → is_place at (place id vp sint) ≡ b → map (marked f) (mail_at (place id vp sint) (shown_next at f.mail)) ≡ map (marked g)
          (mail_at (place id vp sint) (shown_next at g.mail))
      mails id own vp sint true is =
          subst (λ p. map (marked f) (mail_at p (shown_next at f.mail)) ≡ map (marked g) (mail_at p (shown_next at g.mail))) (sym (is_place_true at (place id vp sint) is))
          (ap (map (marked f)) (next_there at f.mail) ∙ next_marked f (mail_at at f.mail) ∙ ap next_rows there
          ∙ sym (next_marked g (mail_at at g.mail)) ∙ sym (ap (map (marked g)) (next_there at g.mail)))
      mails id own vp sint false is =
          ap (map (marked f)) (next_apart (place id vp sint) at is f.mail) ∙ (a id own).mail vp sint
          ∙ sym (ap (map (marked g)) (next_apart (place id vp sint) at is g.mail))

  each_alike : (part vp n : ℕ) → members part ≡ true → (f g : Flat) → AreLowEquivalent members f g → AreLowEquivalent members (show_each part vp n f) (show_each part vp n g)
  unfolding show_each
  each_alike part vp zero member f g a = a
  each_alike part vp (suc sint) member f g a = shown_alike (record { part = part; vp = vp; sint = sint }) member (show_each part vp sint f) (show_each part vp sint g)
      (each_alike part vp sint member f g a)

  end_alike : (is : Bool) (part vp : ℕ) → members part ≡ true → (f g : Flat) → AreLowEquivalent members f g → AreLowEquivalent members (end_if is part vp f) (end_if is part vp g)
  end_alike false part vp member f g a = a
  end_alike true part vp member f g a =
      subst (λ b. AreLowEquivalent members (end_if true part vp f) (cond b (show_each part vp SINTS g) g)) (ap (λ row. option_map_or is_ready_for_messages row false) ((a part member).vps vp))
      (by (on_vp f (part, vp) is_ready_for_messages))
    where
      by : (b : Bool) → AreLowEquivalent members (cond b (show_each part vp SINTS f) f) (cond b (show_each part vp SINTS g) g)
      by true = each_alike part vp SINTS member f g a
      by false = a

  -- a processor changes
  pub staff_alike : (key : ℕ × ℕ) (h : VpRow → VpRow) (f g : Flat) → AreLowEquivalent members f g → AreLowEquivalent members (record f { vp = with_vp f.vp key h })
      (record g { vp = with_vp g.vp key h })
  staff_alike key h f g a =
      staff_changed f g a (with_vp f.vp key h) (with_vp g.vp key h) f.mail g.mail (λ id own vp. vp_alike f.vp g.vp (id, vp) ((a id own).vps vp) key h h refl) (λ id own. (a id own).mail)

  pub register_alike : (part vp name value : ℕ) → members part ≡ true → (f g : Flat) → AreLowEquivalent members f g → AreLowEquivalent members (write_register part vp name value f)
      (write_register part vp name value g)
  register_alike part vp name value member f g a =
      end_alike (name == EOM) part vp member (record f { vp = with_vp f.vp (part, vp) (written name value) }) (record g { vp = with_vp g.vp (part, vp) (written name value) })
      (staff_alike (part, vp) (written name value) f g a)

  pub msr_alike : (part vp : ℕ) (name : Option ℕ) (value : ℕ) → members part ≡ true → (f g : Flat) → AreLowEquivalent members f g → AreLowEquivalent members (write_msr part vp name value f)
      (write_msr part vp name value g)
  msr_alike part vp None value member f g a = a
  msr_alike part vp (Some name) value member f g a = register_alike part vp name value member f g a

  -- the shown message of a place goes
  pub cleared_alike : (at : Place) → (f g : Flat) → AreLowEquivalent members f g → AreLowEquivalent members (record f { mail = cleared at f.mail }) (record g { mail = cleared at g.mail })
  cleared_alike at f g a =
      staff_changed f g a f.vp g.vp (cleared at f.mail) (cleared at g.mail) (λ id own. (a id own).vps) (λ id own vp sint. mails id own vp sint (is_place at (place id vp sint)) refl)
    where
      mails : (id : ℕ) → members id ≡ true → (vp sint : ℕ) (b : Bool) → is_place at (place id vp sint) ≡ b → map (marked f) (mail_at (place id vp sint) (cleared at f.mail)) ≡ map (marked g)
          (mail_at (place id vp sint) (cleared at g.mail))
      mails id own vp sint true is =
          let here = is_place_true at (place id vp sint) is in
          let left = (λ (h : Flat). ap (λ p. map (marked h) (mail_at (place id vp sint) (cleared p h.mail))) (sym here) ∙ ap (map (marked h)) (cleared_there (place id vp sint) h.mail) ∙ sym
          (filter_marked h (λ row. not row.shown) (λ m. refl) (mail_at (place id vp sint) h.mail))) in
          left f ∙ ap (filter (λ row. not row.shown)) ((a id own).mail vp sint) ∙ sym (left g)
      mails id own vp sint false is =
          ap (map (marked f)) (cleared_apart (place id vp sint) at is f.mail) ∙ (a id own).mail vp sint
          ∙ sym (ap (map (marked g)) (cleared_apart (place id vp sint) at is g.mail))

  -- a message is posted at a place of a member
  pub posted_alike : (row other : MailRow) → (f g : Flat) → place_of row ≡ place_of other → marked f row ≡ marked g other → members row.part ≡ true → AreLowEquivalent members f g → AreLowEquivalent
      members (post row f) (post other g)
  posted_alike row other f g same marks member a =
      subst (λ at. AreLowEquivalent members (post row f) (show at (record g { mail = g.mail ++ other ∷ [] }))) same
      (shown_alike (place_of row) member (record f { mail = f.mail ++ row ∷ [] }) (record g { mail = g.mail ++ other ∷ [] }) last)
    where
      one : (b : Bool) → map (marked f) (cond b (row ∷ []) []) ≡ map (marked g) (cond b (other ∷ []) [])
      one true = λ i. marks i ∷ []
      one false = refl

      mails : (at : Place) → map (marked f) (mail_at at f.mail) ≡ map (marked g) (mail_at at g.mail) → map (marked f) (mail_at at (f.mail ++ row ∷ [])) ≡ map (marked g)
          (mail_at at (g.mail ++ other ∷ []))
      mails at alike =
          ap (map (marked f)) (last_there at f.mail row (stands_at at row) refl) ∙ map-append (marked f) (mail_at at f.mail) (cond (stands_at at row) (row ∷ []) [])
          ∙ (λ i. alike i ++ one (stands_at at row) i)
          ∙ sym (ap (map (marked g)) (last_there at g.mail other (stands_at at row) (ap (λ (p : Place). (p.part == at.part) && ((p.vp == at.vp) && (p.sint == at.sint))) (sym same))) ∙ map-append
          (marked g) (mail_at at g.mail) (cond (stands_at at row) (other ∷ []) []))

      last : AreLowEquivalent members (record f { mail = f.mail ++ row ∷ [] }) (record g { mail = g.mail ++ other ∷ [] })
      last = staff_changed f g a f.vp g.vp (f.mail ++ row ∷ []) (g.mail ++ other ∷ []) (λ id own. (a id own).vps) (λ id own vp sint. mails (place id vp sint) ((a id own).mail vp sint))
