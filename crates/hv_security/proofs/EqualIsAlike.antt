-- What members have the same they have alike.
use Rattle.std.proofs.Common.{◌≡◌, ℕ, ◌==◌, ◌&&◌, Bool, true, false, cond, List, [], ◌∷◌, map, Option, Some, None, refl, ap, ◌∙◌, eqb-true, option_map}
use Rattle.std.proofs.lemmas.Bool.{and_parts}
use Rattle.std.specs.FinMap.{get}
use Rattle.std.specs.Option.{option_map_or}
use Rattle.hv_policy.specs.Flat.{ConnRow, Flat, MailRow, PortRow}
use Rattle.hv_policy.specs.Mail.{mail_at, stands_at}
use Rattle.hv_security.specs.Same.{HasSame, place}
use Rattle.hv_security.specs.Alike.{AreLowEquivalent, is_born, mark, marked, marked_conn, unborn}

module _ (members : ℕ → Bool) (f g : Flat) (same : (id : ℕ) → members id ≡ true → HasSame id f g) where
  born_same : (key : ℕ × ℕ) → members key.0 ≡ true → (born : ℕ) → is_born f key born ≡ is_born g key born
  born_same key own born = ap (λ r. option_map_or (λ (row : PortRow). row.born == born) r false) ((same key.0 own).ports key.1)

  conn_same : (r : Option ConnRow) → option_map (marked_conn members f) r ≡ option_map (marked_conn members g) r
  conn_same None = refl
  conn_same (Some row) = ap Some (at (members row.part) refl)
    where
      at : (b : Bool) → members row.part ≡ b → record row { born = cond b (mark (is_born f (row.part, row.port) row.born)) 0 } ≡ record row
          { born = cond b (mark (is_born g (row.part, row.port) row.born)) 0 }
      at true own = ap (λ b. record row { born = mark b }) (born_same (row.part, row.port) own row.born)
      at false off = refl

  mail_same : (id vp sint : ℕ) → members id ≡ true → (mail : List MailRow) → map (marked f) (mail_at (place id vp sint) mail) ≡ map (marked g) (mail_at (place id vp sint) mail)
  mail_same id vp sint own [] = refl
  mail_same id vp sint own (row ∷ mail) = at (stands_at (place id vp sint) row) refl (mail_same id vp sint own mail)
    where
      here : stands_at (place id vp sint) row ≡ true → members row.part ≡ true
      here is = ap members (eqb-true row.part id (and_parts (row.part == id) ((row.vp == vp) && (row.sint == sint)) is).0) ∙ own

      at : (b : Bool) → stands_at (place id vp sint) row ≡ b → map (marked f) (mail_at (place id vp sint) mail) ≡ map (marked g) (mail_at (place id vp sint) mail)
          → map (marked f) (cond b (row ∷ mail_at (place id vp sint) mail) (mail_at (place id vp sint) mail)) ≡ map (marked g)
          (cond b (row ∷ mail_at (place id vp sint) mail) (mail_at (place id vp sint) mail))
      at true is rest = λ i. record row { born = mark (born_same (row.part, row.port) (here is) row.born i) } ∷ rest i
      at false is rest = rest

  pub alike_of_same : AreLowEquivalent members f g
  alike_of_same id own = record {
    part = (same id own).part;
    pages = (same id own).pages;
    vps = (same id own).vps;
    ports = λ port. ap (option_map unborn) ((same id own).ports port);
    conns = λ connection. conn_same (get f.conn (id, connection)) ∙ ap (option_map (marked_conn members g)) ((same id own).conns connection);
    mail = λ vp sint. mail_same id vp sint own f.mail ∙ ap (map (marked g)) ((same id own).mail vp sint);
  }
