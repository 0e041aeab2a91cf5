-- The end of a connection that leads to a member is alike.
use Rattle.std.proofs.Common.{◌≡◌, ℕ, ◌+◌, ◌==◌, ◌&&◌, nat_lt, Bool, true, false, cond, List, [], ◌∷◌, map, Option, Some, None, is_some, refl, sym, ap, ◌∙◌, eq-eqb, eqb-true, ne_eqb, filter}
use Rattle.std.proofs.Common.{option_map}
use Rattle.std.proofs.lemmas.Bool.{and_parts, eqb-false}
use Rattle.std.proofs.lemmas.List.Sums.{sum_by-cons}
use Rattle.std.specs.FinMap.{get}
use Rattle.std.specs.List.{AllByRecursion}
use Rattle.std.specs.Option.{option_map_or}
use Rattle.hv_defs.specs.declared.aim.Aim.{Aim}
use Rattle.hv_defs.specs.declared.aim.Aim.TheVariants.{One, Any}
use Rattle.hv_defs.specs.declared.sizes.TheConstants.{MAX_MESSAGES}
use Rattle.hv_policy.proofs.Filters.{filter_gone}
use Rattle.hv_policy.proofs.Places.{left_there}
use Rattle.hv_policy.proofs.SameMail.{kept_among, kept_same}
use Rattle.hv_policy.specs.Aim.{ResolvedPort, aim_by, aim_with, has_target, is_ready_for_flags, is_ready_for_messages, is_same_birth, on_aim, select_vp}
use Rattle.hv_policy.specs.Flat.{ConnRow, Flat, MailRow, PortRow, VpRow}
use Rattle.hv_policy.specs.Mail.{came_through, kept_of, mail_at, stands_at}
use Rattle.hv_policy.specs.Met.{has_flag, has_flag_taker, has_message_room, has_message_taker, is_aimed_at_vp, is_for_messages, is_kind}
use Rattle.hv_policy.specs.Same.{IsSameMail}
use Rattle.hv_defs.specs.declared.port_kind.PortKind.TheVariants.{Message, Event}
use Rattle.hv_security.specs.Alike.{AreLowEquivalent, is_born, mark, marked, unborn}
use Rattle.hv_security.specs.Looks.{PostEndsAlike, SignalEndsAlike}
use Rattle.hv_security.proofs.BirthMarks.{filter_marked, unmarked}
use Rattle.hv_security.proofs.Sends.{seen_alike, taker_same}

-- two states agree on all that a post or a signal reads of the end of a connection
pub record EndIsAlike (key : ℕ × ℕ) (f g : Flat) : Type 0 where
  pub stands : on_aim f key is_same_birth ≡ on_aim g key is_same_birth
  pub aimed : on_aim f key (is_aimed_at_vp f) ≡ on_aim g key (is_aimed_at_vp g)
  pub for_messages : on_aim f key is_for_messages ≡ on_aim g key is_for_messages
  pub flags : (flag : ℕ) → on_aim f key (has_flag flag) ≡ on_aim g key (has_flag flag)
  pub message_taker : on_aim f key (has_message_taker f) ≡ on_aim g key (has_message_taker g)
  pub flag_taker : on_aim f key (has_flag_taker f) ≡ on_aim g key (has_flag_taker g)
  pub room : on_aim f key is_same_birth ≡ true → on_aim f key (has_message_room f) ≡ on_aim g key (has_message_room g)

pub for_post : (key : ℕ × ℕ) (f g : Flat) → EndIsAlike key f g → PostEndsAlike key f g
for_post key f g e = (e.stands, λ standing. (e.aimed, λ aimed. (e.for_messages, λ takes. (e.message_taker, λ ready. (e.room standing, λ room. tt)))))

pub for_signal : (flag : ℕ) (key : ℕ × ℕ) (f g : Flat) → EndIsAlike key f g → SignalEndsAlike flag key f g
for_signal flag key f g e = (e.stands, λ standing. (e.aimed, λ aimed. (e.flags flag, λ takes. (e.flag_taker, λ ready. tt))))

-- a test of where a connection leads, which fails where it leads nowhere
abbrev test_aim : (ResolvedPort → Bool) → Option ResolvedPort → Bool
test_aim test aim = option_map_or test aim false

-- messages of the port that is there are those with its mark
module _ (f : Flat) (part port : ℕ) (row : PortRow) (there : get f.port (part, port) ≡ Some row) where
  turned : (a b : ℕ) → a == b ≡ b == a
  turned a b = by (b == a) refl
    where
      by : (t : Bool) → b == a ≡ t → a == b ≡ t
      by true is = eq-eqb a b (sym (eqb-true b a is))
      by false is = ne_eqb a b (λ same. eqb-false b a is (sym same))

  one : (m : MailRow) → came_through part port row.born m ≡ came_through part port 1 (marked f m)
  one m = by (m.part == part) (m.port == port) refl refl
    where
      here : m.part ≡ part → m.port ≡ port → is_born f (m.part, m.port) m.born ≡ m.born == row.born
      here p q =
          ap (λ r. option_map_or (λ (row : PortRow). row.born == m.born) r false) ((λ i. get f.port (p i, q i)) ∙ there) ∙ turned row.born m.born

      by : (a b : Bool) → m.part == part ≡ a → m.port == port ≡ b → a && (b && (m.born == row.born)) ≡ a && (b && (mark (is_born f (m.part, m.port) m.born) == 1))
      by true true s t = sym (unmarked (is_born f (m.part, m.port) m.born) ∙ here (eqb-true m.part part s) (eqb-true m.port port t))
      by true false s t = refl
      by false b s t = refl

  counted : (mail : List MailRow) → kept_of part port row.born mail ≡ kept_of part port 1 (map (marked f) mail)
  counted [] = refl
  counted (m ∷ mail) =
      sum_by-cons (λ r. cond (came_through part port row.born r) 1 0) m mail ∙ (λ i. cond (one m i) 1 0 + counted mail i)
      ∙ sym (sum_by-cons (λ r. cond (came_through part port 1 r) 1 0) (marked f m) (map (marked f) mail))

  all_own : (mail : List MailRow) → AllByRecursion (λ m. came_through part port 1 m ≡ true → (m.part == part) ≡ true) mail
  all_own [] = tt
  all_own (m ∷ mail) = ((λ is. (and_parts (m.part == part) ((m.port == port) && (m.born == 1)) is).0), all_own mail)

  pub kept_marked : kept_of part port row.born f.mail ≡ kept_of part port 1 (filter (λ m. m.part == part) (map (marked f) f.mail))
  kept_marked = counted f.mail ∙ kept_among part port 1 (λ m. m.part == part) (map (marked f) f.mail) (all_own (map (marked f) f.mail))

module _ (members : ℕ → Bool) (f g : Flat) (a : AreLowEquivalent members f g) where
  -- a member's messages, in two states
  same_own : (part : ℕ) → members part ≡ true → IsSameMail (filter (λ m. m.part == part) (map (marked f) f.mail)) (filter (λ m. m.part == part) (map (marked g) g.mail))
  same_own part own at = left_there (λ m. m.part == part) at (map (marked f) f.mail) ∙ by (at.part == part) refl ∙ sym (left_there (λ m. m.part == part) at (map (marked g) g.mail))
    where
      none : at.part == part ≡ false → (mail : List MailRow) → filter (λ m. m.part == part) (mail_at at mail) ≡ []
      none off mail = filter_gone (λ m. m.part == part) (stands_at at) (λ m is. elsewhere m (eqb-true m.part part is)) mail
        where
          elsewhere : (m : MailRow) → m.part ≡ part → stands_at at m ≡ false
          elsewhere m is = ap (λ b. b && ((m.vp == at.vp) && (m.sint == at.sint))) (ne_eqb m.part at.part (λ same. eqb-false at.part part off (sym same ∙ is)))

      by : (b : Bool) → at.part == part ≡ b → filter (λ m. m.part == part) (mail_at at (map (marked f) f.mail)) ≡ filter (λ m. m.part == part) (mail_at at (map (marked g) g.mail))
      by true is =
          ap (filter (λ m. m.part == part))
          (filter_marked f (stands_at at) (λ m. refl) f.mail ∙ (a at.part (ap members (eqb-true at.part part is) ∙ own)).mail at.vp at.sint ∙ sym (filter_marked g (stands_at at) (λ m. refl) g.mail))
      by false off = none off (map (marked f) f.mail) ∙ sym (none off (map (marked g) g.mail))

  module _ (key : ℕ × ℕ) (conn other : ConnRow) (part : other.part ≡ conn.part) (port : other.port ≡ conn.port) (is : get f.conn key ≡ Some conn) (is_too : get g.conn key ≡ Some other)
      (own : members conn.part ≡ true)
      (births : is_born f (conn.part, conn.port) conn.born ≡ is_born g (conn.part, conn.port) other.born) where
    -- the other connection, whose port is named as the first one's
    abbrev renamed : ConnRow
    renamed = record other { part = conn.part; port = conn.port }

    was : other ≡ renamed
    was = λ i. record other { part = part i; port = port i }

    abbrev here : Option PortRow
    here = get f.port (conn.part, conn.port)

    abbrev there : Option PortRow
    there = get g.port (conn.part, conn.port)

    ports : (row row_too : PortRow) → here ≡ Some row → there ≡ Some row_too → unborn row ≡ unborn row_too
    ports row row_too s t = seen_alike unborn unborn here there row row_too ((a conn.part own).ports conn.port) s t

    through : (t u : ResolvedPort → Bool) → ((row row_too : PortRow) → here ≡ Some row → there ≡ Some row_too → t (record { conn = conn; port = row }) ≡ u (record { conn = renamed; port = row_too }))
        → on_aim f key t ≡ on_aim g key u
    through t u h =
        ap (λ c. test_aim t (aim_by f c)) is ∙ by here there refl refl
        ∙ sym (ap (λ c. test_aim u (aim_by g c)) is_too ∙ ap (λ c. test_aim u (aim_by g (Some c))) was)
      where
        same : option_map unborn here ≡ option_map unborn there
        same = (a conn.part own).ports conn.port

        by : (r s : Option PortRow) → here ≡ r → there ≡ s → test_aim t (aim_with conn r) ≡ test_aim u (aim_with renamed s)
        by None None p q = refl
        by None (Some row) p q = let clash = sym (ap (option_map unborn) p) ∙ same ∙ ap (option_map unborn) q in cc
        by (Some row) None p q = let clash = sym (ap (option_map unborn) p) ∙ same ∙ ap (option_map unborn) q in cc
        by (Some row) (Some row_too) p q = h row row_too p q

    born_of : (h : Flat) (row : PortRow) (born : ℕ) → get h.port (conn.part, conn.port) ≡ Some row → is_born h (conn.part, conn.port) born ≡ row.born == born
    born_of h row born p = ap (λ r. option_map_or (λ (row : PortRow). row.born == born) r false) p

    stand : (row row_too : PortRow) → here ≡ Some row → there ≡ Some row_too → row.born == conn.born ≡ row_too.born == other.born
    stand row row_too p q = sym (born_of f row conn.born p) ∙ births ∙ born_of g row_too other.born q

    target_same : (aim : Aim) → has_target f conn.part aim ≡ has_target g conn.part aim
    target_same (One vp) = ap is_some ((a conn.part own).vps vp)
    target_same Any = refl

    takers : (test : VpRow → Bool) → on_aim f key (λ aim. is_some (select_vp test f aim.conn.part aim.port.vp)) ≡ on_aim g key (λ aim. is_some (select_vp test g aim.conn.part aim.port.vp))
    takers test = through (λ aim. is_some (select_vp test f aim.conn.part aim.port.vp)) (λ aim. is_some (select_vp test g aim.conn.part aim.port.vp)) (λ row row_too p q.
        ap is_some (taker_same f g test conn.part (a conn.part own).vps row.vp) ∙ ap (λ (r : PortRow). is_some (select_vp test g conn.part r.vp)) (ports row row_too p q))

    met_here : (row : PortRow) → here ≡ Some row → on_aim f key is_same_birth ≡ true → row.born == conn.born ≡ true
    met_here row p standing = sym (ap (λ c. test_aim is_same_birth (aim_by f c)) is ∙ ap (λ r. test_aim is_same_birth (aim_with conn r)) p) ∙ standing

    as_full : (row row_too : PortRow) → here ≡ Some row → there ≡ Some row_too → row.born == conn.born ≡ true → kept_of conn.part conn.port conn.born f.mail ≡ kept_of conn.part conn.port other.born
        g.mail
    as_full row row_too p q standing =
        ap (λ n. kept_of conn.part conn.port n f.mail) (sym (eqb-true row.born conn.born standing)) ∙ kept_marked f conn.part conn.port row p
        ∙ kept_same conn.part conn.port 1 _ _ (same_own conn.part own)
        ∙ sym (kept_marked g conn.part conn.port row_too q)
        ∙ ap (λ n. kept_of conn.part conn.port n g.mail) (eqb-true row_too.born other.born (sym (stand row row_too p q) ∙ standing))

    pub ends_alike : EndIsAlike key f g
    ends_alike = record {
      stands = through is_same_birth is_same_birth stand;
      aimed = through (is_aimed_at_vp f) (is_aimed_at_vp g) (λ row row_too p q. target_same row.vp ∙ ap (λ (r : PortRow). has_target g conn.part r.vp) (ports row row_too p q));
      for_messages = through is_for_messages is_for_messages (λ row row_too p q. ap (λ (r : PortRow). is_kind r.kind Message) (ports row row_too p q));
      flags = λ flag. through (has_flag flag) (has_flag flag) (λ row row_too p q. λ i. is_kind (ports row row_too p q i).kind Event && nat_lt flag (ports row row_too p q i).count);
      message_taker = takers is_ready_for_messages;
      flag_taker = takers is_ready_for_flags;
      room = λ standing. through (has_message_room f) (has_message_room g) (λ row row_too p q. ap (λ n. nat_lt n MAX_MESSAGES) (as_full row row_too p q (met_here row p standing)));
    }
