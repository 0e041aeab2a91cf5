-- What is sent alike in two states leaves members alike.
use Rattle.std.proofs.Common.{◌≡◌, ℕ, ◌+◌, ◌==◌, Bool, true, false, cond, List, map, Option, Some, None, refl, sym, ap, subst, ◌∙◌, ne_eqb, option_map}
use Rattle.std.specs.FinMap.{FinMap, get}
use Rattle.std.specs.Option.{option_map_or}
use Rattle.hv_defs.specs.Flags.{pair_cmp}
use Rattle.hv_defs.specs.declared.aim.Aim.{Aim}
use Rattle.hv_defs.specs.declared.aim.Aim.TheVariants.{One, Any}
use Rattle.hv_policy.proofs.Pairs.{first_alike}
use Rattle.hv_policy.specs.Aim.{ResolvedPort, aim_by, aim_of, aim_with, is_ready_for_flags, is_ready_for_messages, is_same_birth, on_aim, select_vp}
use Rattle.hv_policy.specs.Effect.{post_at, post_to, row_signalled, signal_at, signal_to, with_vp}
use Rattle.hv_policy.specs.Flat.{ConnRow, Flat, MailRow, PortRow, VpRow}
use Rattle.hv_security.proofs.OthersUnchanged.{posted, signalled}
use Rattle.hv_security.specs.Same.{HasSame}
use Rattle.hv_security.specs.Alike.{AreLowEquivalent, HasAlike, is_born, mark, marked, marked_conn, unborn}
use Rattle.hv_security.proofs.AlikeMessages.{posted_alike, staff_alike}

-- a connection with the port to which it leads, of which a test is met
pub record IsWay (f : Flat) (key : ℕ × ℕ) (test : ResolvedPort → Bool) : Type 0 where
  pub conn : ConnRow
  pub port : PortRow
  pub leads : get f.conn key ≡ Some conn
  pub there : get f.port (conn.part, conn.port) ≡ Some port
  pub met : test (record { conn = conn; port = port }) ≡ true

pub way : (f : Flat) (key : ℕ × ℕ) (test : ResolvedPort → Bool) → on_aim f key test ≡ true → IsWay f key test
way f key test h = by (get f.conn key) refl h
  where
    through : (conn : ConnRow) → get f.conn key ≡ Some conn → (r : Option PortRow) → get f.port (conn.part, conn.port) ≡ r → option_map_or test (aim_with conn r) false ≡ true → IsWay f key test
    through conn is None none h = cc
    through conn is (Some port) there h = record { conn = conn; port = port; leads = is; there = there; met = h }

    by : (c : Option ConnRow) → get f.conn key ≡ c → option_map_or test (aim_by f c) false ≡ true → IsWay f key test
    by None is h = cc
    by (Some conn) is h = through conn is (get f.port (conn.part, conn.port)) refl h

pub aimed_way : (f : Flat) (key : ℕ × ℕ) (conn : ConnRow) (port : PortRow) → get f.conn key ≡ Some conn → get f.port (conn.part, conn.port) ≡ Some port → aim_of f key ≡ Some
    (record { conn = conn; port = port })
aimed_way f key conn port is there = ap (aim_by f) is ∙ ap (aim_with conn) there

-- rows that are there are seen alike
pub seen_alike : {X Y : Type 0} (u v : X → Y) (r s : Option X) (x y : X) → option_map u r ≡ option_map v s → r ≡ Some x → s ≡ Some y → u x ≡ v y
seen_alike u v r s x y same is is_too = let both : Some (u x) ≡ Some (v y) = sym (ap (option_map u) is) ∙ same ∙ ap (option_map v) is_too in cc

-- connections of a member lead to one port
pub leads_alike : (members : ℕ → Bool) (f g : Flat) (c d : Option ConnRow) (conn other : ConnRow) → option_map (marked_conn members f) c ≡ option_map (marked_conn members g) d → c ≡ Some conn → d ≡
    Some other → (conn.part ≡ other.part) × (conn.port ≡ other.port)
leads_alike members f g c d conn other same is is_too =
    let rows = seen_alike (marked_conn members f) (marked_conn members g) c d conn other same is is_too in
    (ap (λ (row : ConnRow). row.part) rows, ap (λ (row : ConnRow). row.port) rows)

-- the message that goes to a port
abbrev message : ResolvedPort → ℕ → ℕ → List ℕ → MailRow
message aim vp type payload = record {
  part = aim.conn.part;
  vp = vp;
  sint = aim.port.sint;
  port = aim.conn.port;
  born = aim.conn.born;
  type = type;
  payload = payload;
  shown = false;
}

-- the processor of a partition that takes what comes, where processors are the same
pub taker_same : (f g : Flat) (test : VpRow → Bool) (id : ℕ) → ((vp : ℕ) → get f.vp (id, vp) ≡ get g.vp (id, vp)) → (aim : Aim) → select_vp test f id aim ≡ select_vp test g id aim
taker_same f g test id same (One index) = ap (λ row. cond (option_map_or test row false) (Some index) None) (same index)
taker_same f g test id same Any = first_alike id test f.vp g.vp same

module _ (members : ℕ → Bool) where
  pub same : (id : ℕ) (f : Flat) → HasAlike members id f f
  same id f = record { part = refl; pages = λ _. refl; vps = λ _. refl; ports = λ _. refl; conns = λ _. refl; mail = λ _ _. refl }

  -- what is the same is alike where processors and messages alone change
  from_same : (f : Flat) (vps : FinMap pair_cmp VpRow) (mail : List MailRow) (id : ℕ) → HasSame id f (record f { vp = vps; mail = mail }) → HasAlike members id f (record f { vp = vps; mail = mail })
  from_same f vps mail id s = record {
    part = s.part;
    pages = s.pages;
    vps = s.vps;
    ports = λ _. refl;
    conns = λ _. refl;
    mail = λ vp sint. ap (map (marked f)) (s.mail vp sint);
  }

  pub back : (id : ℕ) (f g : Flat) → HasAlike members id f g → HasAlike members id g f
  back id f g s = record {
    part = sym s.part;
    pages = λ page. sym (s.pages page);
    vps = λ vp. sym (s.vps vp);
    ports = λ port. sym (s.ports port);
    conns = λ connection. sym (s.conns connection);
    mail = λ vp sint. sym (s.mail vp sint);
  }

  pub chain : (id : ℕ) (f g h : Flat) → HasAlike members id f g → HasAlike members id g h → HasAlike members id f h
  chain id f g h s t = record {
    part = s.part ∙ t.part;
    pages = λ page. s.pages page ∙ t.pages page;
    vps = λ vp. s.vps vp ∙ t.vps vp;
    ports = λ port. s.ports port ∙ t.ports port;
    conns = λ connection. s.conns connection ∙ t.conns connection;
    mail = λ vp sint. s.mail vp sint ∙ t.mail vp sint;
  }

  -- who is a member is another than who is none
  apart_from : (id other : ℕ) → members id ≡ true → members other ≡ false → id == other ≡ false
  apart_from id other own off = ne_eqb id other (λ same. (let clash = sym own ∙ ap members same ∙ off in cc))

  module _ (f g : Flat) (a : AreLowEquivalent members f g) where
    -- what goes elsewhere in both
    both_apart : (h k : Flat) → ((id : ℕ) → members id ≡ true → HasAlike members id f h) → ((id : ℕ) → members id ≡ true → HasAlike members id g k) → AreLowEquivalent members h k
    both_apart h k s t id own = chain id h f k (back id f h (s id own)) (chain id f g k (a id own) (t id own))

    module _ (key : ℕ × ℕ) (w : IsWay f key is_same_birth) (v : IsWay g key is_same_birth) (l : (w.conn.part ≡ v.conn.part) × (w.conn.port ≡ v.conn.port)) where
      abbrev aim : ResolvedPort
      aim = record { conn = w.conn; port = w.port }

      abbrev aim_too : ResolvedPort
      aim_too = record { conn = v.conn; port = v.port }

      -- ports of a member are alike
      ends : members w.conn.part ≡ true → unborn w.port ≡ unborn v.port
      ends own =
          seen_alike unborn unborn (get f.port (w.conn.part, w.conn.port)) (get g.port (w.conn.part, w.conn.port)) w.port v.port ((a w.conn.part own).ports w.conn.port) w.there
          ((λ i. get g.port (l.0 i, l.1 i)) ∙ v.there)

      takers : (own : members w.conn.part ≡ true) → (test : VpRow → Bool) → select_vp test f w.conn.part w.port.vp ≡ select_vp test g v.conn.part v.port.vp
      takers own test = taker_same f g test w.conn.part (a w.conn.part own).vps w.port.vp ∙ (λ i. select_vp test g (l.0 i) (ends own i).vp)

      -- a message
      born_there : (h : Flat) (conn : ConnRow) (port : PortRow) → get h.port (conn.part, conn.port) ≡ Some port → port.born == conn.born ≡ true → is_born h (conn.part, conn.port) conn.born ≡ true
      born_there h conn port there is = ap (λ r. option_map_or (λ (row : PortRow). row.born == conn.born) r false) there ∙ is

      posted_within : (own : members w.conn.part ≡ true) (type : ℕ) (payload : List ℕ) (o : Option ℕ) → AreLowEquivalent members (post_at aim o type payload f) (post_at aim_too o type payload g)
      posted_within own type payload None = a
      posted_within own type payload (Some vp) =
          posted_alike members (message aim vp type payload) (message aim_too vp type payload) f g (λ i. record { part = l.0 i; vp = vp; sint = (ends own i).sint })
          (λ i. record { part = l.0 i; vp = vp; sint = (ends own i).sint; port = l.1 i; born = mark (marks i); type = type; payload = payload; shown = false }) own a
        where
          marks : is_born f (w.conn.part, w.conn.port) w.conn.born ≡ is_born g (v.conn.part, v.conn.port) v.conn.born
          marks = born_there f w.conn w.port w.there w.met ∙ sym (born_there g v.conn v.port v.there v.met)

      elsewhere : (h : Flat) (to : ResolvedPort) → members to.conn.part ≡ false → (type : ℕ) (payload : List ℕ) (o : Option ℕ) (id : ℕ) → members id ≡ true → HasAlike members id h
          (post_at to o type payload h)
      elsewhere h to off type payload None id own = same id h
      elsewhere h to off type payload (Some vp) id own =
          from_same h (post_at to (Some vp) type payload h).vp (post_at to (Some vp) type payload h).mail id (posted h id to (apart_from id to.conn.part own off) type payload (Some vp))

      -- what is sent through both connections
      sent : (test : VpRow → Bool) (send : ResolvedPort → Option ℕ → Flat → Flat) → (members w.conn.part ≡ true → (o : Option ℕ) → AreLowEquivalent members (send aim o f) (send aim_too o g))
          → ((h : Flat) (to : ResolvedPort) → members to.conn.part ≡ false → (o : Option ℕ) (id : ℕ) → members id ≡ true → HasAlike members id h (send to o h)) → (p q : Option ResolvedPort → Flat)
          → p (Some aim) ≡ send aim (select_vp test f w.conn.part w.port.vp) f → q (Some aim_too) ≡ send aim_too (select_vp test g v.conn.part v.port.vp) g
          → AreLowEquivalent members (p (aim_of f key)) (q (aim_of g key))
      sent test send within away p q to to_too =
          subst (λ h. AreLowEquivalent members h (q (aim_of g key))) (sym (ap p (aimed_way f key w.conn w.port w.leads w.there) ∙ to))
          (subst (λ h. AreLowEquivalent members (send aim (select_vp test f w.conn.part w.port.vp) f) h) (sym (ap q (aimed_way g key v.conn v.port v.leads v.there) ∙ to_too))
          (by (members w.conn.part) refl))
        where
          by : (b : Bool) → members w.conn.part ≡ b → AreLowEquivalent members (send aim (select_vp test f w.conn.part w.port.vp) f) (send aim_too (select_vp test g v.conn.part v.port.vp) g)
          by true own =
              subst (λ o. AreLowEquivalent members (send aim (select_vp test f w.conn.part w.port.vp) f) (send aim_too o g)) (takers own test)
              (within own (select_vp test f w.conn.part w.port.vp))
          by false off = both_apart _ _ (away f aim off _) (away g aim_too (ap members (sym l.0) ∙ off) _)

      pub posts_alike : (type : ℕ) (payload : List ℕ) → AreLowEquivalent members (post_to (aim_of f key) type payload f) (post_to (aim_of g key) type payload g)
      posts_alike type payload =
          sent is_ready_for_messages (λ to o h. post_at to o type payload h) (λ own. posted_within own type payload) (λ h to off. elsewhere h to off type payload)
          (λ o. post_to o type payload f) (λ o. post_to o type payload g) refl refl

      -- and a flag
      signalled_within : (own : members w.conn.part ≡ true) (flag : ℕ) (o : Option ℕ) → AreLowEquivalent members (signal_at aim o flag f) (signal_at aim_too o flag g)
      signalled_within own flag None = a
      signalled_within own flag (Some vp) =
          subst (λ to. AreLowEquivalent members (signal_at aim (Some vp) flag f) to) renamed
          (staff_alike members (w.conn.part, vp) (row_signalled w.port.sint (w.port.base + flag)) f g a)
        where
          renamed : record g { vp = with_vp g.vp (w.conn.part, vp) (row_signalled w.port.sint (w.port.base + flag)) } ≡ signal_at aim_too (Some vp) flag g
          renamed = λ i. record g { vp = with_vp g.vp (l.0 i, vp) (row_signalled (ends own i).sint ((ends own i).base + flag)) }

      flag_elsewhere : (h : Flat) (to : ResolvedPort) → members to.conn.part ≡ false → (flag : ℕ) (o : Option ℕ) (id : ℕ) → members id ≡ true → HasAlike members id h (signal_at to o flag h)
      flag_elsewhere h to off flag None id own = same id h
      flag_elsewhere h to off flag (Some vp) id own =
          from_same h (signal_at to (Some vp) flag h).vp h.mail id (signalled h id to (apart_from id to.conn.part own off) flag (Some vp))

      pub signals_alike : (flag : ℕ) → AreLowEquivalent members (signal_to (aim_of f key) flag f) (signal_to (aim_of g key) flag g)
      signals_alike flag =
          sent is_ready_for_flags (λ to o h. signal_at to o flag h) (λ own. signalled_within own flag) (λ h to off. flag_elsewhere h to off flag)
          (λ o. signal_to o flag f) (λ o. signal_to o flag g) refl refl
