-- What two states have alike through a connection, where they agree on its port.
use Rattle.std.proofs.Common.{◌≡◌, ℕ, true, false, cond, nat_lt, Bool, Option, Some, None, is_some, refl, ap, ◌∙◌, eq-eqb}
use Rattle.std.specs.FinMap.{get}
use Rattle.std.specs.Option.{option_map_or}
use Rattle.hv_defs.specs.declared.aim.Aim.{Aim}
use Rattle.hv_defs.specs.declared.aim.Aim.TheVariants.{One, Any}
use Rattle.hv_defs.specs.declared.sizes.TheConstants.{MAX_MESSAGES}
use Rattle.hv_policy.proofs.Pairs.{first_alike}
use Rattle.hv_policy.specs.Aim.{ResolvedPort, aim_by, aim_with, aims_at, has_target, on_aim, select_vp}
use Rattle.hv_policy.specs.Flat.{ConnRow, Flat, PortRow, VpRow}
use Rattle.hv_policy.specs.Met.{has_message_room, is_aimed_at_vp}
use Rattle.hv_security.specs.Agreed.{AgreesOnKept, AgreesOnPort, AgreesThrough}

-- a test of where a connection leads, which fails where it leads nowhere
abbrev test_aim : (ResolvedPort → Bool) → Option ResolvedPort → Bool
test_aim test aim = option_map_or test aim false

module _ (f g : Flat) where
  -- they agree on each processor at which a port of a partition aims
  abbrev AgreesOnVps : ℕ → Aim → Type 0
  AgreesOnVps id aim = (vp : ℕ) → aims_at aim vp ≡ true → get f.vp (id, vp) ≡ get g.vp (id, vp)

  pub target_alike : (id : ℕ) (aim : Aim) → AgreesOnVps id aim → has_target f id aim ≡ has_target g id aim
  target_alike id (One index) same = ap is_some (same index (eq-eqb index index refl))
  target_alike id Any same = refl

  taker_alike : (test : VpRow → Bool) (id : ℕ) (aim : Aim) → AgreesOnVps id aim → select_vp test f id aim ≡ select_vp test g id aim
  taker_alike test id (One index) same = ap (λ row. cond (option_map_or test row false) (Some index) None) (same index (eq-eqb index index refl))
  taker_alike test id Any same = first_alike id test f.vp g.vp (λ vp. same vp refl)

  -- a test that both answer alike wherever they agree
  alike : (t u : ResolvedPort → Bool) → ((conn : ConnRow) (port : PortRow) → AgreesOnPort conn f g → get f.port (conn.part, conn.port) ≡ Some port → t (record { conn = conn; port = port }) ≡ u
      (record { conn = conn; port = port }))
      → (c : Option ConnRow) → AgreesThrough c f g → test_aim t (aim_by f c) ≡ test_aim u (aim_by g c)
  alike t u same None n = refl
  alike t u same (Some conn) n = by (get f.port (conn.part, conn.port)) refl ∙ ap (λ p. test_aim u (aim_with conn p)) n.port
    where
      by : (p : Option PortRow) → get f.port (conn.part, conn.port) ≡ p → test_aim t (aim_with conn p) ≡ test_aim u (aim_with conn p)
      by None is = refl
      by (Some port) is = same conn port n is

  module _ (key : ℕ × ℕ) (same : get f.conn key ≡ get g.conn key) (n : AgreesThrough (get f.conn key) f g) where
    through : (t u : ResolvedPort → Bool) → ((conn : ConnRow) (port : PortRow) → AgreesOnPort conn f g → get f.port (conn.part, conn.port) ≡ Some port → t (record { conn = conn; port = port }) ≡ u
        (record { conn = conn; port = port }))
        → on_aim f key t ≡ on_aim g key u
    through t u are = alike t u are (get f.conn key) n ∙ ap (λ c. test_aim u (aim_by g c)) same

    -- a test of connection and port alone
    pub on_aim_alike : (t : ResolvedPort → Bool) → on_aim f key t ≡ on_aim g key t
    on_aim_alike t = through t t (λ conn port n is. refl)

    -- whether the processor is there at which it aims, and whether one takes what comes
    pub on_target_alike : on_aim f key (is_aimed_at_vp f) ≡ on_aim g key (is_aimed_at_vp g)
    on_target_alike = through (is_aimed_at_vp f) (is_aimed_at_vp g) (λ conn port n is. target_alike conn.part port.vp (n.aimed port is))

    pub on_taker_alike : (test : VpRow → Bool) → on_aim f key (λ aim. is_some (select_vp test f aim.conn.part aim.port.vp)) ≡ on_aim g key (λ aim. is_some (select_vp test g aim.conn.part aim.port.vp))
    on_taker_alike test =
        through (λ aim. is_some (select_vp test f aim.conn.part aim.port.vp)) (λ aim. is_some (select_vp test g aim.conn.part aim.port.vp))
        (λ conn port n is. ap is_some (taker_alike test conn.part port.vp (n.aimed port is)))

    -- and of how many messages are kept
    pub on_room_alike : AgreesOnKept (get f.conn key) f g → on_aim f key (has_message_room f) ≡ on_aim g key (has_message_room g)
    on_room_alike k = room (get f.conn key) n k ∙ ap (λ c. test_aim (has_message_room g) (aim_by g c)) same
      where
        room : (c : Option ConnRow) → AgreesThrough c f g → AgreesOnKept c f g → test_aim (has_message_room f) (aim_by f c) ≡ test_aim (has_message_room g) (aim_by g c)
        room None n k = refl
        room (Some conn) n k = by (get f.port (conn.part, conn.port)) ∙ ap (λ p. test_aim (has_message_room g) (aim_with conn p)) n.port
          where
            by : (p : Option PortRow) → test_aim (has_message_room f) (aim_with conn p) ≡ test_aim (has_message_room g) (aim_with conn p)
            by None = refl
            by (Some port) = ap (λ kept. nat_lt kept MAX_MESSAGES) k
