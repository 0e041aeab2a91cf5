-- What one partition has in a flat state, and the relatives of a caller.
use Rattle.std.specs.Prelude.{◌≡◌, ℕ, ◌+◌, ◌==◌, ◌&&◌, ◌⊎◌, ◌++◌, if◌then◌else◌, not, Bool, true, false}
use Rattle.std.specs.Prelude.{List, [], ◌∷◌, Option, None, Some, option_map}
use Rattle.std.specs.FinMap.{get}
use Rattle.std.specs.List.{list_any}
use Rattle.std.specs.Option.{option_map_or}
use Rattle.hv_defs.specs.Bits.{bits}
use Rattle.hv_defs.specs.declared.registers.TheConstants.{SINT0}
use Rattle.hv_policy.specs.Effect.{narrowed_row}
use Rattle.hv_policy.specs.Flat.{Flat, MailRow, PageRow, VpRow}
use Rattle.hv_policy.specs.Mail.{Place, as_shown, is_shown, mail_at}
use Rattle.hv_policy.specs.Met.{is_kin}
pub use Rattle.hv_policy.specs.Mail.{place}
pub use Rattle.hv_policy.specs.Reading.{has_flag, has_vector}
use Rattle.hv_policy.specs.declared.need.Kin.TheVariants.{CallerOrChild}
use Rattle.hv_privs.specs.declared.Privileges.{Privileges}

-- whether a partition is one of a caller's relatives: the caller itself or a child of it
abbrev pub is_relative : Flat → ℕ → ℕ → Bool
is_relative f caller id = is_kin CallerOrChild f caller id

-- a page's row, if this partition holds the page
abbrev pub held_by : ℕ → Option PageRow → Option PageRow
held_by id None = None
held_by id (Some row) = if row.owner == id then Some row else None

-- two states are equal in all that a partition has: its row, its pages, processors, ports and connections,
-- and the messages at each of its SINTs
pub record HasSame (id : ℕ) (f g : Flat) : Type 0 where
  pub part : get f.part id ≡ get g.part id
  pub pages : (page : ℕ) → held_by id (get f.page page) ≡ held_by id (get g.page page)
  pub vps : (vp : ℕ) → get f.vp (id, vp) ≡ get g.vp (id, vp)
  pub ports : (port : ℕ) → get f.port (id, port) ≡ get g.port (id, port)
  pub conns : (connection : ℕ) → get f.conn (id, connection) ≡ get g.conn (id, connection)
  pub mail : (vp sint : ℕ) → mail_at (place id vp sint) f.mail ≡ mail_at (place id vp sint) g.mail

-- whether a place is at this processor, and whether it is this place
abbrev pub is_at : Place → ℕ → ℕ → Bool
is_at place part vp = (part == place.part) && (vp == place.vp)

abbrev pub is_place : Place → Place → Bool
is_place place other = (other.part == place.part) && ((other.vp == place.vp) && (other.sint == place.sint))

-- two states are equal in all that a partition has, except what is at one place: its messages, its event
-- flags and its processor's pending vectors
pub record HasSameBut (at : Place) (id : ℕ) (f g : Flat) : Type 0 where
  pub part : get f.part id ≡ get g.part id
  pub pages : (page : ℕ) → held_by id (get f.page page) ≡ held_by id (get g.page page)
  pub vps : (vp : ℕ) → is_at at id vp ≡ false → get f.vp (id, vp) ≡ get g.vp (id, vp)
  pub registers : (vp : ℕ)
      → option_map (λ row. row.registers) (get f.vp (id, vp)) ≡ option_map (λ row. row.registers)
      (get g.vp (id, vp))
  pub flags : (vp sint flag : ℕ) → is_place at (place id vp sint) ≡ false
      → has_flag (get f.vp (id, vp)) sint flag ≡ has_flag (get g.vp (id, vp)) sint flag
  pub ports : (port : ℕ) → get f.port (id, port) ≡ get g.port (id, port)
  pub conns : (connection : ℕ) → get f.conn (id, connection) ≡ get g.conn (id, connection)
  pub mail : (vp sint : ℕ) → is_place at (place id vp sint) ≡ false
      → mail_at (place id vp sint) f.mail ≡ mail_at (place id vp sint) g.mail

-- two states are equal in all that a partition has, except that its mask may be restricted to a value
pub record HasSameButMask (value : Privileges) (id : ℕ) (f g : Flat) : Type 0 where
  pub part : (get f.part id ≡ get g.part id)
      ⊎ (option_map (narrowed_row value) (get f.part id) ≡ get g.part id)
  pub pages : (page : ℕ) → held_by id (get f.page page) ≡ held_by id (get g.page page)
  pub vps : (vp : ℕ) → get f.vp (id, vp) ≡ get g.vp (id, vp)
  pub ports : (port : ℕ) → get f.port (id, port) ≡ get g.port (id, port)
  pub conns : (connection : ℕ) → get f.conn (id, connection) ≡ get g.conn (id, connection)
  pub mail : (vp sint : ℕ) → mail_at (place id vp sint) f.mail ≡ mail_at (place id vp sint) g.mail

-- the messages of a place with the first one shown, if none is
abbrev pub first_shown : List MailRow → List MailRow
first_shown [] = []
first_shown (row ∷ rows) = as_shown row ∷ rows

abbrev pub with_one_shown : List MailRow → List MailRow
with_one_shown rows = if list_any is_shown rows then rows else first_shown rows

-- whether a vector is the one of a SINT of the processor with this row: the SINT's register has it in bits
-- 7:0, and bit 16 does not mask it
abbrev pub is_vector_in : ℕ → ℕ → Bool
is_vector_in vector value = (vector == bits value 0 8) && not (bits value 16 1 == 1)

abbrev pub is_vector_of : ℕ → Option VpRow → ℕ → Bool
is_vector_of sint row vector =
    option_map_or (λ row. option_map_or (is_vector_in vector) (get row.registers (SINT0 + sint)) false) row
    false

-- Pending vectors stay pending. Another becomes pending only where the SINT may raise, and only the SINT's
-- own.
pub record RaisesOwn (may_raise : Type 0) (sint : ℕ) (before after : Option VpRow) : Type 0 where
  pub stay : (vector : ℕ) → has_vector before vector ≡ true → has_vector after vector ≡ true
  pub may : (vector : ℕ) → has_vector before vector ≡ false → has_vector after vector ≡ true → may_raise
  pub own : (vector : ℕ) → has_vector before vector ≡ false → has_vector after vector ≡ true
      → is_vector_of sint before vector ≡ true

-- what a place may gain: one message, or one event flag
pub data Gain : Type 0 where
  OneMessage : (message : MailRow) → Gain
  OneFlag : (flag : ℕ) → Gain

-- A place gains a message at most. It comes behind all others. If none is shown, the first is then shown, and
-- the SINT may raise its vector. All else stays: a shown message is shown, and no flag changes.
pub record GainsMessage (at : Place) (message : MailRow) (f g : Flat) : Type 0 where
  pub mail : (mail_at at g.mail ≡ mail_at at f.mail)
      ⊎ (mail_at at g.mail ≡ with_one_shown (mail_at at f.mail ++ message ∷ []))
  pub flags : (sint flag : ℕ)
      → has_flag (get f.vp (at.part, at.vp)) sint flag ≡ has_flag (get g.vp (at.part, at.vp)) sint flag
  pub vectors : RaisesOwn (list_any is_shown (mail_at at f.mail) ≡ false) at.sint
      (get f.vp (at.part, at.vp)) (get g.vp (at.part, at.vp))

-- A place gains an event flag at most. If it was clear, the SINT may raise its vector. All else stays: the
-- messages, and each other flag.
pub record GainsFlag (at : Place) (flag : ℕ) (f g : Flat) : Type 0 where
  pub mail : mail_at at g.mail ≡ mail_at at f.mail
  pub others : (sint other : ℕ) → (sint == at.sint) && (other == flag) ≡ false
      → has_flag (get f.vp (at.part, at.vp)) sint other ≡ has_flag (get g.vp (at.part, at.vp)) sint other
  pub stays : has_flag (get f.vp (at.part, at.vp)) at.sint flag ≡ true
      → has_flag (get g.vp (at.part, at.vp)) at.sint flag ≡ true
  pub vectors : RaisesOwn (has_flag (get f.vp (at.part, at.vp)) at.sint flag ≡ false) at.sint
      (get f.vp (at.part, at.vp)) (get g.vp (at.part, at.vp))

-- a place gains this at most
abbrev pub OnlyGains : Place → Gain → Flat → Flat → Type 0
OnlyGains at (OneMessage message) f g = GainsMessage at message f g
OnlyGains at (OneFlag flag) f g = GainsFlag at flag f g
