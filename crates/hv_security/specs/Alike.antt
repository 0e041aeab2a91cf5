-- Low equivalence for a run: what two flat states have in common for a set of partitions. Births may differ,
-- as long as they agree on whether a birth is that of the existing port.
use Rattle.std.specs.Prelude.{◌≡◌, ℕ, ◌==◌, ◌≤◌, cond, Bool, true, false, map, Some, option_map}
use Rattle.std.specs.FinMap.{get}
use Rattle.std.specs.List.{AllByRecursion}
use Rattle.hv_policy.specs.Flat.{ConnRow, Flat, MailRow, PortRow}
use Rattle.hv_policy.specs.Mail.{mail_at}
use Rattle.hv_policy.specs.Met.{is_child, on_port}
use Rattle.hv_security.specs.Same.{held_by, place}

-- whether the port with this key exists and has this birth
abbrev pub is_born : Flat → ℕ × ℕ → ℕ → Bool
is_born f key born = on_port f key (λ row. row.born == born)

-- the mark of a birth: 1 if it is the existing port's, and 0 otherwise
abbrev pub mark : Bool → ℕ
mark true = 1
mark false = 0

-- a port without its birth
abbrev pub unborn : PortRow → PortRow
unborn row = record row { born = 0 }

-- a connection with the mark in place of its birth if it leads to a member, and 0 otherwise
abbrev pub marked_conn : (ℕ → Bool) → Flat → ConnRow → ConnRow
marked_conn members f row = record row {
  born = cond (members row.part)
      (mark (is_born f (row.part, row.port) row.born)) 0;
}

-- a message with the mark in place of its birth
abbrev pub marked : Flat → MailRow → MailRow
marked f row = record row { born = mark (is_born f (row.part, row.port) row.born) }

-- two states are equal in all that a partition has, up to births
pub record HasAlike (members : ℕ → Bool) (id : ℕ) (f g : Flat) : Type 0 where
  pub part : get f.part id ≡ get g.part id
  pub pages : (page : ℕ) → held_by id (get f.page page) ≡ held_by id (get g.page page)
  pub vps : (vp : ℕ) → get f.vp (id, vp) ≡ get g.vp (id, vp)
  pub ports : (port : ℕ) → option_map unborn (get f.port (id, port)) ≡ option_map unborn
      (get g.port (id, port))
  pub conns : (connection : ℕ) → option_map (marked_conn members f) (get f.conn (id, connection))
      ≡ option_map (marked_conn members g) (get g.conn (id, connection))
  pub mail : (vp sint : ℕ) → map (marked f) (mail_at (place id vp sint) f.mail) ≡ map (marked g)
      (mail_at (place id vp sint) g.mail)

-- low equivalence: two states are equal, up to births, in all that each member has
abbrev pub AreLowEquivalent : (ℕ → Bool) → Flat → Flat → Type 0
AreLowEquivalent members f g = (id : ℕ) → members id ≡ true → HasAlike members id f g

-- each child of a member is a member
abbrev pub AreClosed : (ℕ → Bool) → Flat → Type 0
AreClosed members f = (parent id : ℕ) → members parent ≡ true → is_child f parent id ≡ true → members id ≡
    true

-- every birth that a connection keeps is past
abbrev pub AreConnsPast : Flat → Type 0
AreConnsPast f = (key : ℕ × ℕ) (row : ConnRow) → get f.conn key ≡ Some row → row.born ≤ f.served

-- the births of all ports, connections and messages are past
pub record ArePast (f : Flat) : Type 0 where
  pub ports : (key : ℕ × ℕ) (row : PortRow) → get f.port key ≡ Some row → row.born ≤ f.served
  pub conns : (key : ℕ × ℕ) (row : ConnRow) → get f.conn key ≡ Some row → row.born ≤ f.served
  pub mail : AllByRecursion (λ row. row.born ≤ f.served) f.mail
