-- The invariant of the flat model: what holds in every reachable state.
use Rattle.std.specs.Prelude.{◌≡◌, ℕ, ◌+◌, ◌≤◌, ◌<◌, ◌==◌, ◌&&◌, ◌||◌, not, Bool, true, false, nat_le, nat_lt}
use Rattle.std.specs.Prelude.{List, Option, None, Some, filter}
use Rattle.std.specs.List.{AllByRecursion}
use Rattle.std.specs.FinMap.{get, contains_key}
use Rattle.hv_defs.specs.declared.aim.Aim.{Aim}
use Rattle.hv_defs.specs.declared.sizes.TheConstants.{EVENT_FLAGS, SINTS}
use Rattle.hv_policy.specs.Aim.{aims_at}
use Rattle.hv_policy.specs.Count.{in_use, pooled_count}
use Rattle.hv_policy.specs.Flat.{Flat, MailRow, PartRow, PageRow, PortRow}
use Rattle.hv_policy.specs.Met.{is_running}
use Rattle.hv_privs.specs.Privileges.{IsSubset}

-- the invariant of a port after this many served events
pub record IsPort (served : ℕ) (port : PortRow) : Type 0 where
  -- its SINT exists, and its event flags lie within that SINT
  pub sint : port.sint < SINTS
  pub flags : port.base + port.count ≤ EVENT_FLAGS
  -- its birth is at most the count of served events
  pub born : port.born ≤ served

-- whether a message is where a port of the partition aims: at the port's SINT, at its one processor or at any
abbrev pub stands_where : ℕ → Aim → ℕ → MailRow → Bool
stands_where part aim sint row = (row.part == part) && (aims_at aim row.vp && (row.sint == sint))

-- the messages that are where the port aims
abbrev pub mail_where : ℕ → Aim → ℕ → List MailRow → List MailRow
mail_where part aim sint mail = filter (stands_where part aim sint) mail

abbrev pub is_aimed : MailRow → Option PortRow → Bool
is_aimed row None = true
is_aimed row (Some port) = not (port.born == row.born) || (aims_at port.vp row.vp && (row.sint == port.sint))

-- whether a message's birth is past and, while the port of that birth exists, the message is where the port
-- aims
abbrev pub is_placed : Flat → MailRow → Bool
is_placed f row = nat_le row.born f.served && is_aimed row (get f.port (row.part, row.port))

-- the invariant of a state with this many boot pages
pub record StateInvariant (pages : ℕ) (f : Flat) : Type 0 where
  -- ids increase: a partition's id is below the next id and above its parent's id
  pub below : (id : ℕ) (row : PartRow) → get f.part id ≡ Some row → id < f.next
  pub above : (id parent : ℕ) (row : PartRow) → get f.part id ≡ Some row → row.parent ≡ Some parent → parent <
      id
  -- a partition uses no more pages than its pool has
  pub within : (id : ℕ) → in_use f id ≤ pooled_count f id
  -- a partition that does not exist or is not Active uses no pages: it has no children, processors, ports or
  -- connections
  pub idle : (id : ℕ) → is_running f id ≡ false → in_use f id ≡ 0
  -- no partition has a privilege that its parent lacks
  pub masks : (id parent : ℕ) (child above : PartRow) → get f.part id ≡ Some child → child.parent ≡ Some
      parent
      → get f.part parent ≡ Some above → IsSubset child.mask above.mask
  -- exactly the boot pages have rows, and the owner of each page exists
  pub paged : (page : ℕ) → contains_key f.page page ≡ nat_lt page pages
  pub owned : (page : ℕ) (row : PageRow) → get f.page page ≡ Some row → contains_key f.part row.owner ≡ true
  -- each partition except the root took a served event to create
  pub few : f.next ≤ f.served + 2
  -- each port meets its invariant, and each message is placed
  pub ports : (key : ℕ × ℕ) (port : PortRow) → get f.port key ≡ Some port → IsPort f.served port
  pub placed : AllByRecursion (λ row. is_placed f row ≡ true) f.mail
