-- What an effect names of a flat state, and when it describes the difference between two flat states.
use Rattle.std.specs.Prelude.{◌≡◌, ◌≢◌, ℕ, ◌%◌, ◌^◌, ◌==◌, ◌&&◌, ◌||◌, not, is_some, Bool, true, false, []}
use Rattle.std.specs.Prelude.{◌∷◌, ◌++◌, Option, None, Some, option_map}
use Rattle.std.specs.FinMap.{contains_key, get}
use Rattle.std.specs.FinSet as set
use Rattle.std.specs.Int.{bit_at}
use Rattle.std.specs.List.{list_any}
use Rattle.std.specs.Option.{option_map_or}
use Rattle.hv_defs.specs.declared.life.Life.{Life}
use Rattle.hv_defs.specs.declared.life.Life.TheVariants.{Active, Finalized}
use Rattle.hv_defs.specs.declared.sizes.TheConstants.{SINTS}
use Rattle.hv_policy.specs.Mail.{place}
use Rattle.hv_policy.specs.Reading.{has_flag, has_vector}
use Rattle.hv_policy.specs.Answer.{vector_of}
use Rattle.hv_policy.specs.Flat.{Flat, MailRow, PageRow}
use Rattle.hv_policy.specs.Mail.{Place, is_shown, mail_at, shown_at}
use Rattle.hv_admit.specs.declared.effect.Effect.{Effect}
use Rattle.hv_admit.specs.declared.effect.Effect.TheVariants as effect
use Rattle.hv_admit.specs.declared.effect.FlagChange.{FlagChange}
use Rattle.hv_admit.specs.declared.effect.Synic.{Synic}
use Rattle.hv_admit.specs.Raised.{became_shown, registers_of, vectors_of}

-- the effect at a processor that names nothing
abbrev pub quiet : ℕ → ℕ → Synic
quiet part vp =
    record {
      part = part;
      vp = vp;
      shown = 0;
      waiting = None;
      flag = None;
      raised = set.empty;
      taken = None;
      freed = None;
    }

-- whether the effect is at the processor with this index of a partition
abbrev pub is_at : Synic → ℕ → ℕ → Bool
is_at s part vp = (part == s.part) && (vp == s.vp)

-- whether the bit of a SINT is 1
abbrev pub has_bit : ℕ → ℕ → Bool
has_bit mask sint = bit_at mask sint == 1

-- whether a number is named, and is this one
abbrev pub is_number : Option ℕ → ℕ → Bool
is_number named number = option_map_or (λ n. number == n) named false

abbrev pub is_change : Option FlagChange → ℕ → ℕ → Bool
is_change named sint flag = option_map_or (λ c. (sint == c.sint) && (flag == c.flag)) named false

-- whether an effect names the messages at a SINT of a processor
abbrev pub names_messages : Effect → Place → Bool
names_messages effect.Nothing at = false
names_messages (effect.Synic s) at = is_at s at.part at.vp &&
    (has_bit s.shown at.sint || is_number s.waiting at.sint)
names_messages (effect.Page page owner pooled) at = false
names_messages (effect.Pages from to) at = false
names_messages (effect.Processor part vp) at = (at.part == part) && (at.vp == vp)
names_messages (effect.Partition part) at = at.part == part

-- whether an effect names an event flag of a SINT of a processor
abbrev pub names_flag : Effect → Place → ℕ → Bool
names_flag effect.Nothing at flag = false
names_flag (effect.Synic s) at flag = is_at s at.part at.vp && is_change s.flag at.sint flag
names_flag (effect.Page page owner pooled) at flag = false
names_flag (effect.Pages from to) at flag = false
names_flag (effect.Processor part vp) at flag = (at.part == part) && (at.vp == vp)
names_flag (effect.Partition part) at flag = at.part == part

-- whether an effect names a vector of the processor with this index of a partition
abbrev pub names_vector : Effect → ℕ → ℕ → ℕ → Bool
names_vector effect.Nothing id index vector = false
names_vector (effect.Synic s) id index vector = is_at s id index &&
    (set.contains s.raised vector || is_number s.taken vector)
names_vector (effect.Page page owner pooled) id index vector = false
names_vector (effect.Pages from to) id index vector = false
names_vector (effect.Processor part vp) id index vector = (id == part) && (index == vp)
names_vector (effect.Partition part) id index vector = id == part

-- whether a page belonged to this partition
abbrev pub was_of : ℕ → Option PageRow → Bool
was_of part row = option_map_or (λ row. row.owner == part) row false

-- whether an effect names a page that had this row
abbrev pub names_page : Effect → ℕ → Option PageRow → Bool
names_page effect.Nothing number row = false
names_page (effect.Synic s) number row = false
names_page (effect.Page page owner pooled) number row = number == page
names_page (effect.Pages from to) number row = was_of from row
names_page (effect.Processor part vp) number row = false
names_page (effect.Partition part) number row = false

-- whether an effect names the processor with this index of a partition as one that was created or removed
abbrev pub names_processor : Effect → ℕ → ℕ → Bool
names_processor effect.Nothing id index = false
names_processor (effect.Synic s) id index = false
names_processor (effect.Page page owner pooled) id index = false
names_processor (effect.Pages from to) id index = false
names_processor (effect.Processor part vp) id index = (id == part) && (index == vp)
names_processor (effect.Partition part) id index = id == part

-- what an effect does not name is unchanged: each message, shown or waiting, each event flag, each pending
-- vector, the partition and pool of each page, and which processors exist
pub record LeavesUnnamed (effect : Effect) (f g : Flat) : Type 0 where
  pub messages : (at : Place) → names_messages effect at ≡ false → mail_at at g.mail ≡ mail_at at f.mail
  pub flags : (at : Place) (flag : ℕ) → names_flag effect at flag ≡ false
      → has_flag (get g.vp (at.part, at.vp)) at.sint flag ≡ has_flag (get f.vp (at.part, at.vp)) at.sint flag
  pub vectors : (part vp vector : ℕ) → names_vector effect part vp vector ≡ false
      → has_vector (get g.vp (part, vp)) vector ≡ has_vector (get f.vp (part, vp)) vector
  pub pages : (page : ℕ) → names_page effect page (get f.page page) ≡ false → get g.page page ≡ get f.page
      page
  pub processors : (part vp : ℕ) → names_processor effect part vp ≡ false
      → contains_key g.vp (part, vp) ≡ contains_key f.vp (part, vp)

-- one more message waits at a SINT that shows one, behind all others
pub record WaitsMore (at : Place) (f g : Flat) : Type 0 where
  pub behind : list_any is_shown (mail_at at f.mail) ≡ true
  pub message : MailRow
  pub waits : message.shown ≡ false
  pub last : mail_at at g.mail ≡ mail_at at f.mail ++ message ∷ []

-- the flag had the opposite value before
pub record IsTurned (s : Synic) (change : FlagChange) (f g : Flat) : Type 0 where
  pub before : has_flag (get f.vp (s.part, s.vp)) change.sint change.flag ≡ not change.is_set
  pub now : has_flag (get g.vp (s.part, s.vp)) change.sint change.flag ≡ change.is_set

-- the vector was the highest pending one, and is not pending afterwards
pub record IsTaken (s : Synic) (vector : ℕ) (f g : Flat) : Type 0 where
  pub highest : vector ≡ vector_of (get f.vp (s.part, s.vp))
  pub before : has_vector (get f.vp (s.part, s.vp)) vector ≡ true
  pub now : has_vector (get g.vp (s.part, s.vp)) vector ≡ false

-- the message that left its slot came through the port with this id of the processor's partition. An id has
-- 24 bits, and the effect has 32
pub record IsFreed (s : Synic) (port : ℕ) (f g : Flat) : Type 0 where
  pub sint : ℕ
  pub message : MailRow
  pub before : shown_at (place s.part s.vp sint) f.mail ≡ Some message
  pub by : port ≡ message.port % 2 ^ 32
  pub now : shown_at (place s.part s.vp sint) g.mail ≡ None

-- whether a SINT of the processor raises its vector, unless masked: it shows a message and showed none, or
-- the event set one of its flags
abbrev pub rings : Synic → Flat → Flat → ℕ → Bool
rings s f g sint = became_shown s.part s.vp f g sint
    || option_map_or (λ c. (sint == c.sint) && c.is_set) s.flag false

-- what is named at a processor is true
pub record IsSynic (s : Synic) (f g : Flat) : Type 0 where
  -- the slot shows another message than before, or one of the two is none
  pub shown : (sint : ℕ) → has_bit s.shown sint ≡ true
      → shown_at (place s.part s.vp sint) g.mail ≢ shown_at (place s.part s.vp sint) f.mail
  pub waiting : (sint : ℕ) → s.waiting ≡ Some sint → WaitsMore (place s.part s.vp sint) f g
  pub flag : (change : FlagChange) → s.flag ≡ Some change → IsTurned s change f g
  -- the raised vectors are exactly those of the SINTs that raise theirs, and each of them is pending
  pub raised : s.raised ≡ vectors_of (rings s f g) (registers_of (get g.vp (s.part, s.vp))) SINTS
  pub pending : (vector : ℕ) → set.contains s.raised vector ≡ true → has_vector (get g.vp (s.part, s.vp))
      vector ≡ true
  pub taken : (vector : ℕ) → s.taken ≡ Some vector → IsTaken s vector f g
  pub freed : (port : ℕ) → s.freed ≡ Some port → IsFreed s port f g
  -- if a message left its slot and no other is shown there, its port is named
  pub left : (sint : ℕ) (message : MailRow) → has_bit s.shown sint ≡ true → shown_at (place s.part s.vp sint)
      f.mail ≡ Some message
      → shown_at (place s.part s.vp sint) g.mail ≡ None → s.freed ≡ Some (message.port % 2 ^ 32)

-- the processor has no message, no event flag and no pending vector
pub record HasNothing (part vp : ℕ) (g : Flat) : Type 0 where
  pub messages : (sint : ℕ) → mail_at (place part vp sint) g.mail ≡ []
  pub flags : (sint flag : ℕ) → has_flag (get g.vp (part, vp)) sint flag ≡ false
  pub vectors : (vector : ℕ) → has_vector (get g.vp (part, vp)) vector ≡ false

-- the life state of a partition, if it exists
abbrev pub life_of : Flat → ℕ → Option Life
life_of f id = option_map (λ row. row.life) (get f.part id)

-- the page is where the effect says, and the partition that it belonged to before still exists
pub record IsMoved (page : ℕ) (row : PageRow) (f g : Flat) : Type 0 where
  pub now : get g.page page ≡ Some row
  pub owner : option_map_or (λ row. contains_key g.part row.owner) (get f.page page) false ≡ true

-- the partition `from` does not exist, and each page that it had is a loose page of `to`
pub record ArePassedOn (from to : ℕ) (f g : Flat) : Type 0 where
  pub gone : contains_key g.part from ≡ false
  pub pages : (page : ℕ) → was_of from (get f.page page) ≡ true
      → get g.page page ≡ Some (record { owner = to; pooled = false })

-- the processor's partition is Active, and the processor has nothing
pub record IsProcessor (part vp : ℕ) (g : Flat) : Type 0 where
  pub life : life_of g part ≡ Some Active
  pub nothing : HasNothing part vp g

-- the partition is Finalized, and none of its processors exists or has anything
pub record IsFinalized (part : ℕ) (g : Flat) : Type 0 where
  pub life : life_of g part ≡ Some Finalized
  pub gone : (vp : ℕ) → contains_key g.vp (part, vp) ≡ false
  pub nothing : (vp : ℕ) → HasNothing part vp g

-- what an effect names is true
abbrev pub IsSo : Effect → Flat → Flat → Type 0
IsSo effect.Nothing f g = Unit {0}
IsSo (effect.Synic s) f g = IsSynic s f g
IsSo (effect.Page page owner pooled) f g = IsMoved page (record { owner = owner; pooled = pooled }) f g
IsSo (effect.Pages from to) f g = ArePassedOn from to f g
IsSo (effect.Processor part vp) f g = IsProcessor part vp g
IsSo (effect.Partition part) f g = IsFinalized part g

-- whether the effect at a processor names a message, an event flag or a taken vector
abbrev pub names_some : Synic → Bool
names_some s = (not (s.shown == 0) || is_some s.waiting) || (is_some s.flag || is_some s.taken)

-- a page of a partition
pub record HasPage (part : ℕ) (f : Flat) : Type 0 where
  pub page : ℕ
  pub is : was_of part (get f.page page) ≡ true

-- a processor of a partition
pub record HasProcessor (part : ℕ) (f : Flat) : Type 0 where
  pub vp : ℕ
  pub is : contains_key f.vp (part, vp) ≡ true

-- an effect other than Nothing names something that is not as it was: a message, an event flag, a taken
-- vector, a page, or whether a processor exists
abbrev pub IsChange : Effect → Flat → Flat → Type 0
IsChange effect.Nothing f g = Unit {0}
IsChange (effect.Synic s) f g = names_some s ≡ true
IsChange (effect.Page page owner pooled) f g = get f.page page ≢ Some
    (record { owner = owner; pooled = pooled })
IsChange (effect.Pages from to) f g = HasPage from f × (from ≢ to)
IsChange (effect.Processor part vp) f g = contains_key g.vp (part, vp) ≡ not (contains_key f.vp (part, vp))
IsChange (effect.Partition part) f g = HasProcessor part f

-- an effect describes the change from `f` to `g`: what it names is true in `g` and is not as it was, and
-- everything else is unchanged
pub record Tells (effect : Effect) (f g : Flat) : Type 0 where
  pub unnamed : LeavesUnnamed effect f g
  pub named : IsSo effect f g
  pub changed : IsChange effect f g
