-- The processors of a partition as contracts see them.
use Rattle.std.specs.Prelude.{ℕ, ◌+◌, ◌-◌, ◌≤◌, Bool, find, List, length, map as list_map, min, nat_eq}
use Rattle.std.specs.Prelude.{Option, refl, sum_by, option_map}
use Rattle.std.specs.Coded.{Coded, code_by, coded×, coded_ℕ}
use Rattle.std.specs.FinMap as map
use Rattle.std.specs.List.{IsDistinct}
use Rattle.std.specs.Ordering.{nat_cmp}
use Rattle.hv_defs.specs.Registers.{takes_flags, takes_messages}
use Rattle.hv_defs.specs.declared.port_kind.PortKind.{PortKind}
use Rattle.hv_defs.specs.declared.port_kind.PortKind.TheVariants.{Message, Event}
use Rattle.hv_mail.specs.Mail.{count_of}
use Rattle.hv_vp.specs.Vp.{VpState, vp_code}
use Rattle.hv_vp.specs.declared.vps.Slot.{Slot}
use Rattle.hv_vp.specs.declared.vps.TheConstants.{MOST}

-- each processor by its index, and how many more there is room for
pub record VpsState : Type 0 where
  pub vps : map.FinMap nat_cmp VpState
  pub room : ℕ

abbrev pub vps_code : Coded VpsState
vps_code =
    code_by (map.FinMap nat_cmp VpState × ℕ) (coded× (map.code coded_ℕ vp_code) coded_ℕ)
    (λ v. (v.vps, v.room)) (λ t. record { vps = t.0; room = t.1 }) (λ _. refl)

-- the entries of a list of slots
abbrev pub entries_of : {A : Type 0} → List (Slot A) → List (ℕ × VpState)
entries_of slots = list_map (λ slot. (slot.index, slot.vp)) slots

-- the processors of a list of slots, by their indexes
unfoldable pub vps_of : {A : Type 0} → List (Slot A) → map.FinMap nat_cmp VpState
vps_of slots = map.from_entries (entries_of slots)

-- the view of a list of slots in a vector with this capacity; there is never room for more than `MOST` in all
abbrev pub seen_of : {A : Type 0} → List (Slot A) → ℕ → VpsState
seen_of slots capacity = record { vps = vps_of slots; room = min capacity MOST - length slots }

-- no two slots have the same index
abbrev pub AreDistinct : {A : Type 0} → List (Slot A) → Type 0
AreDistinct slots = IsDistinct nat_eq (list_map (λ slot. slot.index) slots)

-- the invariant of the slots: distinct indexes, and at most `MOST` slots
pub record AreSlots {A : Type 0} (slots : List (Slot A)) : Type 0 where
  pub distinct : AreDistinct slots
  pub few : length slots ≤ MOST

-- the processors with another state of one of them
abbrev pub with_vp : VpsState → ℕ → VpState → VpsState
with_vp v index vp = record v { vps = map.insert v.vps index vp }

-- a processor is ready for what a port of this kind takes
abbrev pub is_ready : PortKind → VpState → Bool
is_ready Message v = takes_messages v.registers
is_ready Event v = takes_flags v.registers

-- the lowest index of a processor that meets a test
abbrev pub lowest : (VpState → Bool) → map.FinMap nat_cmp VpState → Option ℕ
lowest test vps = option_map (λ e. e.0) (find (λ e. test e.1) (map.entries vps))

-- the number of messages of a port and birth at all processors together
abbrev pub kept_by_all : ℕ → ℕ → map.FinMap nat_cmp VpState → ℕ
kept_by_all port born vps = sum_by (λ e. count_of port born e.1.mail) (map.entries vps)

-- no processors, and no memory for any
abbrev pub no_vps : VpsState
no_vps = record { vps = map.empty; room = 0 }

-- the processors after all are removed, with the room that they leave
abbrev pub cleared : VpsState → VpsState
cleared v = record { vps = map.empty; room = v.room + map.len v.vps }
