-- The lines of the tables, made of the definitions and constants that contracts cite.
use Rattle.std.specs.Prelude.{ℕ, ◌==◌, Bool, List, [], ◌∷◌, find, is_none, map, Option, Some, filter}
use Rattle.std.specs.Prelude.{option_map}
use Rattle.std.specs.FinMap.{empty, from_entries, get}
use Rattle.std.specs.FinSet as set
use Rattle.std.specs.FinSet.{from_list}
use Rattle.hv_abi.specs.CallRow.{row_of, input_len, output_len}
use Rattle.hv_abi.specs.Check.{first_fault, input_of}
use Rattle.hv_abi.specs.Status.{status_code, status_name}
use Rattle.hv_abi.specs.declared.call_kind.CallKind.{CallKind}
use Rattle.hv_abi.specs.declared.frame.AbiFault.{AbiFault}
use Rattle.hv_abi.specs.declared.frame.Frame.{Frame}
use Rattle.hv_abi.specs.declared.status.Status.{Status}
use Rattle.hv_calls.specs.Call.{kind_of_call}
use Rattle.hv_calls.specs.declared.call.Call.{Call}
use Rattle.hv_defs.specs.Flags.{flag_bytes}
use Rattle.hv_defs.specs.declared.aim.Aim.{Aim}
use Rattle.hv_defs.specs.declared.life.Life.{Life}
use Rattle.hv_defs.specs.declared.life.Life.TheVariants.{Created, Active, Finalized}
use Rattle.hv_defs.specs.declared.registers.Takes.{Takes}
use Rattle.hv_defs.specs.declared.registers.TheConstants.{REGISTERS, SCONTROL, SIEFP, SIMP}
use Rattle.hv_defs.specs.declared.sizes.TheConstants.{FIRST_CHILD_ID}
use Rattle.hv_privs.specs.Privileges.{bits_of, of}
use Rattle.hv_policy.specs.Aim.{has_target, is_ready_for_flags, is_ready_for_messages, select_vp}
use Rattle.hv_policy.specs.Boot.{root_row}
use Rattle.hv_policy.specs.Effect.{mask_of, property_set}
use Rattle.hv_policy.specs.Flat.{Flat, VpRow}
use Rattle.hv_policy.specs.Needs.{needs_of, is_among, charge_of, takes_memory}
use Rattle.hv_policy.specs.Rule.{rule_number, rule_name, rule_status}
use Rattle.hv_policy.specs.Rules.{action_asks, first_unmet, further_asks, rules_of}
use Rattle.hv_policy.specs.declared.event.Action.{Action}
use Rattle.hv_policy.specs.declared.need.Kin.{Kin}
use Rattle.hv_policy.specs.declared.need.States.{States}
use Rattle.hv_policy.specs.declared.property.Property.TheVariants.{PrivilegeFlags}
use Rattle.hv_policy.specs.declared.rule.Rule.{Rule}

-- a call's code, whether it is a rep call, and whether it accepts the fast bit
abbrev pub frame_line : CallKind → ℕ × Bool × Bool
frame_line kind = ((row_of kind).code, (row_of kind).rep, (row_of kind).fast)

-- the lengths of its input and output list for a rep count
abbrev pub list_line : CallKind → ℕ → ℕ × ℕ
list_line kind reps = (input_len (row_of kind) reps, output_len (row_of kind) reps)

-- the life states that a target may be in
abbrev pub lives : States → List Life
lives states = filter (λ life. is_among life states) (Created ∷ Active ∷ Finalized ∷ [])

-- the mask with the privilege that a call needs, which partitions may be its target, and their life states
abbrev pub need_line : Call → ℕ × Kin × List Life
need_line call = (bits_of (needs_of call).privilege, (needs_of call).kin, lives (needs_of call).states)

-- the numbers of a call's further rules in a state and for a caller, its charge in pages, and whether it may
-- need memory of the host
abbrev pub rules_line : Flat → ℕ → Call → List ℕ × ℕ × Bool
rules_line f caller call = (
  map rule_number (rules_of (further_asks f caller call)),
  charge_of call,
  takes_memory (kind_of_call call),
)

-- the numbers of the rules that apply to an access beyond those of its caller
abbrev pub asked_line : Flat → ℕ → Action (Unit {0}) → List ℕ
asked_line f caller access = map rule_number (rules_of (action_asks f caller access))

-- whether these rules hold, as they do if the SINT and the flag that it names exist
abbrev pub subject_line : Flat → ℕ → Action (Unit {0}) → Bool
subject_line f caller access = is_none (first_unmet (action_asks f caller access))

-- a rule's number, its name, and the number of the status with which it refuses a call
abbrev pub rule_line : Rule → Option CallKind → ℕ × List ℕ × Option ℕ
rule_line rule call = (rule_number rule, rule_name rule, option_map status_code (rule_status rule call))

-- a status's number and name
abbrev pub status_line : Status → ℕ × List ℕ
status_line status = (status_code status, status_name status)

-- a register's number as an MSR, the bits of the privilege that its access needs, and which values it takes,
-- by its name
abbrev pub access_line : ℕ → Option (Option ℕ × ℕ × Takes)
access_line name = option_map (λ row. (row.msr, row.privilege, row.takes))
    (find (λ row. row.name == name) REGISTERS)

-- a frame with these registers and without bytes of input
abbrev pub bare_frame : ℕ → ℕ → ℕ → Frame (Unit {0})
bare_frame rcx rdx r8 = record { rcx = rcx; rdx = rdx; r8 = r8; input = [] }

-- the first fault of the frame with these registers, if it has one
abbrev pub fault_line : ℕ → ℕ → ℕ → Option AbiFault
fault_line rcx rdx r8 = first_fault (bare_frame rcx rdx r8)

-- the input bytes of that frame, given whether it is fast
abbrev pub input_line : ℕ → ℕ → Bool → List ℕ
input_line rdx r8 fast = input_of (bare_frame 0 rdx r8) fast

-- the bytes of a SINT's event flags if these flags, as (SINT, flag), are set
abbrev pub flags_line : List (ℕ × ℕ) → ℕ → List ℕ
flags_line flags sint = flag_bytes (from_list flags) sint

-- a state with these partitions alone, by id, parent, life state and mask
abbrev pub family : List (ℕ × Option ℕ × Life × ℕ) → Flat
family rows = record {
  part = from_entries (map (λ (id, parent, life, mask).
      (id, record (root_row (of mask)) { parent = parent; life = life })) rows);
  page = empty;
  vp = empty;
  port = empty;
  conn = empty;
  mail = [];
  next = FIRST_CHILD_ID;
  served = 0;
}

-- the masks of these partitions, in their order, after one of them is given a mask
unfoldable pub masks_line : List (ℕ × Option ℕ × Life × ℕ) → ℕ → ℕ → List ℕ
masks_line rows target mask =
    map (λ row. bits_of (mask_of (get (property_set (family rows) target (Some PrivilegeFlags) mask) row.0)))
    rows

-- processors by partition, index, SCONTROL, SIEFP and SIMP. In partition 2, the first takes neither messages
-- nor event flags, the next takes event flags, the next messages, and the last two both. Partition 3 has one,
-- whose SCONTROL has bit 0 clear
abbrev pub staff : List (ℕ × ℕ × ℕ × ℕ × ℕ)
staff =
    (1, 0, 1, 1, 1) ∷ (2, 0, 0, 1, 1) ∷ (2, 1, 1, 1, 0) ∷ (2, 4, 1, 0x3000, 0x3001) ∷ (2, 5, 1, 1, 1) ∷
    (2, 6, 1, 1, 1)
    ∷ (3, 0, 0xFE, 1, 1) ∷ []

abbrev pub vp_with : ℕ → ℕ → ℕ → VpRow
vp_with scontrol siefp simp =
    record {
      registers = from_entries ((SCONTROL, scontrol) ∷ (SIEFP, siefp) ∷ (SIMP, simp) ∷ []);
      flags =
          set.empty;
      pending = set.empty;
    }

abbrev pub vps_of : List (ℕ × ℕ × ℕ × ℕ × ℕ) → List ((ℕ × ℕ) × VpRow)
vps_of rows = map (λ (part, vp, scontrol, siefp, simp). ((part, vp), vp_with scontrol siefp simp)) rows

-- a state with these processors alone
abbrev pub staffed : List (ℕ × ℕ × ℕ × ℕ × ℕ) → Flat
staffed rows = record (family []) { vp = from_entries (vps_of rows) }

-- the processors that take a message and an event flag for a port of a partition with this aim
unfoldable pub takers_line : List (ℕ × ℕ × ℕ × ℕ × ℕ) → ℕ → Aim → Option ℕ × Option ℕ
takers_line rows id aim = (
  select_vp is_ready_for_messages (staffed rows) id aim,
  select_vp is_ready_for_flags
      (staffed rows) id aim,
)

-- whether P19 holds for that aim
unfoldable pub is_target_line : List (ℕ × ℕ × ℕ × ℕ × ℕ) → ℕ → Aim → Bool
is_target_line rows id aim = has_target (staffed rows) id aim
