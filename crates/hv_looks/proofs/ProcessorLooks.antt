-- What a look at a processor shows, in a state that a machine stands for.
use Rattle.std.proofs.Common.{◌≡◌, ℕ, ◌<◌, ◌≤◌, nat_lt, Bool, true, false, cond, Option, Some, None, is_some, refl, sym, ap, subst, ◌∙◌, le-ltb, lt-ltb, option_map, option_and_then}
use Rattle.std.specs.FinMap.{contains_key, get}
use Rattle.hv_defs.specs.Flags.{flag_bytes}
use Rattle.hv_defs.specs.Registers.{name_of_msr}
use Rattle.hv_defs.specs.declared.sizes.TheConstants.{SINTS}
use Rattle.hv_mail.specs.Mail.{at}
use Rattle.hv_mail.specs.Slot.{slot_bytes}
use Rattle.hv_machine.specs.IsFlat.{IsFlat}
use Rattle.hv_machine.specs.MachineInvariant.{MachineInvariant}
use Rattle.hv_machine.specs.State.{State}
use Rattle.hv_partition.specs.Partition.{PartitionState}
use Rattle.hv_policy.specs.Answer.{register_of}
use Rattle.hv_policy.specs.Flat.{Flat}
use Rattle.hv_policy.specs.Mail.{place_at, slot_at}
use Rattle.hv_policy.specs.declared.event.Caller.{Caller}
use Rattle.hv_admit.proofs.ChangedProcessorMail.{slot_told}
use Rattle.hv_admit.proofs.RoomIsNoState.{tied_roomless}
use Rattle.hv_admit.proofs.ChangedProcessor.{vp_in}
use Rattle.hv_admit.specs.Room.{roomless}
use Rattle.hv_admit.specs.Served.{TreeInvariant}
use Rattle.hv_admit.specs.Tie.{Refines, part_row, vp_row, vp_row_of}
use Rattle.hv_tree.specs.Rows.{Row, Rows}
use Rattle.hv_vp.specs.Vp.{VpState}
use Rattle.hv_looks.specs.Look.{at_sint, flags_seen, msr_seen, slot_seen, vp_at}
use Rattle.hv_looks.specs.Rows.{vp_of, vp_there}

-- the tree of a machine is tied to what the machine stands for, and its rows are lawful
module _ (tree : Rows PartitionState) (m : State) (seen : roomless tree ≡ m.rows) where
  pub tree_tied : (f : Flat) → IsFlat m f → Refines tree f
  tree_tied f flat = tied_roomless tree f (subst (λ (rows : Rows PartitionState). Refines rows f) (sym seen) flat.tied)

  pub tree_lawful : MachineInvariant m → TreeInvariant tree
  tree_lawful l = record { pages = m.pages; bounded = l.bounded; flat = l.flat; tied = tree_tied l.flat l.stands; lawful = l.lawful }

  -- each id is below the next one
  pub tree_below : MachineInvariant m → (id : ℕ) → contains_key tree id ≡ true → id < m.next
  tree_below l id there = by (get tree id) refl there
    where
      by : (r : Option (Row PartitionState)) → get tree id ≡ r → is_some r ≡ true → id < m.next
      by None is there = cc
      by (Some r) is there = rw (sym l.stands.next) (l.lawful.below id (part_row r) (((tree_tied l.flat l.stands).rows id).part ∙ ap (option_map part_row) is))

-- nothing is shown of a SINT that there isn't
pub past_sint : {X : Type 0} (sint : ℕ) (shown : Option X) → SINTS ≤ sint → None ≡ at_sint sint shown
past_sint sint shown le = ap (λ b. cond b shown None) (sym (le-ltb sint SINTS le))

pub at_its_sint : {X : Type 0} (sint : ℕ) (shown : Option X) → sint < SINTS → shown ≡ at_sint sint shown
at_its_sint sint shown lt = ap (λ b. cond b shown None) (sym (lt-ltb sint SINTS lt))

module _ (rows : Rows PartitionState) (f : Flat) (flat : Refines rows f) (of : Caller) where
  by_row : (r : Option (Row PartitionState)) → vp_row of.vp r ≡ option_map vp_row_of (vp_of of.vp (option_map (λ r. r.1) r))
  by_row None = refl
  by_row (Some r) = refl

  in_row : (r : Option (Row PartitionState)) → vp_in of.vp r ≡ vp_of of.vp (option_map (λ r. r.1) r)
  in_row None = refl
  in_row (Some r) = refl

  -- the processor's flat row
  pub row_is : (v : Option VpState) → v ≡ vp_there rows of → vp_at f of ≡ option_map vp_row_of v
  row_is v is = (flat.rows of.part).vp of.vp ∙ by_row (get rows of.part) ∙ ap (option_map vp_row_of) (sym is)

  -- none where the processor isn't there
  module _ (gone : None ≡ vp_there rows of) where
    none : vp_at f of ≡ None
    none = row_is None gone

    pub no_slot : (sint : ℕ) → None ≡ slot_seen f of sint
    no_slot sint = by (nat_lt sint SINTS)
      where
        by : (b : Bool) → None ≡ cond b (option_map (λ row. slot_at (place_at of sint) f.mail) (vp_at f of)) None
        by true = sym (ap (option_map (λ row. slot_at (place_at of sint) f.mail)) none)
        by false = refl

    pub no_flags : (sint : ℕ) → None ≡ flags_seen f of sint
    no_flags sint = by (nat_lt sint SINTS)
      where
        by : (b : Bool) → None ≡ cond b (option_map (λ row. flag_bytes row.flags sint) (vp_at f of)) None
        by true = sym (ap (option_map (λ row. flag_bytes row.flags sint)) none)
        by false = refl

    pub no_msr : (msr : ℕ) → None ≡ msr_seen f of msr
    no_msr msr = sym (ap (option_and_then (λ row. option_map (register_of (Some row)) (name_of_msr msr))) none)

  module _ (v : VpState) (is : Some v ≡ vp_there rows of) where
    there : vp_at f of ≡ Some (vp_row_of v)
    there = row_is (Some v) is

    pub slot_is : (sint : ℕ) → sint < SINTS → Some (slot_bytes (at v.mail sint)) ≡ slot_seen f of sint
    slot_is sint lt =
        ap Some (sym (slot_told rows f flat of.part of.vp sint v (in_row (get rows of.part) ∙ sym is)))
        ∙ sym (ap (option_map (λ row. slot_at (place_at of sint) f.mail)) there)
        ∙ at_its_sint sint (option_map (λ row. slot_at (place_at of sint) f.mail) (vp_at f of)) lt

    pub flags_is : (sint : ℕ) → sint < SINTS → Some (flag_bytes v.flags sint) ≡ flags_seen f of sint
    flags_is sint lt =
        sym (ap (option_map (λ row. flag_bytes row.flags sint)) there)
        ∙ at_its_sint sint (option_map (λ row. flag_bytes row.flags sint) (vp_at f of)) lt

    pub msr_is : (msr : ℕ) (name : Option ℕ) → name ≡ name_of_msr msr → option_map (register_of (Some (vp_row_of v))) name ≡ msr_seen f of msr
    msr_is msr name named =
        ap (option_map (register_of (Some (vp_row_of v)))) named
        ∙ sym (ap (option_and_then (λ row. option_map (register_of (Some row)) (name_of_msr msr))) there)
