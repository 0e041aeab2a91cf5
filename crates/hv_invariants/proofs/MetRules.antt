-- What the rules tell that are met.
use Rattle.std.proofs.Common.{◌≡◌, ℕ, ◌+◌, ◌<◌, ◌≤◌, ◌==◌, ◌&&◌, ◌||◌, not, nat_le, nat_lt, Bool, true, false, cond, List, ◌++◌, Option, Some, None, is_some, refl, ap, subst, arith, eqb-true}
use Rattle.std.proofs.Common.{leb-true, ltb-true, option_map}
use Rattle.std.proofs.lemmas.Bool.{and_parts}
use Rattle.std.specs.FinMap.{get, contains_key}
use Rattle.hv_abi.specs.declared.call_kind.CallKind.{CallKind}
use Rattle.hv_abi.specs.declared.call_kind.CallKind.TheVariants as kind
use Rattle.hv_abi.specs.declared.frame.Frame.{Frame}
use Rattle.hv_abi.specs.Check.{call_of, input_of, is_fast}
use Rattle.hv_calls.specs.Call.{call_in, port_kind, are_well_formed}
use Rattle.hv_calls.specs.Params.{element_at, parameters}
use Rattle.hv_calls.specs.Fields.{are_flags, is_id, is_port_type}
use Rattle.hv_calls.specs.declared.call.Call.{Call}
use Rattle.hv_defs.specs.Bits.{bits}
use Rattle.hv_defs.specs.Field.{field}
use Rattle.hv_defs.specs.declared.port_kind.PortKind.TheVariants as kind_of_port
use Rattle.hv_defs.specs.declared.sizes.TheConstants.{EVENT_FLAGS, SINTS}
use Rattle.hv_policy.specs.Call.{call_event, called}
use Rattle.hv_policy.specs.Count.{available, is_parent}
use Rattle.hv_policy.specs.Effect.{flags_of}
use Rattle.hv_policy.specs.Flat.{Flat, PartRow}
use Rattle.hv_policy.specs.Met.{has_available, is_active, is_child, is_in, is_kin}
use Rattle.hv_policy.specs.Needs.{charge_of, is_among, needs_of, target_of}
use Rattle.hv_policy.specs.Rules.{AreMet, IsAllowed, caller_asks, frame_asks, hypercall_asks, unmet}
use Rattle.hv_policy.specs.declared.need.Kin.TheVariants as kin
use Rattle.hv_policy.specs.declared.event.Caller.{Caller}
use Rattle.hv_policy.proofs.Rows.{row_of}
use Rattle.hv_policy.proofs.Unmet.{all_met}
use Rattle.hv_invariants.specs.Bounded.{IsBounded}

-- the call that an event asks for, with its rules met
pub record IsServed {A : Type 0} (f : Flat) (by : Caller) (frame : Frame A) : Type 0 where
  pub call : Call
  pub called : called frame ≡ Some call
  pub bounded : IsBounded call
  pub granted : IsAllowed f by.part call

bounded_port : (type sint base count : ℕ) (a b : Bool) → (a && b && nat_lt sint SINTS && are_flags type base count) ≡ true → (sint < SINTS) ×
    (flags_of (port_kind type) base + flags_of (port_kind type) count ≤ EVENT_FLAGS)
bounded_port type sint base count a b h =
    let last = and_parts (a && b && nat_lt sint SINTS) (are_flags type base count) h in
    let third = and_parts (a && b) (nat_lt sint SINTS) last.0 in
    (ltb-true sint SINTS third.1, flags (type == 2) last.1)
  where
    flags : (e : Bool) → (not e || (nat_le 1 count && nat_le (base + count) EVENT_FLAGS)) ≡ true → flags_of (cond e kind_of_port.Event kind_of_port.Message) base + flags_of
        (cond e kind_of_port.Event kind_of_port.Message) count ≤ EVENT_FLAGS
    flags true h = leb-true (base + count) EVENT_FLAGS (and_parts (nat_le 1 count) (nat_le (base + count) EVENT_FLAGS) h).1
    flags false h = omega arith

-- a call whose parameters are well formed
pub bounded_call : (k : CallKind) (block : List ℕ) (element : ℕ) → are_well_formed k block element ≡ true → IsBounded (call_in k block element)
bounded_call kind.CreatePort block element h = bounded_port (field block 24 4) (field block 32 4) (field block 40 2) (field block 42 2) (is_id (field block 8 4)) (is_port_type (field block 24 4)) h
bounded_call k block element h = tt

-- so is that of a frame for which P4 to P7 are met
pub bounded_frame : {A : Type 0} (frame : Frame A) (k : CallKind) → AreMet (frame_asks k frame) → IsBounded (parameters k frame)
bounded_frame frame k h = bounded_call k (input_of frame (is_fast frame.rcx)) (element_at k (bits frame.rcx 48 12)) h.1.1.1.0

-- a call that no rule refuses is served
pub is_served : {A : Type 0} (f : Flat) (by : Caller) (frame : Frame A) → unmet f (call_event by frame) ≡ None → IsServed f by frame
is_served f by frame h = at (call_of frame) refl (all_met (caller_asks f by ++ hypercall_asks f by.part frame (call_of frame)) h)
  where
    at : (k : Option CallKind) → call_of frame ≡ k → AreMet (caller_asks f by ++ hypercall_asks f by.part frame k) → IsServed f by frame
    at None is h = (let coded : false ≡ true = h.1.1.1.0 in cc)
    at (Some k) is h =
        let past = h.1.1.1.1.1.1.1 in
        record {
          call = parameters k frame;
          called = ap (option_map (λ kind. parameters kind frame)) is;
          bounded = bounded_frame frame k (h.1.1.1.0, (h.1.1.1.1.0, (h.1.1.1.1.1.0, (h.1.1.1.1.1.1.0, tt))));
          granted = record { active = h.1.0; target = (past.0, (past.1.0, (past.1.1.0, tt))); further = past.1.1.1 };
        }

module _ (f : Flat) (caller : ℕ) (call : Call) (a : IsAllowed f caller call) where
  -- the caller is there
  pub caller_there : contains_key f.part caller ≡ true
  caller_there = let (row, is, active) = row_of f caller (λ row. is_active row.life) a.active in ap is_some is

  -- the target is there
  pub target_there : contains_key f.part (target_of call caller) ≡ true
  target_there = a.target.1.0

  -- and a child of the caller, where the call asks for one
  pub child_row : (needs_of call).kin ≡ kin.Child → (row : PartRow) × (get f.part (target_of call caller) ≡ Some row) × (row.parent ≡ Some caller)
  child_row is =
      let child : is_child f caller (target_of call caller) ≡ true = subst (λ k. is_kin k f caller (target_of call caller) ≡ true) is a.target.1.1.0 in
      let (row, there, parent) = row_of f (target_of call caller) (λ row. is_parent caller row.parent) child in
      (row, there, named row.parent parent)
    where
      named : (o : Option ℕ) → is_parent caller o ≡ true → o ≡ Some caller
      named None e = cc
      named (Some p) e = ap Some (eqb-true p caller e)

  -- and in one of the life states that the call allows, where it asks
  pub state_row : is_in f (target_of call caller) (needs_of call).states ≡ true → (row : PartRow) × (get f.part (target_of call caller) ≡ Some row) × (is_among row.life (needs_of call).states ≡ true)
  state_row h = row_of f (target_of call caller) (λ row. is_among row.life (needs_of call).states) h

  -- and may use what the call charges, where it asks
  pub charge_there : has_available f (target_of call caller) (charge_of call) ≡ true → charge_of call ≤ available f (target_of call caller)
  charge_there h = leb-true (charge_of call) (available f (target_of call caller)) h
