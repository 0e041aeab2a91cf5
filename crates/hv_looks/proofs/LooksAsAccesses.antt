-- A look shows what the access would return, where that would be served.
use Rattle.std.proofs.Common.{◌≡◌, ℕ, nat_lt, Bool, true, false, cond, List, [], ◌∷◌, Option, Some, None, is_some, IsSomeAnd, refl, sym, ap, ◌∙◌, option_map, option_and_then}
use Rattle.std.specs.Int.{w64, to_le_bytes}
use Rattle.hv_defs.specs.Flags.{flag_bytes}
use Rattle.hv_defs.specs.Registers.{name_of_msr}
use Rattle.hv_defs.specs.declared.sizes.TheConstants.{SINTS}
use Rattle.hv_machine.specs.Access.{access_event}
use Rattle.hv_policy.proofs.Unmet.{all_met}
use Rattle.hv_policy.specs.Answer.{answer, flags_at, msr_of, register_of, vector_of}
use Rattle.hv_policy.specs.Flat.{Flat, VpRow}
use Rattle.hv_policy.specs.Mail.{place_at, slot_at}
use Rattle.hv_policy.specs.Rules.{asks, unmet}
use Rattle.hv_policy.specs.Step.{step, step_by}
use Rattle.hv_policy.specs.declared.event.Access.{Access}
use Rattle.hv_policy.specs.declared.event.Access.TheVariants.{ReadFlags, ReadMsr, ReadSlot, TakeInterrupt}
use Rattle.hv_policy.specs.declared.event.Caller.{Caller}
use Rattle.hv_policy.specs.declared.event.Event.{Event}
use Rattle.hv_policy.specs.declared.reply.Reply.{Reply}
use Rattle.hv_policy.specs.declared.reply.Reply.TheVariants.{Served}
use Rattle.hv_looks.specs.Look.{ShowsServed, flags_seen, highest_of, msr_seen, pending_seen, slot_seen, vp_at}

module _ (A : Type 0) (f : Flat) (of : Caller) where
  abbrev event : Access → Event A
  event access = access_event of access

  told : (access : Access) → unmet f (event access) ≡ None → (step f (event access)).1 ≡ answer f (event access)
  told access met = ap (λ rule. (step_by f (event access) rule).1) met

  pub slot_served : (sint : ℕ) → ShowsServed f (event (ReadSlot sint)) (slot_seen f of sint)
  slot_served sint met = (let all = all_met (asks f (event (ReadSlot sint))) met in by (vp_at f of) (nat_lt sint SINTS) all.1.1.0 all.1.1.1.0)
    where
      by : (row : Option VpRow) (b : Bool) → is_some row ≡ true → b ≡ true
          → IsSomeAnd (cond b (option_map (λ row. slot_at (place_at of sint) f.mail) row) None) (λ bytes. (step f (event (ReadSlot sint))).1 ≡ Served bytes)
      by None b there within = cc
      by (Some row) false there within = cc
      by (Some row) true there within = told (ReadSlot sint) met

  pub flags_served : (sint : ℕ) → ShowsServed f (event (ReadFlags sint)) (flags_seen f of sint)
  flags_served sint met = (let all = all_met (asks f (event (ReadFlags sint))) met in by (vp_at f of) refl (nat_lt sint SINTS) all.1.1.0 all.1.1.1.0)
    where
      by : (row : Option VpRow) → vp_at f of ≡ row → (b : Bool) → is_some row ≡ true → b ≡ true
          → IsSomeAnd (cond b (option_map (λ row. flag_bytes row.flags sint) row) None) (λ bytes. (step f (event (ReadFlags sint))).1 ≡ Served bytes)
      by None is b there within = cc
      by (Some row) is false there within = cc
      by (Some row) is true there within = told (ReadFlags sint) met ∙ ap (λ (row : Option VpRow). Served (flags_at row sint)) is

  pub msr_served : (msr : ℕ) → ShowsServed f (event (ReadMsr msr)) (option_map (to_le_bytes w64) (msr_seen f of msr))
  msr_served msr met = (let all = all_met (asks f (event (ReadMsr msr))) met in by (vp_at f of) refl (name_of_msr msr) refl all.1.1.0 all.1.1.1.0)
    where
      by : (row : Option VpRow) → vp_at f of ≡ row → (name : Option ℕ) → name_of_msr msr ≡ name → is_some row ≡ true → is_some name ≡ true
          → IsSomeAnd (option_map (to_le_bytes w64) (option_and_then (λ row. option_map (register_of (Some row)) name) row)) (λ bytes. (step f (event (ReadMsr msr))).1 ≡ Served bytes)
      by None is name named there known = cc
      by (Some row) is None named there known = cc
      by (Some row) is (Some name) named there known = told (ReadMsr msr) met ∙ ap (λ (row : Option VpRow). Served (to_le_bytes w64 (msr_of row (name_of_msr msr)))) is ∙ ap
          (λ (name : Option ℕ). Served (to_le_bytes w64 (msr_of (Some row) name))) named

  pub pending_served : ShowsServed f (event TakeInterrupt) (option_map highest_of (pending_seen f of))
  pending_served met = (let all = all_met (asks f (event TakeInterrupt)) met in by (vp_at f of) refl all.1.1.0)
    where
      by : (row : Option VpRow) → vp_at f of ≡ row → is_some row ≡ true
          → IsSomeAnd (option_map highest_of (option_map (λ row. row.pending) row)) (λ bytes. (step f (event TakeInterrupt)).1 ≡ Served bytes)
      by None is there = cc
      by (Some row) is there = told TakeInterrupt met ∙ ap (λ (row : Option VpRow). Served (vector_of row ∷ [])) is
