-- Births that are kept are past.
use Rattle.std.proofs.Common.{◌≡◌, ℕ, ◌≤◌, ◌==◌, nat_le, not, Bool, true, false, cond, List, [], ◌∷◌, Option, Some, None, refl, sym, ap, subst, ◌∙◌, arith, leb-true}
use Rattle.std.proofs.lemmas.Bool.{and_parts}
use Rattle.std.specs.FinMap.{FinMap, get, insert, remove, get-insert, get-remove}
use Rattle.std.specs.List.{AllByRecursion}
use Rattle.std.specs.Ordering.{eq_by_cmp}
use Rattle.hv_calls.specs.declared.call.Call.{Call}
use Rattle.hv_calls.specs.declared.call.Call.TheVariants.{FinalizePartition, SetVpRegisters, DisconnectPort, PostMessage, SignalEvent, ConnectPort}
use Rattle.hv_defs.specs.Flags.{pair_cmp}
use Rattle.hv_defs.specs.Registers.{name_of_msr}
use Rattle.hv_invariants.proofs.ServedCount.{action_served}
use Rattle.hv_invariants.proofs.MessageChanges.{msr_counted, posted_counted, register_counted, signalled_counted}
use Rattle.hv_invariants.specs.StateInvariant.{StateInvariant, is_aimed, is_placed}
use Rattle.hv_policy.proofs.Pairs.{pair_cmp_total}
use Rattle.hv_policy.proofs.Rows.{get-rows_but}
use Rattle.hv_policy.specs.Aim.{aim_of}
use Rattle.hv_policy.specs.Call.{called}
use Rattle.hv_policy.specs.Effect.{action_effect, born_of, call_effect, rows_but, served_effect}
use Rattle.hv_policy.specs.Flat.{ConnRow, Flat, MailRow, PortRow}
use Rattle.hv_policy.specs.Needs.{resolved_id, target_of}
use Rattle.hv_policy.specs.Rules.{unmet}
use Rattle.hv_policy.specs.Step.{step, step_by}
use Rattle.hv_policy.specs.declared.event.Action.{Action}
use Rattle.hv_policy.specs.declared.event.Action.TheVariants.{Hypercall, WriteMsr}
use Rattle.hv_policy.specs.declared.event.Caller.{Caller}
use Rattle.hv_policy.specs.declared.event.Event.{Event}
use Rattle.hv_policy.specs.declared.rule.Rule.{Rule}
use Rattle.hv_security.specs.Alike.{AreConnsPast, ArePast}

module _ (pages : ℕ) (f : Flat) (l : StateInvariant pages f) (past : AreConnsPast f) where
  abbrev Fine : FinMap pair_cmp ConnRow → Type 0
  Fine conns = (key : ℕ × ℕ) (row : ConnRow) → get conns key ≡ Some row → row.born ≤ f.served

  same : (conns : FinMap pair_cmp ConnRow) → conns ≡ f.conn → Fine conns
  same conns is key row there = past key row (ap (λ m. get m key) (sym is) ∙ there)

  left : (target : ℕ) → Fine (rows_but target f.conn)
  left target key row there = by (not (key.0 == target)) (sym (get-rows_but f.conn target key) ∙ there)
    where
      by : (b : Bool) → cond b (get f.conn key) None ≡ Some row → row.born ≤ f.served
      by true is = past key row is
      by false is = cc

  removed : (at : ℕ × ℕ) → Fine (remove f.conn at)
  removed at key row there = by (eq_by_cmp pair_cmp key at) (sym (get-remove pair_cmp_total f.conn at key) ∙ there)
    where
      by : (b : Bool) → cond b None (get f.conn key) ≡ Some row → row.born ≤ f.served
      by true is = cc
      by false is = past key row is

  inserted : (at : ℕ × ℕ) (new : ConnRow) → new.born ≤ f.served → Fine (insert f.conn at new)
  inserted at new less key row there = by (eq_by_cmp pair_cmp key at) (sym (get-insert pair_cmp_total f.conn at new key) ∙ there)
    where
      by : (b : Bool) → cond b (Some new) (get f.conn key) ≡ Some row → row.born ≤ f.served
      by true is = let one : new ≡ row = cc in subst (λ (row : ConnRow). row.born ≤ f.served) one less
      by false is = past key row is

  port_past : (key : ℕ × ℕ) → born_of (get f.port key) ≤ f.served
  port_past key = by (get f.port key) refl
    where
      by : (r : Option PortRow) → get f.port key ≡ r → born_of r ≤ f.served
      by None is = omega arith
      by (Some row) is = (l.ports key row is).born

  call_conns : (call : Call) (caller target : ℕ) → Fine (call_effect call f caller target).conn
  call_conns (FinalizePartition partition) caller target = left target
  call_conns (SetVpRegisters partition vp name value) caller target = same _ (register_counted target vp name value f).conn
  call_conns (DisconnectPort partition connection) caller target = removed (target, connection)
  call_conns (PostMessage connection message_type payload) caller target = same _ (posted_counted (aim_of f (target, connection)) message_type payload f).conn
  call_conns (SignalEvent connection flag) caller target = same _ (signalled_counted (aim_of f (target, connection)) flag f).conn
  call_conns (ConnectPort partition connection port_partition port port_kind) caller target = inserted (target, connection) _ (port_past (resolved_id caller port_partition, port))
  call_conns call caller target = past

  served_conns : (caller : ℕ) (call : Option Call) → Fine (served_effect f caller call).conn
  served_conns caller None = past
  served_conns caller (Some call) = call_conns call caller (target_of call caller)

  action_conns : {A : Type 0} (by : Caller) (what : Action A) → Fine (action_effect f by what).conn
  action_conns by (Hypercall frame) = served_conns by.part (called frame)
  action_conns by (WriteMsr msr value) = same _ (msr_counted by.part by.vp (name_of_msr msr) value f).conn
  action_conns by what = past

  pub step_past : {A : Type 0} (e : Event A) → AreConnsPast (step f e).0
  step_past e = by (unmet f e)
    where
      by : (rule : Option Rule) → AreConnsPast (step_by f e rule).0
      by None key row is = (let less = action_conns e.by e.what key row is in let more = action_served e.what f e.by in omega arith)
      by (Some rule) key row is = past key row is

  all_past : (mail : List MailRow) → AllByRecursion (λ row. is_placed f row ≡ true) mail → AllByRecursion (λ row. row.born ≤ f.served) mail
  all_past [] h = tt
  all_past (row ∷ mail) h = (leb-true row.born f.served (and_parts (nat_le row.born f.served) (is_aimed row (get f.port (row.part, row.port))) h.0).0, all_past mail h.1)

  pub births_past : ArePast f
  births_past = record { ports = λ key row is. (l.ports key row is).born; conns = past; mail = all_past f.mail l.placed }
