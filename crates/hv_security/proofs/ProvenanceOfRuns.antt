-- Where everything comes from in each state of a run.
use Rattle.std.proofs.Common.{◌≡◌, ℕ, ◌+◌, ◌≤◌, ◌==◌, ◌&&◌, not, nat_lt, Bool, true, false, cond, List, [], ◌∷◌, ◌++◌, suc, length, take, Option, Some, None, refl, sym, ap, subst, ◌∙◌, arith, add-one}
use Rattle.std.proofs.Common.{add-zero, zero-add, append_assoc, append-nil, length-append}
use Rattle.std.specs.FinMap.{get, get-empty}
use Rattle.std.specs.FinSet.{contains, contains-empty}
use Rattle.hv_abi.specs.Check.{call_of}
use Rattle.hv_calls.specs.declared.call.Call.{Call}
use Rattle.hv_calls.specs.declared.call.Call.TheVariants.{CreatePort}
use Rattle.hv_defs.specs.Flags.{pair_cmp}
use Rattle.hv_defs.specs.Registers.{name_of_msr}
use Rattle.hv_invariants.proofs.BootState.{vp_at}
use Rattle.hv_invariants.proofs.ServedCount.{action_served}
use Rattle.hv_invariants.proofs.MetRules.{is_served as granted_of}
use Rattle.hv_policy.specs.Answer.{action_answer, is_done}
use Rattle.hv_policy.specs.Boot.{boot, start_vp}
use Rattle.hv_policy.specs.Call.{called}
use Rattle.hv_policy.specs.Effect.{action_effect, effect, served_effect}
use Rattle.hv_policy.specs.Flat.{ConnRow, Flat, PortRow}
use Rattle.hv_policy.specs.Mail.{place_at, stands_at}
use Rattle.hv_policy.specs.Step.{run, run_from, step, step_by, refusal, denied_with}
use Rattle.hv_policy.specs.Rules.{unmet}
use Rattle.hv_policy.specs.declared.config.Config.{Config}
use Rattle.hv_policy.specs.declared.event.Action.{Action}
use Rattle.hv_policy.specs.declared.event.Action.TheVariants.{Hypercall, WriteMsr, ClearSlot, ClearFlag, TakeInterrupt}
use Rattle.hv_policy.specs.declared.event.Caller.{Caller}
use Rattle.hv_policy.specs.declared.event.Event.{Event}
use Rattle.hv_policy.specs.declared.reply.Reply.TheVariants.{Served, More}
use Rattle.hv_policy.specs.Rule.{rule_status}
use Rattle.hv_abi.specs.declared.status.Status.{Status}
use Rattle.hv_policy.specs.declared.rule.Rule.{Rule}
use Rattle.hv_security.specs.Operation.{Operation, IsRefused, action_deed, call_operation, called_deed, operation_of, operations_of, served_deed, served_to, was_served}
use Rattle.hv_security.specs.Justified.{AreOfPeers, WerePosted, state_before}
use Rattle.hv_security.proofs.Operations.{all_served, counted_one, counts, did_within, more, served_all, served_rises}
use Rattle.hv_security.proofs.SignalledFlags.{AreSignalled, flags_call, flags_cleared, flags_still}
use Rattle.hv_security.proofs.UnchangedRows.{msr_keeps, set_kept, test_vp}
use Rattle.hv_security.proofs.PostedMessages.{mail_call}
use Rattle.hv_security.proofs.PortPeers.{call_peers, peers_still}
use Rattle.hv_security.proofs.MadePorts.{AreConnected, AreMade, conns_call, conns_still, ports_call, ports_still}
use Rattle.hv_security.proofs.RowsOneEntryLater.{mail_left, mail_still}

-- where everything of a state comes from, once that was done
pub record IsKnown (states : ℕ → Flat) (operations : List Operation) (f : Flat) : Type 0 where
  pub served : f.served ≡ all_served operations
  pub ports : AreMade operations f.port
  pub conns : AreConnected operations f.conn
  pub peers : AreOfPeers f
  pub mail : WerePosted states operations 0 f.mail
  pub flags : AreSignalled states operations f.vp

-- but for the count
record IsTold (states : ℕ → Flat) (operations : List Operation) (f : Flat) : Type 0 where
  ports : AreMade operations f.port
  conns : AreConnected operations f.conn
  peers : AreOfPeers f
  mail : WerePosted states operations 0 f.mail
  flags : AreSignalled states operations f.vp

-- an event that is served counts as one, is answered so, and one that is refused isn't
call_counts : (call : Call) (caller : ℕ) → was_served (call_operation call caller) ≡ true
call_counts (CreatePort partition port peer port_kind sint vp base count) caller = refl
call_counts call caller = refl

action_counts : {A : Type 0} (by : Caller) (what : Action A) → was_served (action_deed by what) ≡ true
action_counts by (Hypercall frame) = counts (called frame)
  where
    counts : (call : Option Call) → was_served (called_deed call by.part) ≡ true
    counts None = refl
    counts (Some call) = call_counts call by.part
action_counts by what = refl

answered : {A : Type 0} (f : Flat) (by : Caller) (what : Action A) → operation_of (record { by = by; what = what }) (action_answer f by what) ≡ action_deed by what
answered f by (Hypercall frame) = done (is_done frame (call_of frame)) _ _
  where
    done : (b : Bool) (next : ℕ) (bytes : List ℕ) → operation_of (record { by = by; what = Hypercall frame }) (cond b (Served bytes) (More next bytes)) ≡ action_deed by (Hypercall frame)
    done true next bytes = refl
    done false next bytes = refl
answered f by what = refl

refused : {A : Type 0} (by : Caller) (what : Action A) (rule : Rule) → operation_of (record { by = by; what = what }) (refusal what rule) ≡ IsRefused
refused by (Hypercall frame) rule = denied (rule_status rule (call_of frame))
  where
    denied : (status : Option Status) → operation_of (record { by = by; what = Hypercall frame }) (denied_with frame rule status) ≡ IsRefused
    denied None = refl
    denied (Some status) = refl
refused by what rule = refl

-- an event that is refused leaves all as it was
known_refused : (states : ℕ → Flat) (operations : List Operation) (f : Flat) → IsKnown states operations f → IsKnown states (more operations IsRefused) f
known_refused states operations f k = record {
  served = (let before = k.served in let more_served = counted_one operations IsRefused in omega (arith, before, more_served));
  ports = ports_still operations _ f.port _ refl (λ key h. cc) (λ key h. cc) k.ports;
  conns = conns_still operations _ f.conn _ refl (λ key h. cc) (λ key h. cc) k.conns;
  peers = k.peers;
  mail = mail_still operations _ states (λ row h. cc) (λ row h. cc) f.mail 0 k.mail;
  flags = flags_still states operations _ f.vp k.flags f.vp (λ id vp sint flag. refl) (λ id vp h. cc) (λ id h. cc) (λ id vp sint flag h. cc);
}

-- the births that connections keep are past
births_past : (states : ℕ → Flat) (operations : List Operation) (f : Flat) → IsKnown states operations f → (key : ℕ × ℕ) (conn : ConnRow) → get f.conn key ≡ Some conn → conn.born ≤ f.served
births_past states operations f k key conn is =
    let was = k.conns key conn is in
    let rises = served_rises operations was.stood.from (length operations) (did_within operations _ _ was.stood.making.made) in
    let whole = served_all operations (length operations) (omega arith) in
    let birth = was.stood.making.birth in
    let born = was.born in
    let same = k.served in
    omega (arith, rises, whole, birth, born, same)

-- where the event of the next entry comes in this state
module _ {A : Type 0} (states : ℕ → Flat) (operations : List Operation) (f : Flat) (now : states (length operations + 1) ≡ f) (k : IsKnown states operations f) where
  by_action : (by : Caller) (what : Action A) → unmet f (record { by = by; what = what }) ≡ None → IsTold states (more operations (action_deed by what)) (action_effect f by what)
  by_action by (Hypercall frame) h =
      let served = granted_of f by frame h in
      subst (λ call. IsTold states (more operations (called_deed call by.part)) (served_effect f by.part call)) (sym served.called)
      (record {
        ports = ports_call operations f by.part k.served k.ports served.call;
        conns = conns_call operations f by.part k.served k.ports k.conns served.call served.granted;
        peers = call_peers f k.peers (births_past states operations f k) by.part served.call served.granted;
        mail = mail_call states operations f now k.ports k.conns k.peers k.mail by.part served.call served.granted;
        flags = flags_call states operations f now k.ports k.conns k.peers k.flags by.part served.call served.granted;
      })
  by_action by (WriteMsr msr value) h =
      let keeps = msr_keeps by.part by.vp (name_of_msr msr) value f in
      record {
        ports = ports_still operations _ f.port _ keeps.port (λ key h. cc) (λ key h. cc) k.ports;
        conns = conns_still operations _ f.conn _ keeps.conn (λ key h. cc) (λ key h. cc) k.conns;
        peers = peers_still f k.peers (births_past states operations f k) _ _ keeps.port keeps.conn;
        mail = keeps.mail states _ 0 (mail_still operations _ states (λ row h. cc) (λ row h. cc) f.mail 0 k.mail);
        flags = flags_still states operations _ f.vp k.flags _ keeps.flags (λ id vp h. cc) (λ id h. cc) (λ id vp sint flag h. cc);
      }
  by_action by (ClearSlot sint) h = record {
    ports = ports_still operations _ f.port _ refl (λ key h. cc) (λ key h. cc) k.ports;
    conns = conns_still operations _ f.conn _ refl (λ key h. cc) (λ key h. cc) k.conns;
    peers = k.peers;
    mail = mail_left operations _ states (λ row. not (stands_at (place_at by sint) row && row.shown)) (λ row is h. cc) (λ row is h. cc) f.mail 0 0 (omega arith) k.mail;
    flags = flags_still states operations _ f.vp k.flags f.vp (λ id vp sint flag. refl) (λ id vp h. cc) (λ id h. cc) (λ id vp sint flag h. cc);
  }
  by_action by (ClearFlag sint flag) h = record {
    ports = ports_still operations _ f.port _ refl (λ key h. cc) (λ key h. cc) k.ports;
    conns = conns_still operations _ f.conn _ refl (λ key h. cc) (λ key h. cc) k.conns;
    peers = k.peers;
    mail = mail_still operations _ states (λ row h. cc) (λ row h. cc) f.mail 0 k.mail;
    flags = flags_cleared states operations _ f.vp k.flags by.part by.vp sint flag refl;
  }
  by_action by TakeInterrupt h = record {
    ports = ports_still operations _ f.port _ refl (λ key h. cc) (λ key h. cc) k.ports;
    conns = conns_still operations _ f.conn _ refl (λ key h. cc) (λ key h. cc) k.conns;
    peers = k.peers;
    mail = mail_still operations _ states (λ row h. cc) (λ row h. cc) f.mail 0 k.mail;
    flags = flags_still states operations _ f.vp k.flags _ (set_kept f.vp (by.part, by.vp) _ (λ row. refl)) (λ id vp h. cc) (λ id h. cc) (λ id vp sint flag h. cc);
  }
  by_action by what h = record {
    ports = ports_still operations _ f.port _ refl (λ key h. cc) (λ key h. cc) k.ports;
    conns = conns_still operations _ f.conn _ refl (λ key h. cc) (λ key h. cc) k.conns;
    peers = k.peers;
    mail = mail_still operations _ states (λ row h. cc) (λ row h. cc) f.mail 0 k.mail;
    flags = flags_still states operations _ f.vp k.flags f.vp (λ id vp sint flag. refl) (λ id vp h. cc) (λ id h. cc) (λ id vp sint flag h. cc);
  }

  -- a served event
  known_effect : (e : Event A) → unmet f e ≡ None → IsKnown states (more operations (served_deed e)) (effect f e)
  known_effect e h =
      let told = by_action e.by e.what h in
      record {
        served = (
            let same = action_served e.what f e.by in
            let before = k.served in
            let more_served = counted_one operations (served_deed e) in
            let one : counts (served_deed e) ≡ 1 = ap (λ b. cond b 1 0) (action_counts e.by e.what) in
            omega (arith, same, before, more_served, one));
        ports = told.ports;
        conns = told.conns;
        peers = told.peers;
        mail = told.mail;
        flags = told.flags;
      }

  -- one event, with its reply
  known_step : (e : Event A) → IsKnown states (more operations (operation_of e (step f e).1)) (step f e).0
  known_step e = at (unmet f e) refl
    where
      at : (rule : Option Rule) → unmet f e ≡ rule → IsKnown states (more operations (operation_of e (step_by f e rule).1)) (step_by f e rule).0
      at None met = subst (λ operation. IsKnown states (more operations operation) (effect f e)) (sym (answered f e.by e.what)) (known_effect e met)
      at (Some rule) unmet = subst (λ operation. IsKnown states (more operations operation) f) (sym (refused e.by e.what rule)) (known_refused states operations f k)

module _ {A : Type 0} where
  -- any events, where the states in which they come are those of their run
  pub known_run : (states : ℕ → Flat) (before : List Operation) (f : Flat) (events : List (Event A)) → ((n : ℕ) → states (suc (length before + n)) ≡ (run_from f (take n events)).0) → IsKnown states
      before f
      → IsKnown states (before ++ operations_of events (run_from f events).1) (run_from f events).0
  known_run states before f [] came k = subst (λ operations. IsKnown states operations f) (sym (append-nil before)) k
  known_run states before f (e ∷ events) came k =
      let operation : Operation = operation_of e (step f e).1 in
      let now : states (length before + 1) ≡ f = ap states (add-one (length before) ∙ ap suc (sym (add-zero (length before)))) ∙ came 0 in
      let later : (n : ℕ) → suc (length (more before operation) + n) ≡ suc (length before + suc n) = λ n. omega (arith, length-append before (operation ∷ [])) in
      subst (λ operations. IsKnown states operations (run_from (step f e).0 events).0) (append_assoc before (operation ∷ []) (operations_of events (run_from (step f e).0 events).1))
      (known_run states (more before operation) (step f e).0 events (λ n. ap states (later n) ∙ came (suc n)) (known_step states before f now k e))

  -- an entry has one deed
  pub one_deed : (f : Flat) (events : List (Event A)) → length (operations_of events (run_from f events).1) ≡ length events
  one_deed f [] = refl
  one_deed f (e ∷ events) = ap suc (one_deed (step f e).0 events)

-- at boot there is nothing
known_boot : (states : ℕ → Flat) (config : Config) → IsKnown states [] (boot config)
known_boot states config = record {
  served = refl;
  ports = λ key port is. (let none = get-empty {X = PortRow} pair_cmp key in cc);
  conns = λ key conn is. (let none = get-empty {X = ConnRow} pair_cmp key in cc);
  peers = λ key conn port is there same. absent key conn port.peer key.0 is;
  mail = tt;
  flags = λ id vp sint flag is. by sint flag (id == 1) (nat_lt vp config.vps) vp (sym (ap (test_vp (λ row. contains row.flags (sint, flag))) (vp_at config id vp)) ∙ is);
}
  where
    absent : (key : ℕ × ℕ) (conn : ConnRow) (n m : ℕ) → get (boot config).conn key ≡ Some conn → n ≡ m
    absent key conn n m is = let clash = sym (get-empty {X = ConnRow} pair_cmp key) ∙ is in cc

    by : (sint flag : ℕ) (b c : Bool) (vp : ℕ) {P : Type 0} → test_vp (λ row. contains row.flags (sint, flag)) (cond b (cond c (Some (start_vp vp)) None) None) ≡ true → P
    by sint flag true true vp is = let none = contains-empty pair_cmp (sint, flag) in absurd (cc)
    by sint flag true false vp is = absurd (cc)
    by sint flag false c vp is = absurd (cc)

pub known : {A : Type 0} (config : Config) (events : List (Event A)) → IsKnown (state_before config events) (operations_of events (run config events).1) (run config events).0
known config events =
    let states : ℕ → Flat = state_before config events in
    known_run states [] (boot config) events (λ n. ap (λ n. states (suc n)) (zero-add n)) (known_boot states config)

-- the count of served events is that of the deeds
pub run_served : {A : Type 0} (config : Config) (events : List (Event A)) → (run config events).0.served ≡ served_to (operations_of events (run config events).1) (length events)
run_served config events =
    let operations = operations_of events (run config events).1 in
    let same = one_deed (boot config) events in
    (known config events).served ∙ sym (served_all operations (length events) (omega (arith, same)))
