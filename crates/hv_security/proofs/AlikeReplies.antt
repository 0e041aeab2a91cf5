-- The replies to a member are alike in two states in which members have the same.
use Rattle.std.proofs.Common.{◌≡◌, ℕ, ◌++◌, Bool, true, false, cond, nat_lt, length, List, [], ◌∷◌, map, Option, Some, None, find, is_some, refl, sym, ap, subst, ◌∙◌, option_map}
use Rattle.std.proofs.lemmas.List.{length-map}
use Rattle.std.specs.FinMap.{contains_key}
use Rattle.hv_abi.specs.Check.{call_of}
use Rattle.hv_abi.specs.declared.call_kind.CallKind.{CallKind}
use Rattle.hv_abi.specs.declared.frame.Frame.{Frame}
use Rattle.hv_calls.specs.Params.{parameters}
use Rattle.hv_calls.specs.declared.call.Call.{Call}
use Rattle.hv_calls.specs.declared.call.Call.TheVariants.{CreatePartition, PostMessage, SignalEvent, CreatePort, ConnectPort}
use Rattle.hv_invariants.proofs.MetRules.{is_served}
use Rattle.hv_policy.specs.Answer.{answer, output_of, reply_with}
use Rattle.hv_policy.specs.Call.{call_event, called}
use Rattle.hv_policy.specs.Flat.{Flat, MailRow}
use Rattle.hv_policy.specs.Mail.{is_shown, mail_at, row_bytes}
use Rattle.hv_policy.specs.Met.{has_privilege, is_active, is_kin, test_row}
use Rattle.hv_policy.specs.Needs.{needs_of, target_of}
use Rattle.hv_policy.specs.Rules.{Ask, IsAllowed, caller_asks, first_unmet, frame_asks, further_asks, hypercall_asks, target_asks, unmet}
use Rattle.hv_policy.specs.Step.{step}
use Rattle.hv_policy.specs.declared.event.Action.{Action}
use Rattle.hv_policy.specs.declared.event.Action.TheVariants.{Hypercall}
use Rattle.hv_policy.specs.declared.event.Caller.{Caller}
use Rattle.hv_policy.specs.declared.event.Event.{Event}
use Rattle.hv_policy.specs.declared.need.Kin.{Kin}
use Rattle.hv_policy.specs.declared.rule.Rule.TheVariants.{CallerExists, CallerActive, CallerVpExists, Privilege, TargetExists, TargetScope}
use Rattle.hv_privs.specs.Privileges.{contains}
use Rattle.hv_security.proofs.SameReads.{CallAlike, MakesAlike, OwnAlike, behind, output_alike, reply_alike as replies_alike, stops, unmet_alike as rules_alike}
use Rattle.hv_security.proofs.PartitionReads.{access_alike}
use Rattle.hv_security.specs.Same.{place}
use Rattle.hv_security.specs.Alike.{AreLowEquivalent, AreClosed, marked}
use Rattle.hv_security.specs.Looks.{ActionLooksAlike, CallLooksAlike, LooksAlike}
use Rattle.hv_security.proofs.AlikeReads.{kin_alike, no_kin}
use Rattle.hv_security.proofs.AlikeRules.{further_alike, part_alike, reads}

-- a slot shows no birth
module _ (f : Flat) where
  shown_bytes : (rows : List MailRow) (pending : Bool) → row_bytes (find is_shown (map (marked f) rows)) pending ≡ row_bytes (find is_shown rows) pending
  shown_bytes [] pending = refl
  shown_bytes (row ∷ rows) pending = by row.shown (shown_bytes rows pending)
    where
      by : (b : Bool) → row_bytes (find is_shown (map (marked f) rows)) pending ≡ row_bytes (find is_shown rows) pending → row_bytes
          (cond b (Some (marked f row)) (find is_shown (map (marked f) rows))) pending ≡ row_bytes (cond b (Some row) (find is_shown rows)) pending
      by true rest = refl
      by false rest = rest

  abbrev bytes : List MailRow → List ℕ
  bytes rows = row_bytes (find is_shown rows) (nat_lt 1 (length rows))

  bytes_marked : (rows : List MailRow) → bytes rows ≡ bytes (map (marked f) rows)
  bytes_marked rows = sym (shown_bytes rows (nat_lt 1 (length rows))) ∙ ap (λ n. row_bytes (find is_shown (map (marked f) rows)) (nat_lt 1 n)) (sym (length-map rows (marked f)))

module _ (members : ℕ → Bool) (f g : Flat) (a : AreLowEquivalent members f g) (closed : AreClosed members f) (closed_too : AreClosed members g) (by : Caller) (own : members by.part ≡ true) where
  -- P1 to P3
  callers_alike : caller_asks f by ≡ caller_asks g by
  callers_alike = λ i.
      (CallerExists, ap is_some (a by.part own).part i) ∷ (CallerActive, ap (test_row (λ row. is_active row.life)) (a by.part own).part i)
      ∷ (CallerVpExists, ap is_some ((a by.part own).vps by.vp) i) ∷ []

  -- what an access of a member reads
  own_alike : OwnAlike by f g
  own_alike = record {
    callers = callers_alike;
    accessed = access_alike f g by.part (a by.part own).part;
    vp = (a by.part own).vps by.vp;
    slots = λ sint.
        bytes_marked f (mail_at (place by.part by.vp sint) f.mail) ∙ ap (bytes f) ((a by.part own).mail by.vp sint)
        ∙ sym (bytes_marked g (mail_at (place by.part by.vp sint) g.mail));
  }

  -- whom a member may name is one
  pub kin_member : (k : Kin) (id : ℕ) → is_kin k f by.part id ≡ true → members id ≡ true
  kin_member k id is = at (members id) refl
    where
      at : (b : Bool) → members id ≡ b → b ≡ true
      at true m = refl
      at false off = let clash = sym is ∙ no_kin members f g a closed closed_too by.part own f closed k id off in cc

  privilege_alike : (call : Call) → has_privilege f by.part (needs_of call).privilege ≡ has_privilege g by.part (needs_of call).privilege
  privilege_alike call = ap (test_row (λ row. contains row.mask (needs_of call).privilege)) (a by.part own).part

  there_of : (call : Call) → LooksAlike members call by.part f g → contains_key f.part (target_of call by.part) ≡ contains_key g.part (target_of call by.part)
  there_of (CreatePartition flags) n = ap is_some (a by.part own).part
  there_of (PostMessage connection message_type payload) n = ap is_some (a by.part own).part
  there_of (SignalEvent connection flag) n = ap is_some (a by.part own).part
  there_of (CreatePort partition port peer port_kind sint vp base count) n = part_alike members f g a closed closed_too
      (target_of (CreatePort partition port peer port_kind sint vp base count) by.part) n.0
  there_of (ConnectPort partition connection port_partition port port_kind) n = part_alike members f g a closed closed_too
      (target_of (ConnectPort partition connection port_partition port port_kind) by.part) n.0
  there_of call n = part_alike members f g a closed closed_too (target_of call by.part) n

  -- P8 to P24
  calls_alike : (call : Call) → (has_privilege f by.part (needs_of call).privilege ≡ true → LooksAlike members call by.part f g) → first_unmet
      (target_asks f by.part call ++ further_asks f by.part call) ≡ first_unmet (target_asks g by.part call ++ further_asks g by.part call)
  calls_alike call looks = at (has_privilege f by.part (needs_of call).privilege) refl
    where
      rest : Flat → List Ask
      rest h = (TargetExists, contains_key h.part (target_of call by.part)) ∷ (TargetScope, is_kin (needs_of call).kin h by.part (target_of call by.part)) ∷ further_asks h by.part call

      targets : LooksAlike members call by.part f g → target_asks f by.part call ≡ target_asks g by.part call
      targets n = λ i.
          (Privilege, privilege_alike call i) ∷ (TargetExists, there_of call n i)
          ∷ (TargetScope, kin_alike members f g a closed closed_too by.part own (needs_of call).kin (target_of call by.part) i) ∷ []

      to : LooksAlike members call by.part f g → (b : Bool) → members (target_of call by.part) ≡ b → first_unmet (target_asks f by.part call ++ further_asks f by.part call) ≡ first_unmet
          (target_asks g by.part call ++ further_asks g by.part call)
      to n true is =
          ap (λ asks. first_unmet (asks ++ further_asks f by.part call)) (targets n)
          ∙ behind (target_asks g by.part call) (further_asks f by.part call) (further_asks g by.part call) (further_alike members f g a closed closed_too by.part own call is n)
      to n false off =
          stops (target_asks f by.part call) (further_asks f by.part call) (further_asks g by.part call)
          (λ met. (let clash = sym off ∙ kin_member (needs_of call).kin (target_of call by.part) met.1.1.0 in cc))
          ∙ ap (λ asks. first_unmet (asks ++ further_asks g by.part call)) (targets n)

      at : (b : Bool) → has_privilege f by.part (needs_of call).privilege ≡ b → first_unmet (target_asks f by.part call ++ further_asks f by.part call) ≡ first_unmet
          (target_asks g by.part call ++ further_asks g by.part call)
      at true is = to (looks is) (members (target_of call by.part)) refl
      at false is =
          ap (λ b. cond b (first_unmet (rest f)) (Some Privilege)) is
          ∙ sym (ap (λ b. cond b (first_unmet (rest g)) (Some Privilege)) (sym (privilege_alike call) ∙ is))

  makes : (call : Call) → IsAllowed f by.part call → LooksAlike members call by.part f g → MakesAlike call f g
  makes (CreatePartition flags) s n = n.1 s.further.0 s.further.1.0
  makes call s n = tt

  module _ {A : Type 0} (frame : Frame A) where
    hypercalls_alike : (k : Option CallKind) → CallLooksAlike members (option_map (λ kind. parameters kind frame) k) by.part f g → first_unmet (hypercall_asks f by.part frame k) ≡ first_unmet
        (hypercall_asks g by.part frame k)
    hypercalls_alike None n = refl
    hypercalls_alike (Some kind) n =
        let call = parameters kind frame in
        behind (frame_asks kind frame) (target_asks f by.part call ++ further_asks f by.part call) (target_asks g by.part call ++ further_asks g by.part call) (calls_alike call n)

    pub looked : (c : Option Call) (call : Call) → c ≡ Some call → CallLooksAlike members c by.part f g → has_privilege f by.part (needs_of call).privilege ≡ true → LooksAlike members call by.part f g
    looked None call is n met = cc
    looked (Some other) call is n met = let same : other ≡ call = cc in subst (λ call. LooksAlike members call by.part f g) same
        (n (subst (λ call. has_privilege f by.part (needs_of call).privilege ≡ true) (sym same) met))

    answer_call : CallLooksAlike members (called frame) by.part f g → unmet f (call_event by frame) ≡ None → answer f (call_event by frame) ≡ answer g (call_event by frame)
    answer_call n met =
        let s = is_served f by frame met in
        let t = kin_member (needs_of s.call).kin (target_of s.call by.part) s.granted.target.1.1.0 in
        let look = looked (called frame) s.call s.called n s.granted.target.0 in
        ap (reply_with frame)
        (ap (output_of f by.part) s.called
        ∙ output_alike by.part (target_of s.call by.part) f g (reads members f g a closed closed_too by.part own (target_of s.call by.part) t) s.call (makes s.call s.granted look)
        ∙ sym (ap (output_of g by.part) s.called))

  module _ {A : Type 0} where
    abbrev event : Action A → Event A
    event what = record { by = by; what = what }

    calls : (what : Action A) → ActionLooksAlike members what by.part f g → CallAlike by f g what
    calls (Hypercall frame) n = (hypercalls_alike frame (call_of frame) n, answer_call frame n)
    calls what n = tt

    pub unmet_alike : (what : Action A) → ActionLooksAlike members what by.part f g → unmet f (event what) ≡ unmet g (event what)
    unmet_alike what n = rules_alike by f g own_alike what (calls what n)

    pub reply_alike : (what : Action A) → ActionLooksAlike members what by.part f g → (step f (event what)).1 ≡ (step g (event what)).1
    reply_alike what n = replies_alike by f g own_alike what (calls what n)
