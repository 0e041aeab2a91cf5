-- From what became of an event to a step.
use Rattle.std.proofs.Common.{◌≡◌, ℕ, ◌+◌, true, false, List, ◌++◌, None, Some, refl, sym, ap, subst, ◌∙◌, option_map, Result, Ok, Err}
use Rattle.std.specs.Option.{option_map_or}
use Rattle.hv_abi.specs.Check.{call_of}
use Rattle.hv_abi.specs.declared.frame.Frame.{Frame}
use Rattle.hv_abi.specs.declared.frame.Shape.{Shape}
use Rattle.hv_calls.specs.Call.{kind_of_call}
use Rattle.hv_calls.specs.Params.{parameters}
use Rattle.hv_calls.specs.declared.call.Call.{Call}
use Rattle.hv_calls.specs.declared.call.Call.TheVariants.{CreatePartition, SetVpRegisters, PostMessage, SignalEvent}
use Rattle.hv_admit.proofs.PagesAndVps.{untold}
use Rattle.hv_admit.proofs.ProcessorChange.{once_counted}
use Rattle.hv_admit.specs.Effect.{Tells}
use Rattle.hv_admit.specs.declared.effect.Effect.{Effect}
use Rattle.hv_admit.specs.declared.effect.Effect.TheVariants as variant
use Rattle.hv_security.proofs.OtherRows.{both}
use Rattle.hv_security.proofs.CarriedConfinement.{nothing_carried, step_carried}
use Rattle.hv_security.proofs.OthersUnchanged.{misses}
use Rattle.hv_invariants.proofs.ServedCount.{action_served}
use Rattle.hv_invariants.proofs.MessageChanges.{posted_counted, register_counted, signalled_counted}
use Rattle.hv_invariants.proofs.Laws.{lawful_effect}
use Rattle.hv_invariants.proofs.Replies.{has_result, names_asked}
use Rattle.hv_partition.specs.Partition.{PartitionState}
use Rattle.hv_policy.proofs.Unmet.{first_of_ends}
use Rattle.hv_policy.specs.Aim.{aim_of}
use Rattle.hv_policy.specs.Answer.{answer, output_of, reply_with}
use Rattle.hv_policy.specs.Call.{IsCall, call_event, may_take_memory}
use Rattle.hv_policy.specs.Effect.{action_effect, call_effect, effect, served_effect}
use Rattle.hv_policy.specs.Flat.{Flat}
use Rattle.hv_policy.specs.Needs.{takes_memory, target_of}
use Rattle.hv_policy.specs.Result.{HasResult}
use Rattle.hv_policy.specs.Rules.{Ask, caller_asks, first_unmet, frame_asks, further_asks, hypercall_asks, target_asks, unmet}
use Rattle.hv_policy.specs.Step.{NamesAsked, refusal, step, step_by}
use Rattle.hv_policy.specs.declared.event.Action.TheVariants.{Hypercall}
use Rattle.hv_policy.specs.declared.event.Caller.{Caller}
use Rattle.hv_policy.specs.declared.event.Event.{Event}
use Rattle.hv_policy.specs.declared.reply.Reply.{Reply}
use Rattle.hv_policy.specs.declared.rule.Rule.{Rule}
use Rattle.hv_admit.proofs.RoomIsNoState.{roomless_tied, same_roomless, tied_roomless}
use Rattle.hv_admit.specs.Done.{IsCalled, unmet_in_tree}
use Rattle.hv_admit.specs.Room.{IsSameButRoom, roomless}
use Rattle.hv_admit.specs.Served.{TreeInvariant}
use Rattle.hv_admit.specs.Tie.{Refines}
use Rattle.hv_admit.specs.declared.refused.CallError.{CallError}
use Rattle.hv_admit.specs.declared.refused.CallError.TheVariants as refused
use Rattle.hv_tree.specs.Rows.{Rows}
use Rattle.hv_machine.proofs.Integrity.{flat_same}
use Rattle.hv_machine.proofs.SoundMachine.{sound}
use Rattle.hv_machine.specs.IsFlat.{IsFlat}
use Rattle.hv_machine.specs.MachineInvariant.{MachineInvariant}
use Rattle.hv_machine.specs.Next.{next_after}
use Rattle.hv_machine.specs.State.{State}
use Rattle.hv_machine.specs.Step.{IsStep}
use Rattle.hv_machine.specs.declared.machine.HostRefused.{HostRefused}
use Rattle.hv_machine.specs.declared.machine.HostRefused.TheVariants.{Memory}

-- a step that one event makes, the same event makes
pub same_event : {A : Type 0} {e event : Event A} {old new : State} {became : Result Reply HostRefused} → e ≡ event → IsStep e old became new → IsStep event old became new
same_event {old = old} {new = new} {became = became} is made = subst (λ e. IsStep e old became new) is made

-- and what is told of it
pub same_told : {A : Type 0} {e event : Event A} (told : Effect) (f : Flat) → e ≡ event → Tells told f (step f e).0 → Tells told f (step f event).0
same_told told f is tells = subst (λ e. Tells told f (step f e).0) is tells

-- an event whose action is the call of a frame is that frame's event
pub call_event_is : {A : Type 0} (e : Event A) (frame : Frame A) → e.what ≡ Hypercall frame → call_event e.by frame ≡ e
call_event_is e frame is = ap (λ what. record { by = e.by; what = what }) (sym is)

-- an event whose reply and state are those of the flat step was answered
answered : {A : Type 0} (event : Event A) (old : State) → MachineInvariant old → (reply : Reply) (new : State) → MachineInvariant new → new.pages ≡ old.pages
    → ((f : Flat) → IsFlat old f → (reply ≡ (step f event).1) × IsFlat new (step f event).0) → IsStep event old (Ok reply) new
answered {A} event old was reply new now pages is =
    let told : reply ≡ (step was.flat event).1 = (is was.flat was.stands).0 in
    record {
      reply = λ f flat. (is f flat).0;
      state = λ f flat. (is f flat).1;
      refused = λ f flat. tt;
      memory = tt;
      kept = tt;
      confined = λ f g flat stands. step_carried f g event (flat_same new (step f event).0 g (is f flat).1 stands);
      others = λ f g flat stands id missed. both id f (step f event).0 g (misses f event id missed) (flat_same new (step f event).0 g (is f flat).1 stands id);
      asked = subst (NamesAsked event) (sym told) (names_asked was.flat event);
      result = λ frame what. subst HasResult (sym (told ∙ ap (λ what. (step {A = A} was.flat (record { by = event.by; what = what })).1) what)) (has_result was.flat event.by frame);
      lasting = now;
      pages = pages;
      sound = sound new now;
    }

-- a machine of this tree
abbrev pub state_of : Rows PartitionState → ℕ → ℕ → ℕ → State
state_of tree pages next served = record { rows = roomless tree; pages = pages; next = next; served = served }

-- and the invariant of its tree
pub invariant : (tree : Rows PartitionState) (pages next served : ℕ) (was : MachineInvariant (state_of tree pages next served)) → (t : TreeInvariant tree) × (t.flat.next ≡ next)
invariant tree pages next served was = (
  record { pages = pages; bounded = was.bounded; flat = was.flat; tied = tied_roomless tree was.flat was.stands.tied; lawful = was.lawful },
  was.stands.next,
)

module _ {A : Type 0} (event : Event A) (tree new : Rows PartitionState) (pages next served : ℕ) (was : MachineInvariant (state_of tree pages next served)) where
  abbrev old : State
  old = state_of tree pages next served

  -- an event that a rule refuses changes nothing
  pub denied : (rule : Rule) (reply : Reply) → ((f : Flat) → IsFlat old f → (unmet f event ≡ Some rule) × (new ≡ tree)) → reply ≡ refusal event.what rule
      → IsStep event old (Ok reply) (state_of new pages next served)
  denied rule reply out told =
      let at = λ (f : Flat) (flat : IsFlat old f). ap (step_by f event) (out f flat).0 in
      subst (λ rows. IsStep event old (Ok reply) (state_of rows pages next served)) (sym (out was.flat was.stands).1)
      (answered event old was reply old was refl (λ f flat. (told ∙ sym (ap (λ s. s.1) (at f flat)), subst (IsFlat old) (sym (ap (λ s. s.0) (at f flat))) flat)))

  -- nor does one for which the host has no memory
  unserved : ((f : Flat) → IsFlat old f → unmet f event ≡ None) → may_take_memory event ≡ true → IsSameButRoom tree new → IsStep event old (Err Memory) (state_of new pages next served)
  unserved met takes same =
      subst (λ rows. IsStep event old (Err Memory) (record { rows = rows; pages = pages; next = next; served = served })) (sym (same_roomless tree new same))
      (record {
        reply = λ f flat. tt;
        state = λ f flat. tt;
        refused = met;
        memory = takes;
        kept = refl;
        confined = λ f g flat stands. nothing_carried f g event (flat_same old f g flat stands);
        others = λ f g flat stands id missed. flat_same old f g flat stands id;
        asked = tt;
        result = λ frame what. tt;
        lasting = was;
        pages = refl;
        sound = sound old was;
      })

  -- what becomes of a flat state for which the machine stood, where the event is served
  pub record IsMade (reply : Reply) (later : ℕ) (f : Flat) : Type 0 where
    pub met : unmet f event ≡ None
    pub told : reply ≡ answer f event
    pub rows : Refines new (action_effect f event.by event.what)
    pub follows : (action_effect f event.by event.what).next ≡ later

  made_flat : (reply : Reply) (later : ℕ) (f : Flat) → IsFlat old f → IsMade reply later f → IsFlat (state_of new pages later (served + 1)) (effect f event)
  made_flat reply later f flat is =
      let shown = roomless_tied new (action_effect f event.by event.what) is.rows in
      record {
        tied = record { rows = λ id. (let row = shown.rows id in record { part = row.part; page = row.page; vp = row.vp; port = row.port; conn = row.conn; mail = row.mail }) };
        next = is.follows;
        served = ap (λ n. n + 1) (action_served event.what f event.by ∙ flat.served);
      }

  -- an event that its call group served
  pub served_step : (reply : Reply) (later : ℕ) → ((f : Flat) → IsFlat old f → IsMade reply later f) → IsStep event old (Ok reply) (state_of new pages later (served + 1))
  served_step reply later made =
      answered event old was reply (state_of new pages later (served + 1))
      (record {
        flat = effect was.flat event;
        stands = made_flat reply later was.flat was.stands (made was.flat was.stands);
        lawful = lawful_effect pages was.flat event was.lawful (made was.flat was.stands).met;
        bounded = was.bounded;
      }) refl
      (λ f flat.
      let step_is = ap (step_by f event) (made f flat).met in
      ((made f flat).told ∙ sym (ap (λ s. s.1) step_is), subst (IsFlat (state_of new pages later (served + 1))) (sym (ap (λ s. s.0) step_is)) (made_flat reply later f flat (made f flat))))

-- what a call leaves as the next id
next_is : (call : Call) (f : Flat) (caller target : ℕ) → (call_effect call f caller target).next ≡ next_after call f.next
next_is (CreatePartition flags) f caller target = refl
next_is (SetVpRegisters partition vp name value) f caller target = (register_counted target vp name value f).next
next_is (PostMessage connection message_type payload) f caller target = (posted_counted (aim_of f (target, connection)) message_type payload f).next
next_is (SignalEvent connection flag) f caller target = (signalled_counted (aim_of f (target, connection)) flag f).next
next_is call f caller target = refl

-- an effect of an event, of the flat step that it makes
pub step_told : {A : Type 0} (event : Event A) (e : Effect) (f : Flat) → unmet f event ≡ None → Tells e f (action_effect f event.by event.what) → Tells e f (step f event).0
step_told event e f met told = subst (λ rule. Tells e f (step_by f event rule).0) (sym met) (once_counted e f (action_effect f event.by event.what) told)

pub nothing_told : {A : Type 0} (event : Event A) (f : Flat) (rule : Rule) → unmet f event ≡ Some rule → Tells variant.Nothing f (step f event).0
nothing_told event f rule broken = subst (λ rule. Tells variant.Nothing f (step_by f event rule).0) (sym broken) (untold f f refl refl refl)

-- a frame for which P4 to P7 don't hold
pub frame_unmet : {A : Type 0} (by : Caller) (frame : Frame A) (tree : Rows PartitionState) (rule first : Rule)
    → ((f : Flat) (caller : ℕ) → first_unmet (hypercall_asks f caller frame (call_of frame)) ≡ Some rule)
    → ((f : Flat) (asks : List Ask) → Refines tree f → first_unmet asks ≡ Some rule → first_unmet (caller_asks f by ++ asks) ≡ Some first)
    → (f : Flat) → Refines tree f → unmet f (call_event by frame) ≡ Some first
frame_unmet by frame tree rule first broken found f tied = found f (hypercall_asks f by.part frame (call_of frame)) tied (broken f by.part)

-- a call of a frame for which P4 to P7 hold
module _ {A : Type 0} (by : Caller) (frame : Frame A) (shape : Shape) (call : Call) (is : IsCall frame shape call) (frame_met : first_unmet (frame_asks shape.kind frame) ≡ None) where
  named : call_of frame ≡ Some (kind_of_call call)
  named = is.named ∙ ap Some (sym is.kind)

  kind_met : first_unmet (frame_asks (kind_of_call call) frame) ≡ None
  kind_met = subst (λ kind. first_unmet (frame_asks kind frame) ≡ None) (sym is.kind) frame_met

  unmet_is : (f : Flat) → unmet f (call_event by frame) ≡ unmet_in_tree f by call
  unfolding unmet_in_tree
  unmet_is f =
      let made : Some (parameters (kind_of_call call) frame) ≡ Some call = sym (ap (option_map (λ kind. parameters kind frame)) named) ∙ is.called in
      let held : parameters (kind_of_call call) frame ≡ call = cc in
      ap (λ kind. first_unmet (caller_asks f by ++ hypercall_asks f by.part frame kind)) named
      ∙ first_of_ends (caller_asks f by) (frame_asks (kind_of_call call) frame)
      (target_asks f by.part (parameters (kind_of_call call) frame) ++ further_asks f by.part (parameters (kind_of_call call) frame)) kind_met
      ∙ ap (λ call. first_unmet (caller_asks f by ++ (target_asks f by.part call ++ further_asks f by.part call))) held

  module _ (tree new : Rows PartitionState) (pages next served : ℕ) (was : MachineInvariant (state_of tree pages next served)) where
    -- what its call group made of it
    module _ (became : Result (List ℕ × Effect) CallError) (out : (f : Flat) → Refines tree f → f.next ≡ next → f.served ≡ served → IsCalled f by call tree became new) where
      at : (other : Result (List ℕ × Effect) CallError) → became ≡ other → (f : Flat) → IsFlat (state_of tree pages next served) f → IsCalled f by call tree other new
      at other same f flat = subst (λ became. IsCalled f by call tree became new) same (out f (tied_roomless tree f flat.tied) flat.next flat.served)

      module _ (bytes : List ℕ) (e : Effect) (same : became ≡ Ok (bytes, e)) where
        pub served_call : (reply : Reply) → reply ≡ reply_with frame bytes
            → IsStep (call_event by frame) (state_of tree pages next served) (Ok reply) (state_of new pages (next_after call next) (served + 1))
        served_call reply told =
            served_step (call_event by frame) tree new pages next served was reply (next_after call next)
            (λ f flat.
            let done = at (Ok (bytes, e)) same f flat in
            record {
              met = unmet_is f ∙ done.0;
              told = told ∙ ap (reply_with frame) (done.1.output ∙ ap (output_of f by.part) (sym is.called));
              rows = subst (λ call. Refines new (served_effect f by.part call)) (sym is.called) done.1.rows;
              follows = ap (λ call. (served_effect f by.part call).next) is.called ∙ next_is call f by.part (target_of call by.part) ∙ ap (next_after call) flat.next;
            })

        pub call_told : (f : Flat) → IsFlat (state_of tree pages next served) f → Tells e f (step f (call_event by frame)).0
        call_told f flat =
            let done = at (Ok (bytes, e)) same f flat in
            step_told (call_event by frame) e f (unmet_is f ∙ done.0) (subst (λ call. Tells e f (served_effect f by.part call)) (sym is.called) done.1.told)

      module _ (rule : Rule) (same : became ≡ Err (refused.Unmet rule)) where
        pub denied_call : (reply : Reply) → reply ≡ refusal (Hypercall frame) rule
            → IsStep (call_event by frame) (state_of tree pages next served) (Ok reply) (state_of new pages next served)
        denied_call reply told =
            denied (call_event by frame) tree new pages next served was rule reply
            (λ f flat. let why = at (Err (refused.Unmet rule)) same f flat in (unmet_is f ∙ why.0, why.1)) told

        pub denied_told : (f : Flat) → IsFlat (state_of tree pages next served) f → Tells variant.Nothing f (step f (call_event by frame)).0
        denied_told f flat = nothing_told (call_event by frame) f rule (unmet_is f ∙ (at (Err (refused.Unmet rule)) same f flat).0)

      pub unserved_call : became ≡ Err refused.Memory → IsStep (call_event by frame) (state_of tree pages next served) (Err Memory) (state_of new pages next served)
      unserved_call same =
          let why = at (Err refused.Memory) same was.flat was.stands in
          unserved (call_event by frame) tree new pages next served was (λ f flat. unmet_is f ∙ (at (Err refused.Memory) same f flat).0)
          (ap (λ kind. option_map_or takes_memory kind false) is.named ∙ ap takes_memory (sym is.kind) ∙ why.1.memory) why.1.rows
