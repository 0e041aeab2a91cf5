-- Runs: one that continues by an event, and one that continues another.
use Rattle.std.proofs.Common.{◌≡◌, ℕ, ◌≤◌, ◌<◌, List, [], ◌∷◌, ◌++◌, length, None, Ok, false, true, IsTrue, refl, sym, subst, ap, ◌∙◌, arith, length-append}
use Rattle.std.proofs.lemmas.List.{length-map}
use Rattle.std.specs.Option.{option_map_or}
use Rattle.hv_defs.specs.declared.sizes.TheConstants.{REPS_END}
use Rattle.hv_invariants.proofs.ServedCount.{run_few}
use Rattle.hv_invariants.proofs.Replies.{goes_on}
use Rattle.hv_policy.specs.Boot.{boot}
use Rattle.hv_policy.specs.BootFault.{boot_fault}
use Rattle.hv_policy.specs.Flat.{Flat}
use Rattle.hv_policy.specs.Mail.{stands_at}
use Rattle.hv_policy.specs.Next.{GoesOn}
use Rattle.hv_policy.specs.Parts.{next_in, reply_of}
use Rattle.hv_policy.specs.Step.{run, run_from, step}
use Rattle.hv_policy.specs.declared.answer.Answer.{Answer}
use Rattle.hv_policy.specs.declared.answer.Answer.TheVariants as answer
use Rattle.hv_policy.specs.declared.event.Action.{Action}
use Rattle.hv_policy.specs.declared.event.Action.TheVariants.{Hypercall}
use Rattle.hv_policy.specs.declared.event.Event.{Event}
use Rattle.hv_policy.specs.declared.reply.Reply.{Reply}
use Rattle.hv_policy.specs.declared.reply.Reply.TheVariants.{More}
use Rattle.hv_security.proofs.ProvenanceOfRuns.{IsKnown, known}
use Rattle.hv_security.proofs.RowsOneEntryLater.{mail_of}
use Rattle.hv_security.specs.Operation.{operations_of}
use Rattle.hv_security.specs.Justified.{WerePosted, has_flag}
use Rattle.hv_admit.specs.Tie.{here}
use Rattle.hv_machine.specs.IsFlat.{IsFlat}
use Rattle.hv_machine.specs.Sound.{IsSound}
use Rattle.hv_machine.specs.State.{State}
use Rattle.hv_machine.specs.Step.{IsStep}
use Rattle.hv_history.specs.Justified.{operations_in, states_in}
use Rattle.hv_history.specs.Kept.{IsRun, IsTaken, Kept}
use Rattle.hv_history.specs.Row.{events_of, replies_of}
use Rattle.hv_history.specs.declared.entry.Entry.{Entry}

-- the state after more entries
pub run_more : {A : Type 0} (f : Flat) (before after : List (Entry A)) → (run_from f (events_of (before ++ after))).0 ≡ (run_from (run_from f (events_of before)).0 (events_of after)).0
run_more f [] after = refl
run_more f (e ∷ before) after = run_more (step f e.event).0 before after

-- entries that end with one more have the replies of a run
told_more : {A : Type 0} (f : Flat) (before : List (Entry A)) (e : Entry A) → replies_of before ≡ (run_from f (events_of before)).1 → e.reply ≡ (step (run_from f (events_of before)).0 e.event).1
    → replies_of (before ++ e ∷ []) ≡ (run_from f (events_of (before ++ e ∷ []))).1
told_more f [] e is told = ap (λ r. r ∷ []) told
told_more f (x ∷ before) e is told =
    let tails : replies_of before ≡ (run_from (step f x.event).0 (events_of before)).1 = cc in
    let first : x.reply ≡ (step f x.event).1 = cc in
    λ i. first i ∷ told_more (step f x.event).0 before e tails told i

-- no more events are served than there are
pub few : {A : Type 0} (k : Kept A) → IsRun k → k.machine.served ≤ length k.history
few k is =
    let served = run_few k.config (events_of k.history) in
    let same = is.machine.served in
    omega (arith, length-map k.history (λ entry. entry.event))

-- a run accounts for all that stands in its machine
pub is_run : {A : Type 0} (k : Kept A) → IsFlat k.machine (run k.config (events_of k.history)).0 → replies_of k.history ≡ (run k.config (events_of k.history)).1 → length k.history ≤ k.limit
    → boot_fault k.config ≡ None → k.machine.pages ≡ k.config.pages → IsSound k.machine → IsRun k
is_run {A} k flat replies within boots pages sound = record {
  machine = flat;
  replies = replies;
  within = within;
  boots = boots;
  pages = pages;
  sound = sound;
  justified = record {
    ports = λ id number port there. done.ports (id, number) port ((flat.tied.rows id).port number ∙ there);
    conns = λ id number conn there. done.conns (id, number) conn ((flat.tied.rows id).conn number ∙ there);
    peers = λ id number conn port there leads same.
        done.peers (id, number) conn port ((flat.tied.rows id).conn number ∙ there) ((flat.tied.rows conn.part).port conn.port ∙ leads) same;
    mail = λ id vp sint.
        subst (WerePosted (states_in k.config k.history) (operations_in k.history) 0) ((flat.tied.rows id).mail vp sint)
        (mail_of _ _ (stands_at (here id vp sint)) f.mail 0 0 (omega arith) done.mail);
    flags = λ id vp sint flag there.
        done.flags id vp sint flag (ap (λ row. option_map_or (has_flag sint flag) row false) ((flat.tied.rows id).vp vp) ∙ there);
  };
}
  where
    f : Flat
    f = (run k.config (events_of k.history)).0

    done : IsKnown (states_in k.config k.history) (operations_in k.history) f
    done = subst (λ replies. IsKnown (states_in k.config k.history) (operations_of (events_of k.history) replies) f) (sym replies) (known k.config (events_of k.history))

pub room : {A : Type 0} {k old : Kept A} → k ≡ old → IsRun k → (length old.history ≡ old.limit → IsTrue false) → length k.history < k.limit
room {A} {k} {old} same is not_full =
    let full : length k.history ≡ k.limit → ⊥ = λ e. let t : false ≡ true = not_full (sym (ap (λ (x : Kept A). length x.history) same) ∙ e ∙ ap (λ (x : Kept A). x.limit) same) in cc in
    let within = is.within in
    omega arith

-- a call continues with an element that has an index
has_index : {A : Type 0} (what : Action A) (reply : Reply) → GoesOn what reply → next_in reply < REPS_END
has_index (Hypercall frame) (More next output) on = on.1
has_index what (More next output) on = absurd on
has_index what reply on = omega arith

-- whatever the output
any_output : (answer : Answer) (output : List ℕ) → next_in (reply_of answer output) ≡ next_in (reply_of answer [])
any_output (answer.More next) output = refl
any_output answer output = refl

-- a machine takes an event
module _ {A : Type 0} (k : Kept A) (event : Event A) (reply : Reply) (m : State) (is : IsRun k) (took : IsStep event k.machine (Ok reply) m) where
  -- a call continues with the element after the one that was served
  on : GoesOn event.what reply
  on = subst (GoesOn event.what) (sym (took.reply _ is.machine)) (goes_on (run k.config (events_of k.history)).0 event)

  pub reply_index : (answer : Answer) (output : List ℕ) → reply_of answer output ≡ reply → next_in (reply_of answer []) < REPS_END
  reply_index answer output same = subst (λ n. n < REPS_END) (ap next_in (sym same) ∙ any_output answer output) (has_index event.what reply on)

  -- and the history has it more
  module _ (history : List (Entry A)) (pushed : history ≡ k.history ++ record { event = event; reply = reply } ∷ []) where
    abbrev new : Kept A
    new = record { config = k.config; limit = k.limit; history = history; machine = m }

    pub taken : IsTaken event reply k new
    taken = record { gained = record { history = pushed; config = refl; limit = refl }; asked = took.asked; result = took.result; next = on }

    -- so that the run continues by that event
    pub longer : length k.history < k.limit → IsRun new
    longer room =
        let e : Entry A = record { event = event; reply = reply } in
        subst (λ (history : List (Entry A)). IsRun (record { config = k.config; limit = k.limit; history = history; machine = m })) (sym pushed)
        (is_run (record { config = k.config; limit = k.limit; history = k.history ++ e ∷ []; machine = m })
        (subst (IsFlat m) (sym (run_more (boot k.config) k.history (e ∷ []))) (took.state _ is.machine)) (told_more (boot k.config) k.history e is.replies (took.reply _ is.machine))
        (omega (arith, length-append k.history (e ∷ []))) is.boots (took.pages ∙ is.pages) took.sound)
