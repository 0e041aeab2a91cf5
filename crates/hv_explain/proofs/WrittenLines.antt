-- Lines that follow one another.
use Rattle.std.proofs.Common.{◌≡◌, ℕ, ◌+◌, List, [], ◌∷◌, ◌++◌, length, refl, sym, ap, ◌∙◌, subst, arith, append_assoc, append-nil, length-append, Option, Some, Result, Ok, Err, OnOk, codes, decimal}
use Rattle.std.proofs.Common.{Global, IfSome}
use Rattle.std.specs.Io.KnownBytes.{Appends}
use Rattle.std.proofs.KnownBytes.{Appends-trans}
use Rattle.hv_admit.specs.Effect.{Tells}
use Rattle.hv_admit.specs.declared.effect.Effect.{Effect}
use Rattle.hv_history.proofs.Runs.{run_more}
use Rattle.hv_history.specs.Kept.{HasGained, IsRun, Kept}
use Rattle.hv_history.specs.declared.entry.Entry.{Entry}
use Rattle.hv_machine.specs.IsFlat.{IsFlat}
use Rattle.hv_policy.specs.Boot.{boot}
use Rattle.hv_policy.specs.Flat.{Flat}
use Rattle.hv_policy.specs.Step.{step}
use Rattle.hv_policy.specs.declared.config.Config.{Config}
use Rattle.hv_policy.specs.declared.event.Action.{Action}
use Rattle.hv_policy.specs.declared.event.Caller.{Caller}
use Rattle.hv_policy.specs.declared.reply.Reply.{Reply}
use Rattle.hv_explain.specs.Written.{AreTold, HasHappened, HasPut, HasWritten, HasWrittenOne, IsExplanation, Telling, entry_of, head_text, last_of, state_after}
use Rattle.hv_words.specs.Words.{IsPlain}

pub told_append : (tells : Telling) (config : Config) (past xs ys : List (Entry Global)) (s t : List ℕ) → AreTold tells config past xs s → AreTold tells config (past ++ xs) ys t
    → AreTold tells config past (xs ++ ys) (s ++ t)
told_append tells config past [] ys s t none told =
    subst (AreTold tells config past ys) (sym (ap (λ (l : List ℕ). l ++ t) none)) (subst (λ (p : List (Entry Global)). AreTold tells config p ys t) (append-nil past) told)
told_append tells config past (e ∷ xs) ys s t first told = (
  first.0,
  first.1 ++ t,
  first.2,
  ap (λ (l : List ℕ). l ++ t) first.3 ∙ append_assoc first.0 first.1 t,
  told_append tells config (past ++ e ∷ []) xs ys first.1 t first.4 (subst (λ (p : List (Entry Global)). AreTold tells config p ys t) (sym (append_assoc past (e ∷ []) xs)) told),
)

-- more happened
pub told_then : (tells : Telling) (xs ys : List (Entry Global)) (a b c : Kept Global) (u v w : Option (List ℕ)) → HasWritten tells xs a b u v → HasWritten tells ys b c v w
    → HasWritten tells (xs ++ ys) a c u w
told_then tells xs ys a b c u v w first second = record {
  history = second.history ∙ ap (λ (l : List (Entry Global)). l ++ ys) first.history ∙ append_assoc a.history xs ys;
  config = second.config ∙ first.config;
  limit = second.limit ∙ first.limit;
  text = first.text ++ second.text;
  told = told_append tells a.config a.history xs ys first.text second.text first.told
      (subst (λ (p : List (Entry Global)). AreTold tells a.config p ys second.text) first.history (subst (λ (k : Config). AreTold tells k b.history ys second.text) first.config second.told));
  wrote = Appends-trans u v w first.text second.text first.wrote second.wrote;
}

-- the start of a line was written by three writes
pub head_written : (u v w x : Option (List ℕ)) (number vp : ℕ) (by : Caller) → vp ≡ by.vp → Appends u v (decimal number ++ codes " ") → Appends v w (decimal by.part ++ codes ".")
    → Appends w x (decimal vp ++ codes " ") → Appends u x (head_text number by)
unfolding head_text
head_written u v w x number vp by is first second third =
    let h = decimal number ++ codes " " in
    let d = decimal by.part ++ codes "." in
    let whole : (h ++ d) ++ (decimal vp ++ codes " ") ≡ (h ++ (d ++ decimal by.vp)) ++ codes " " =
    ap (λ (k : ℕ). (h ++ d) ++ (decimal k ++ codes " ")) is
    ∙ sym (append_assoc (h ++ d) (decimal by.vp) (codes " ")) ∙ ap (λ (l : List ℕ). l ++ codes " ") (append_assoc h d (decimal by.vp)) in
    subst (Appends u x) whole (Appends-trans u w x (h ++ d) (decimal vp ++ codes " ") (Appends-trans u v w h d first second) third)

-- what follows from what holds after an Ok
pub ok_then : {T E : Type 0} (r : Result T E) (P Q : Type 0) → OnOk r P → (P → Q) → OnOk r Q
ok_then (Ok value) P Q holds then = then holds
ok_then (Err error) P Q holds then = tt

-- the line of an explanation was written
pub line_put : {T E : Type 0} (r : Result T E) (u v : Option (List ℕ)) (number : ℕ) (by : Caller) (words : List ℕ) → IsPlain words → OnOk r (Appends u v (head_text number by ++ words ++ codes "\n"))
    → OnOk r (HasPut (IsExplanation number by) u v)
line_put (Ok value) u v number by words plain wrote = record {
  text = head_text number by ++ words ++ codes "\n";
  kind = (words, plain, refl);
  wrote = wrote;
}
line_put (Err error) u v number by words plain wrote = tt

-- of the last event
pub last_put : {T E : Type 0} (r : Result T E) (u v : Option (List ℕ)) (history : List (Entry Global)) (number : ℕ) (last : Entry Global) → last_of history ≡ Some last → number ≡ length history
    → OnOk r (HasPut (IsExplanation number last.event.by) u v) → OnOk r (IfSome (last_of history) (λ e. HasPut (IsExplanation (length history) e.event.by) u v))
last_put (Ok value) u v history number last is counted put =
    subst (λ (o : Option (Entry Global)). IfSome o (λ e. HasPut (IsExplanation (length history) e.event.by) u v)) (sym is)
    (subst (λ (n : ℕ). HasPut (IsExplanation n last.event.by) u v) counted put)
last_put (Err error) u v history number last is counted put = tt

-- an event was taken, whose effect is that of its step
pub happened : (by : Caller) (own what : Action Global) (told reply : Reply) (effect : Effect) (old new : Kept Global) → own ≡ what → reply ≡ told → IsRun old
    → HasGained (record { by = by; what = own }) told old new → ((f : Flat) → IsFlat old.machine f → Tells effect f (step f (record { by = by; what = own })).0)
    → HasHappened by what reply effect old new
happened by own what told reply effect old new copied joined is gained tells =
    let e : Entry Global = entry_of by own told in
    let after : state_after new.config new.history ≡ (step (state_after old.config old.history) e.event).0 =
    (λ i. state_after (gained.config i) (gained.history i)) ∙ run_more (boot old.config) old.history (e ∷ []) in
    record {
      gained = subst (λ (r : Reply). HasGained (record { by = by; what = what }) r old new) (sym joined)
          (subst (λ (w : Action Global). HasGained (record { by = by; what = w }) told old new) copied gained);
      step = subst (Tells effect (state_after old.config old.history)) (sym after) (tells _ is.machine);
    }

-- and the teller wrote of it
pub told_one : (tells : Telling) (by : Caller) (what : Action Global) (reply : Reply) (effect : Effect) (old new : Kept Global) (v w : Option (List ℕ)) (number : ℕ)
    → HasHappened by what reply effect old new → number ≡ length new.history → HasPut (tells number (entry_of by what reply) effect) v w → HasWrittenOne tells by what reply old new v w
told_one tells by what reply effect old new v w number is counted put =
    let e : Entry Global = entry_of by what reply in
    let at : number ≡ 1 + length old.history = let n = ap length is.gained.history in omega (arith, counted, n, length-append old.history (e ∷ [])) in
    let after : Tells effect (state_after old.config old.history) (state_after old.config (old.history ++ e ∷ [])) =
    subst (Tells effect (state_after old.config old.history)) (λ i. state_after (is.gained.config i) (is.gained.history i)) is.step in
    record {
      history = is.gained.history;
      config = is.gained.config;
      limit = is.gained.limit;
      text = put.text;
      told = (put.text, [], record { effect = effect; step = after; told = subst (λ (k : ℕ). tells k e effect put.text) at put.kind }, sym (append-nil put.text), refl);
      wrote = put.wrote;
    }
