-- A line that its processor took.
use Rattle.std.proofs.Common.{◌≡◌, ℕ, ◌≤◌, List, [], All, append-nil, arith, drop, drop_at, length, refl, sym, ap, ◌∙◌, subst, true, Option, None}
use Rattle.std.proofs.Common.{Some, IfSome, is_some, Global}
use Rattle.std.proofs.lemmas.List.Elements.{All-nil}
use Rattle.std.proofs.lemmas.Bool.{false≢true}
use Rattle.std.proofs.lemmas.Option.{none-some}
use Rattle.hv_history.specs.declared.kept.HostRefused.{HostRefused}
use Rattle.hv_policy.specs.declared.event.Action.{Action}
use Rattle.hv_phases.specs.PassMap.{HasRunLine, HasTaken, IsWithin, RunnerMap, Took, is_key, key_of, pass_at, pass_in, stop_at, stop_in}
use Rattle.hv_phases.specs.declared.pass_map.Runner.{Runner}
use Rattle.hv_phases.proofs.AskedOfProcessor.{either}
use Rattle.hv_phases.proofs.RunnerMaps.{pass_written, same_still, stop_written}
use Rattle.hv_script.specs.declared.line.Line.{Line}
use Rattle.hv_shared.specs.Pass.{HasReceipts}
use Rattle.hv_shared.specs.PassValue.{PassValue}
use Rattle.hv_shared.specs.declared.receipts.Receipt.{Receipt}
use Rattle.indexmap.specs.IndexMap.{UpdatesBy, get}

some_at : {X : Type 0} (o : Option X) → is_some o ≡ true → (x : X) × (o ≡ Some x)
some_at None is = absurd (false≢true is)
some_at (Some x) is = (x, refl)

-- what an action was, by the receipts that its pass gained
pub taken_of : (told : Option ℕ) (last before : ℕ) (list : List Receipt) (what : Action Global) (stop : Option HostRefused) (p q : PassValue)
    (more : List Receipt) → HasReceipts more p q
    → Took None stop p.caller what more → before ≡ length p.receipts → list ≡ q.receipts
    → IfSome told (λ now. (last ≤ now) × All (IsWithin last now) (drop before list))
    → IfSome told (λ now. HasTaken (IsWithin last now) what None stop p q)
taken_of None last before list what stop p q more gained took count is told = tt
taken_of (Some now) last before list what stop p q more gained took count is told =
    let gone : drop before list ≡ more =
    ap (λ (n : ℕ). drop n list) count ∙ ap (drop (length p.receipts)) (is ∙ gained.receipts) ∙ drop_at p.receipts more (length p.receipts) refl in
    record { more = more; gained = gained; took = took; held = subst (All (IsWithin last now)) gone told.1 }

-- a processor that was stopped gains nothing
pub nothing_taken : (P : Receipt → Type 0) (what : Action Global) (stop : Option HostRefused) → is_some stop ≡ true → (p : PassValue)
    → HasTaken P what stop stop p p
nothing_taken P what None is p = absurd (false≢true is)
nothing_taken P what (Some why) is p =
    record { more = []; gained = record { receipts = sym (append-nil p.receipts); share = omega arith; caller = refl }; took = (refl, refl); held = All-nil P }

-- a pass before and after
abbrev pub Both : Option PassValue → Option PassValue → Type 0
Both old new = (was : PassValue) × (pass : PassValue) × (old ≡ Some was) × (new ≡ Some pass)

-- what holds of a result that is there
pub if_then : {X A : Type 0} (o : Option X) (P : A → X → Type 0) → ((a : A) → IfSome o (P a)) → IfSome o (λ x. (a : A) → P a x)
if_then None P f = tt
if_then (Some x) P f = f

module _ {L S : Type 0} (P : Receipt → Type 0) (line : Line Global) where
  module _ (key : ℕ × ℕ) (is : key ≡ key_of line.by) (old new : RunnerMap L S) (runner next : Runner L) (found : get is_key old (key_of line.by) ≡ Some runner)
      (did : UpdatesBy is_key (is_key key) old new (Some next)) where
    was_pass : pass_at old line.by ≡ runner.pass
    was_pass = ap pass_in found

    was_stop : stop_at old line.by ≡ runner.stop
    was_stop = ap stop_in found

    now_pass : pass_at new line.by ≡ next.pass
    now_pass = pass_written line.by key is old new next did

    now_stop : stop_at new line.by ≡ next.stop
    now_stop = stop_written line.by key is old new next did

    -- it took the line
    pub line_taken_by : is_some next.pass ≡ is_some runner.pass
        → ((was pass : PassValue) → runner.pass ≡ Some was → next.pass ≡ Some pass → HasTaken P line.action runner.stop next.stop was pass)
        → HasRunLine P line old new
    line_taken_by there took = record {
      own = λ was pass at here.
          subst (λ (s : Option HostRefused). HasTaken P line.action s (stop_at new line.by) was pass) (sym was_stop)
          (subst (λ (s : Option HostRefused). HasTaken P line.action runner.stop s was pass) (sym now_stop) (took was pass (sym was_pass ∙ at) (sym now_pass
          ∙ here)));
      others = same_still line.by key is old new next did;
      back = λ by has.
          either line.by by
          (λ same.
          let some : is_some runner.pass ≡ true = sym there ∙ ap is_some (sym now_pass ∙ ap (pass_at new) (sym same) ∙ has.1) in
          let had = some_at runner.pass some in
          (had.0, ap (pass_at old) same ∙ was_pass ∙ had.1))
          (λ other. (has.0, sym (same_still line.by key is old new next did by other).0 ∙ has.1));
      stayed = λ by has.
          either line.by by
          (λ same.
          let some : is_some next.pass ≡ true = there ∙ ap is_some (sym was_pass ∙ ap (pass_at old) (sym same) ∙ has.1) in
          let now = some_at next.pass some in
          (now.0, ap (pass_at new) same ∙ now_pass ∙ now.1))
          (λ other. (has.0, (same_still line.by key is old new next did by other).0 ∙ has.1));
    }
