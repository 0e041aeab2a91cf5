use Rattle.std.proofs.Common.{◌≡◌, ◌∙◌, Bool, ap, is_some, inl, inr, refl, sym, IfNone, IsSome, List, None, ℕ, OnErr, Option, Result, Ok, Err, Some}
use Rattle.std.proofs.lemmas.Option.{MatchOption-at_none}
use Rattle.std.proofs.lemmas.Result.{on_ok_weaker}
use Rattle.hv_script.specs.Reading.{said}
use Rattle.hv_run.specs.Written.{HasWritten, HasWrittenKept, HasWrittenPart, told_by}
use Rattle.hv_run.proofs.run.run_script.Goals as goal

-- what holds in any case
in_any : {T F : Type 0} (result : Result T F) (P : Type 0) → P → OnErr result P
in_any (Ok value) P holds = tt
in_any (Err failure) P holds = holds

-- nothing was printed after a fault of the settlement, and else what is kept
by_fault : {F : Type 0} (text : List ℕ) (serial with_table : Bool) (old new : Option (List ℕ)) (found : Option F) → (IsSome found → new ≡ old)
    → IfNone found (HasWrittenKept text serial with_table old new) → HasWrittenPart text serial with_table old new
by_fault text serial with_table old new None silent kept = inr kept
by_fault text serial with_table old new (Some fault) silent kept = inl (silent refl)

-- facts about a run without a fault, together
kept_by : {F : Type 0} (found : Option F) (P Q R S T : Type 0) → (P → Q → R → S → T) → IfNone found P → IfNone found Q → IfNone found R → IfNone found S → IfNone found T
kept_by None P Q R S T make p q r s = make p q r s
kept_by (Some fault) P Q R S T make p q r s = tt

pub returns-clause-unfinished : goal.returns-clause-unfinished
returns-clause-unfinished g c =
    let ran = c.run_lines-done.ensures in
    let done = c.run_lines-done.result in
    let old = g.W.Write.contents c.args.out.now in
    let new = g.W.Write.contents c.print_run.new.out in
    let script = said c.in_ok-config.field-0 in
    in_any _ _
    (by_fault c.args.script.now c.args.options.now.serial c.args.options.now.table old new done.fault (λ some. ap g.W.Write.contents (c.print_run.ensures.unsettled some))
    (kept_by done.fault _ _ _ _ (HasWrittenKept c.args.script.now c.args.options.now.serial c.args.options.now.table old new) (λ config limit part told. record {
      said = script;
      is = c.in_ok-config.ensures.script;
      kept = done.kept;
      run = c.print_run.ensures.run;
      part = record { same_config = config ∙ c.in_ok-kept.ensures.config; same_limit = limit ∙ c.in_ok-kept.ensures.limit; part = part };
      told = told;
    }) ran.config ran.limit ran.part c.print_run.ensures.part))

pub returns-clause-told : goal.returns-clause-told
returns-clause-told g c =
    let ran = c.run_lines-done.ensures in
    let done = c.run_lines-done.result in
    on_ok_weaker
    {Q = HasWritten c.args.script.now c.args.options.now.serial c.args.options.now.table (g.W.Write.contents c.args.out.now)
    (g.W.Write.contents c.print_run.new.out)} _ (λ all.
    let going = ap is_some all.0 in
    let fault = all.1 in
    record {
      said = said c.in_ok-config.field-0;
      is = c.in_ok-config.ensures.script;
      kept = done.kept;
      run = c.print_run.ensures.run;
      config = MatchOption-at_none _ _ fault ran.config ∙ c.in_ok-kept.ensures.config;
      limit = MatchOption-at_none _ _ fault ran.limit ∙ c.in_ok-kept.ensures.limit;
      lines = MatchOption-at_none _ _ fault (ran.lines going);
      phases = MatchOption-at_none _ _ fault (ran.phases going);
      order = λ serial. MatchOption-at_none _ _ fault (ran.order serial going);
      told = all.2;
    }) c.print_run.ensures.told
