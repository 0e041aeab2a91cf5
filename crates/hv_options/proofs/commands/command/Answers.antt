use Rattle.std.proofs.Common.{◌≡◌, ◌∙◌, map, sym, [], subst, Ok, Err}
use Rattle.std.proofs.lemmas.Result.{IfErr-weaker, IfOk-weaker}
use Rattle.clap.specs.Words.{HasKind, Kinds}
use Rattle.clap.specs.declared.parser.matches.ArgMatches.{ArgMatches}
use Rattle.hv_options.specs.Options.{Explains}
use Rattle.hv_options.specs.Commands.{program_faults}
use Rattle.hv_options.proofs.OptionsLemmas.{only_memory}
use Rattle.hv_options.proofs.CommandLemmas.{asked_by_matches-words, fails_by_program}
use Rattle.hv_options.proofs.commands.command.Goals as goal

pub returns-in-Ok-clause-said : goal.returns-in-Ok-clause-said
returns-in-Ok-clause-said g c =
    let words = map g.S.AsStr.text c.args.words.now in
    let same = asked_by_matches-words _ words c.in-Ok.matches c.in_ok-line.ensures c.in-Ok.ensures.matches in
    IfOk-weaker c.read.result _ _ (λ o said. sym same ∙ said) c.read.ensures.said

pub returns-in-Ok-clause-faultless : goal.returns-in-Ok-clause-faultless
returns-in-Ok-clause-faultless g c =
    let words = map g.S.AsStr.text c.args.words.now in
    let none : program_faults words ≡ [] = fails_by_program _ words (Ok c.in-Ok.matches) c.in_ok-line.ensures c.in-Ok.ensures.kinds in
    IfOk-weaker c.read.result _ (λ _. program_faults words ≡ []) (λ o said. none) c.read.ensures.said

pub returns-in-Ok-clause-refused : goal.returns-in-Ok-clause-refused
returns-in-Ok-clause-refused g c =
    let words = map g.S.AsStr.text c.args.words.now in
    let none : program_faults words ≡ [] = fails_by_program _ words (Ok c.in-Ok.matches) c.in_ok-line.ensures c.in-Ok.ensures.kinds in
    IfErr-weaker c.read.result _ _ (λ u e. subst (λ (k : Kinds). Explains k u) (sym none) e) c.read.ensures.refused

pub returns-in-Ok-clause-accepted : goal.returns-in-Ok-clause-accepted
returns-in-Ok-clause-accepted g c =
    let words = map g.S.AsStr.text c.args.words.now in
    let same = asked_by_matches-words _ words c.in-Ok.matches c.in_ok-line.ensures c.in-Ok.ensures.matches in
    λ asked none said. c.read.ensures.accepted asked (same ∙ said)

pub returns-in-Err-clause-refused : goal.returns-in-Err-clause-refused
returns-in-Err-clause-refused g c =
    let words = map g.S.AsStr.text c.args.words.now in
    let kinds : HasKind (program_faults words) c.in-Err.error = fails_by_program {T = ArgMatches} _ words (Err c.in-Err.error) c.in_ok-line.ensures c.in-Err.ensures.kinds in
    c.refusal.ensures.explains (program_faults words) kinds

pub returns-in-Err-clause-accepted : goal.returns-in-Err-clause-accepted
returns-in-Err-clause-accepted g c =
    let words = map g.S.AsStr.text c.args.words.now in
    let kinds : HasKind (program_faults words) c.in-Err.error = fails_by_program {T = ArgMatches} _ words (Err c.in-Err.error) c.in_ok-line.ensures c.in-Err.ensures.kinds in
    λ asked none said. c.refusal.ensures.memory (only_memory c.in-Err.error (subst (λ (k : Kinds). HasKind k c.in-Err.error) none kinds))
