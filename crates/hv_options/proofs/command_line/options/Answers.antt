use Rattle.std.proofs.Common.{◌≡◌, ◌∙◌, map, sym, [], subst, Ok, Err}
use Rattle.std.proofs.lemmas.Result.{IfErr-weaker, IfOk-weaker}
use Rattle.clap.specs.Words.{HasKind, Kinds}
use Rattle.clap.specs.declared.parser.matches.ArgMatches.{ArgMatches}
use Rattle.hv_options.specs.Options.{Explains, faults_of}
use Rattle.hv_options.proofs.OptionsLemmas.{fails_by_faults, said_by_matches-words, only_memory}
use Rattle.hv_options.proofs.command_line.options.Goals as goal

pub returns-in-Ok-clause-said : goal.returns-in-Ok-clause-said
returns-in-Ok-clause-said g c =
    let words = map g.S.AsStr.text c.args.words.now in
    let same = said_by_matches-words _ words c.in-Ok.matches c.in_ok-command.ensures c.in-Ok.ensures.matches in
    IfOk-weaker c.read.result _ _ (λ o said. sym same ∙ said) c.read.ensures.said

pub returns-in-Ok-clause-faultless : goal.returns-in-Ok-clause-faultless
returns-in-Ok-clause-faultless g c =
    let words = map g.S.AsStr.text c.args.words.now in
    let none : faults_of words ≡ [] = fails_by_faults _ words (Ok c.in-Ok.matches) c.in_ok-command.ensures c.in-Ok.ensures.kinds in
    IfOk-weaker c.read.result _ (λ _. faults_of words ≡ []) (λ o said. none) c.read.ensures.said

pub returns-in-Ok-clause-refused : goal.returns-in-Ok-clause-refused
returns-in-Ok-clause-refused g c =
    let words = map g.S.AsStr.text c.args.words.now in
    let none : faults_of words ≡ [] = fails_by_faults _ words (Ok c.in-Ok.matches) c.in_ok-command.ensures c.in-Ok.ensures.kinds in
    IfErr-weaker c.read.result _ _ (λ u e. subst (λ (k : Kinds). Explains k u) (sym none) e) c.read.ensures.refused

pub returns-in-Ok-clause-accepted : goal.returns-in-Ok-clause-accepted
returns-in-Ok-clause-accepted g c =
    let words = map g.S.AsStr.text c.args.words.now in
    let same = said_by_matches-words _ words c.in-Ok.matches c.in_ok-command.ensures c.in-Ok.ensures.matches in
    λ script serial table none said. c.read.ensures.accepted script serial table (same ∙ said)

pub returns-in-Err-clause-refused : goal.returns-in-Err-clause-refused
returns-in-Err-clause-refused g c =
    let words = map g.S.AsStr.text c.args.words.now in
    let kinds : HasKind (faults_of words) c.in-Err.error = fails_by_faults {T = ArgMatches} _ words (Err c.in-Err.error) c.in_ok-command.ensures c.in-Err.ensures.kinds in
    c.refusal.ensures.explains (faults_of words) kinds

pub returns-in-Err-clause-accepted : goal.returns-in-Err-clause-accepted
returns-in-Err-clause-accepted g c =
    let words = map g.S.AsStr.text c.args.words.now in
    let kinds : HasKind (faults_of words) c.in-Err.error = fails_by_faults {T = ArgMatches} _ words (Err c.in-Err.error) c.in_ok-command.ensures c.in-Err.ensures.kinds in
    λ script serial table none said. c.refusal.ensures.memory (only_memory c.in-Err.error (subst (λ (k : Kinds). HasKind k c.in-Err.error) none kinds))
