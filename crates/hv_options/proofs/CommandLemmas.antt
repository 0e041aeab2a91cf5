-- What the clauses of clap give the program's command line.
use Rattle.std.proofs.Common.{◌≡◌, ◌∙◌, true, List, refl, ap, subst, Result}
use Rattle.clap.specs.Words.{App, FailsBy, HasMatchesOf, Text, fault_of, is_simple, is_simple_and_free, subcommand_of, subcommand_rows_of}
use Rattle.clap.proofs.OnLiterals.{clap_on_literals}
use Rattle.clap.specs.declared.parser.matches.ArgMatches.{ArgMatches}
use Rattle.clap.specs.declared.error.Error.{Error}
use Rattle.hv_options.specs.Commands.{asked_by, asked_by_entered, asked_by_matches, entered_by, program_faults, program_line}

-- the command line is one of which clap's words give the matches and the faults
is_simple_line : is_simple_and_free program_line ≡ true
unfolding clap_on_literals
is_simple_line = refl

is_simple_program : is_simple program_line ≡ true
unfolding clap_on_literals
is_simple_program = refl

-- what the matches of the words ask for is what the words ask for
pub asked_by_matches-words : (a : App) (words : List Text) (m : ArgMatches) → a ≡ program_line → HasMatchesOf a words m
    → asked_by_matches m ≡ asked_by words
unfolding entered_by
asked_by_matches-words a words m line has =
    let rows = (has (ap is_simple line ∙ is_simple_program)).1 in
    let P : App → Type 0 = λ b. subcommand_rows_of m ≡ subcommand_of b words in
    ap asked_by_entered (subst P line rows)

-- the kinds of clap's error are the faults of the words
pub fails_by_program : {T : Type 0} (a : App) (words : List Text) (r : Result T Error) → a ≡ program_line
    → (is_simple_and_free a ≡ true → FailsBy (fault_of a words) r) → FailsBy (program_faults words) r
unfolding program_faults
fails_by_program {T} a words r line fails =
    let P : App → Type 0 = λ b. FailsBy (fault_of b words) r in
    subst P line (fails (ap is_simple_and_free line ∙ is_simple_line))
