use Rattle.std.proofs.Common.{◌≡◌, Some, None, refl, rules}
use Rattle.clap.specs.Words.{first_of, found_of, rows_of}
use Rattle.hv_options.proofs.OptionsLemmas.{read_of_rows}
use Rattle.hv_options.proofs.command_line.is_given.Goals as goal

pub returns-in-Some : goal.returns-in-Some
returns-in-Some c =
    let first : first_of c.args.name.now (rows_of (found_of c.args.matches.now)) ≡ Some c.in-Some.value.now =
    read_of_rows (found_of c.args.matches.now) c.args.name.now (Some c.in-Some.value.now) c.in-Some.ensures in
    rw first (search rules)

pub returns-in-None : goal.returns-in-None
returns-in-None c =
    let first : first_of c.args.name.now (rows_of (found_of c.args.matches.now)) ≡ None =
    read_of_rows (found_of c.args.matches.now) c.args.name.now None c.in-None.ensures in
    rw first refl
