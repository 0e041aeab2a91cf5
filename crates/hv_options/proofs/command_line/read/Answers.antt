use Rattle.std.proofs.Common.{◌≡◌, ◌∙◌, Some, None, codes}
use Rattle.clap.specs.Words.{found_of, rows_of}
use Rattle.hv_options.specs.Options.{said_by_matches}
use Rattle.hv_options.proofs.OptionsLemmas.{read_of_rows, said_all, said_nothing, said_of_rows}
use Rattle.hv_options.proofs.command_line.read.Goals as goal

pub returns-in_default-get_str-clause-accepted : goal.returns-in_default-get_str-clause-accepted
returns-in_default-get_str-clause-accepted c =
    let run = found_of c.in-Some.run'.now in
    let nothing : said_by_matches c.args.matches.now ≡ None =
    said_of_rows c.args.matches.now (rows_of run) c.in-Some.ensures.rows
    ∙ said_nothing (rows_of run) (read_of_rows run (codes "SCRIPT") None c.in_default-get_str.ensures) in
    λ script serial table said. cc

pub returns-clause-said : goal.returns-clause-said
returns-clause-said c =
    let run = found_of c.in-Some.run'.now in
    said_of_rows c.args.matches.now (rows_of run) c.in-Some.ensures.rows
    ∙ said_all (rows_of run) c.in-Some-get_str.script.now c.is_given-serial.result c.is_given-table.result
    (read_of_rows run (codes "SCRIPT") (Some c.in-Some-get_str.script.now) c.in-Some-get_str.ensures)
    c.is_given-serial.ensures c.is_given-table.ensures
