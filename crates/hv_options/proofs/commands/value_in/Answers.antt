use Rattle.std.proofs.Common.{sym}
use Rattle.clap.specs.Words.{found_of}
use Rattle.hv_options.proofs.OptionsLemmas.{read_of_rows}
use Rattle.hv_options.proofs.commands.value_in.Goals as goal

pub returns : goal.returns
returns c = sym (read_of_rows (found_of c.args.own.now) c.args.name.now _ c.get_str.ensures)
