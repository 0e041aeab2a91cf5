use Rattle.std.proofs.Common.{◌∙◌, false, rules, tests}
use Rattle.std.proofs.lemmas.Iterator.{YieldsList-from_slice}
use Rattle.std.proofs.lemmas.Iterator.Search.{find_from_yields_List}
use Rattle.std.specs.Option.{option_map_or}
use Rattle.std.specs.Str.{bytes_eq}
use Rattle.hv_defs.specs.declared.registers.TheConstants.{REGISTERS}
use Rattle.hv_words.specs.Names.{register_name}
use Rattle.hv_asm.specs.Names.{row_named}
use Rattle.hv_asm.proofs.names.row_named.Goals as goal

pub returns : goal.returns
unfolding row_named
returns c =
    c.copied.ensures
    ∙ find_from_yields_List (λ row. option_map_or (λ name. bytes_eq name c.args.word.now) (register_name row.name) false) _ _ c.find.result c.find.ensures.ran (YieldsList-from_slice REGISTERS cc)
    (λ x b q k. search (rules, tests))
