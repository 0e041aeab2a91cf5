use Rattle.std.proofs.Common.{◌∙◌, rules, tests}
use Rattle.std.proofs.lemmas.Iterator.{YieldsList-from_slice}
use Rattle.std.proofs.lemmas.Iterator.Search.{find_from_yields_List}
use Rattle.std.specs.Str.{bytes_eq}
use Rattle.hv_abi.specs.declared.call_kind.TheConstants.{ALL_CALLS}
use Rattle.hv_words.specs.Names.{call_name}
use Rattle.hv_asm.specs.Names.{call_named}
use Rattle.hv_asm.proofs.names.call_named.Goals as goal

pub returns : goal.returns
unfolding call_named
returns c =
    c.copied.ensures
    ∙ find_from_yields_List (λ call. bytes_eq (call_name call) c.args.word.now) _ _ c.find.result c.find.ensures.ran (YieldsList-from_slice ALL_CALLS cc) (λ x b q k. search (rules, tests))
