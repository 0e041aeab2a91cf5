use Rattle.std.proofs.Common.{◌==◌, rules, tests}
use Rattle.std.proofs.lemmas.Iterator.{YieldsList-from_slice}
use Rattle.std.proofs.lemmas.Iterator.Search.{position_from_yields_List}
use Rattle.hv_script.proofs.CutLemmas.{cut_at, uncut}
use Rattle.hv_script.proofs.cut.around.Goals as goal

pub returns-in-Some : goal.returns-in-Some
returns-in-Some c =
    let found = position_from_yields_List (λ byte. byte == c.args.mark) _ _ c.position.result c.position.ensures.ran (YieldsList-from_slice c.args.text.now cc) (λ x b q k. search (rules, tests)) in
    let cut = cut_at (λ byte. byte == c.args.mark) c.args.text.now c.position.result c.in-Some.at found c.in-Some.is in
    record { before = cut.0; after = cut.1 }

pub returns-in-None : goal.returns-in-None
returns-in-None c =
    let found = position_from_yields_List (λ byte. byte == c.args.mark) _ _ c.position.result c.position.ensures.ran (YieldsList-from_slice c.args.text.now cc) (λ x b q k. search (rules, tests)) in
    let cut = uncut (λ byte. byte == c.args.mark) c.args.text.now c.position.result found c.in-None.is in
    record { before = cut.0; after = cut.1 }
