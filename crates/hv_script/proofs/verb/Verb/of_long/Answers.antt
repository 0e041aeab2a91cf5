use Rattle.std.proofs.Common.{◌≡◌, arith, codes, length, refl, rules}
use Rattle.hv_script.proofs.WordLemmas.{of_nine}
use Rattle.hv_script.proofs.verb.Verb.of_long.Goals as goal

pub returns-in-clearslot : goal.returns-in-clearslot
returns-in-clearslot c =
    let long : length c.args.word.now ≡ 9 = omega (arith, c.in-clearslot.len_at_least, c.in-clearslot.len_below) in
    let is : c.args.word.now ≡ codes "clearslot" = search (rules, of_nine, long) in
    rw is refl

pub returns-in-clearflag : goal.returns-in-clearflag
returns-in-clearflag c =
    let long : length c.args.word.now ≡ 9 = omega (arith, c.in-clearflag.len_at_least, c.in-clearflag.len_below) in
    let is : c.args.word.now ≡ codes "clearflag" = search (rules, of_nine, long) in
    rw is refl

pub returns-in-interrupt : goal.returns-in-interrupt
returns-in-interrupt c =
    let long : length c.args.word.now ≡ 9 = omega (arith, c.in-interrupt.len_at_least, c.in-interrupt.len_below) in
    let is : c.args.word.now ≡ codes "interrupt" = search (rules, of_nine, long) in
    rw is refl
