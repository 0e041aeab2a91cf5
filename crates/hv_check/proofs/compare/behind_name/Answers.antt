use Rattle.std.proofs.Common.{◌≡◌, ◌-◌, length, take, drop, arith, length-drop, take_all}
use Rattle.hv_check.proofs.Compared.{some_bytes, space_behind, space_nowhere}
use Rattle.hv_check.proofs.compare.behind_name.Goals as goal

pub returns-in-Some-clause-some : goal.returns-in-Some-clause-some
returns-in-Some-clause-some c =
    let text = c.args.text.now in
    let same : take (length text - 1) (drop 1 text) ≡ drop 1 text = take_all (length text - 1) (drop 1 text) (omega (arith, length-drop 1 text)) in
    space_behind text (take (length text - 1) (drop 1 text)) c.in-Some.field-0-0.now c.in-Some.rest.now (some_bytes text c.is_empty.result c.is_empty.ensures c.if-is_empty.false) c.if-text-ne32.false
    same c.in-Some.ensures.some

pub returns-in-None-clause-none : goal.returns-in-None-clause-none
returns-in-None-clause-none c =
    let text = c.args.text.now in
    let same : take (length text - 1) (drop 1 text) ≡ drop 1 text = take_all (length text - 1) (drop 1 text) (omega (arith, length-drop 1 text)) in
    space_nowhere text (take (length text - 1) (drop 1 text)) (some_bytes text c.is_empty.result c.is_empty.ensures c.if-is_empty.false) c.if-text-ne32.false same c.in-None.ensures.none
