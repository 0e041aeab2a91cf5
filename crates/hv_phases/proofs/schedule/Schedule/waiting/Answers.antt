use Rattle.std.proofs.Common.{◌<◌, length, sym, ap, ◌∙◌, arith}
use Rattle.std.proofs.lemmas.Bool.{false≢true}
use Rattle.hv_phases.specs.Turns.{todo}
use Rattle.hv_phases.proofs.TurnsLeft.{none_more, one_over, same_at, some_at}
use Rattle.hv_phases.proofs.schedule.Schedule.waiting.Goals as goal

pub returns-then-not-is_over-clause-some : goal.returns-then-not-is_over-clause-some
returns-then-not-is_over-clause-some c =
    let turns = c.args.self.now.turns.items in
    let turn = c.index-then-not-is_over.result.now in
    let less : c.loop-at.at < length turns = let len = c.len-at-end.ensures in let test = c.loop-at-test.true in omega (arith, len, test) in
    some_at turns c.loop-at.at turn less c.index-then-not-is_over.ensures
    (λ none. false≢true (sym c.if-not-is_over.true ∙ c.is_over.ensures.1 (ap todo (same_at turns c.loop-at.at c.index.result.now turn less c.index.ensures c.index-then-not-is_over.ensures) ∙ none)))

pub loop-at-preserved : goal.loop-at-preserved
loop-at-preserved c by =
    let turns = c.args.self.now.turns.items in
    let turn = c.index.result.now in
    let less : c.loop-at.at < length turns = let len = c.len-at-end.ensures in let test = c.loop-at-test.true in omega (arith, len, test) in
    none_more by turns c.loop-at.at turn less c.index.ensures (c.loop-at.invariant by) (one_over by turn (c.is_over.ensures.0 c.if-not-is_over.false))
