use Rattle.std.proofs.Common.{arith}
use Rattle.hv_phases.proofs.TurnsLeft.{le_of_test, over_todo, test_of_le, todo_over}
use Rattle.hv_phases.proofs.turn.Turn.is_over.Goals as goal

pub returns : goal.returns
returns c =
    let len = c.len.ensures in
    let items = c.args.self.now.actions.items in (
      λ t. over_todo items c.args.self.now.done (let le = le_of_test c.len.result c.args.self.now.done t in omega (arith, le, len)),
      λ none. test_of_le c.len.result c.args.self.now.done (let le = todo_over items c.args.self.now.done none in omega (arith, le, len)),
    )
