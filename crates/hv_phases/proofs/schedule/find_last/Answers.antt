use Rattle.std.proofs.Common.{◌≡◌, ℕ, ◌+◌, ◌-◌, [], get_or, drop, sym, ap, ◌∙◌, subst, arith}
use Rattle.hv_shared.proofs.Callers.{same_caller}
use Rattle.hv_phases.specs.declared.turn.Turn.{Turn}
use Rattle.hv_phases.specs.Turns.{todo_of}
use Rattle.hv_phases.proofs.TurnsLeft.{is_last}
use Rattle.hv_phases.proofs.schedule.find_last.Goals as goal

pub returns-then-eq : goal.returns-then-eq
returns-then-eq c =
    let turns = c.args.turns.now in
    let turn = c.index-turns-at.result in
    let at = c.loop-at.at - 1 in
    let some = c.loop-at-test.true in
    let most = c.loop-at.auto.at in
    let own : turn.by ≡ c.args.by = ap (λ (t : Turn). t.by) c.index-turns-at.is ∙ same_caller c.args.by (get_or turns at turn).by (sym c.eq.ensures ∙ c.if-eq.true) in
    is_last c.args.by turns at turn (omega (arith, some, most)) c.index-turns-at.is own
    (subst (λ (n : ℕ). todo_of c.args.by (drop n turns) ≡ []) (let same : c.loop-at.at ≡ (c.loop-at.at - 1) + 1 = omega (arith, some) in same) c.loop-at.invariant)
