use Rattle.std.proofs.Common.{◌≡◌, get_or, sym, ap, ◌∙◌}
use Rattle.std.proofs.lemmas.Bool.{false≢true}
use Rattle.hv_shared.proofs.Callers.{is_itself, same_caller}
use Rattle.hv_phases.specs.declared.turn.Turn.{Turn}
use Rattle.hv_phases.specs.Turns.{todo}
use Rattle.hv_phases.proofs.TurnsLeft.{is_at, none_more, one_other, one_over, same_at}
use Rattle.hv_phases.proofs.schedule.find.Goals.{else-eq-via-then-eq+else-not-is_over, else-eq-via-else-eq}
use Rattle.hv_phases.proofs.schedule.find.Goals as goal

pub returns-then-not-is_over-clause-some : goal.returns-then-not-is_over-clause-some
returns-then-not-is_over-clause-some c =
    let turns = c.args.turns.now in
    let turn = c.index-turns-at.result in
    let same : turn ≡ c.index-turns-at-then-eq.result = same_at turns c.loop-at.at turn c.index-turns-at-then-eq.result c.loop-at-test.true c.index-turns-at.is c.index-turns-at-then-eq.is in
    let own : turn.by ≡ c.args.by = ap (λ (t : Turn). t.by) c.index-turns-at.is ∙ same_caller c.args.by (get_or turns c.loop-at.at turn).by (sym c.eq.ensures ∙ c.if-eq.true) in
    is_at c.args.by turns c.loop-at.at turn c.loop-at-test.true c.index-turns-at.is own c.loop-at.invariant
    (λ none. false≢true (sym c.if-not-is_over.true ∙ c.is_over.ensures.1 (ap todo (sym same) ∙ none)))

pub loop-at-preserved : goal.loop-at-preserved
loop-at-preserved c =
    let turns = c.args.turns.now in
    let turn = c.index-turns-at.result in
    none_more c.args.by turns c.loop-at.at turn c.loop-at-test.true c.index-turns-at.is c.loop-at.invariant
    (elim c.else-eq.branch [
      | else-eq-via-then-eq+else-not-is_over w ↦
          one_over c.args.by turn
          (ap todo (same_at turns c.loop-at.at turn w.index-turns-at-then-eq.result c.loop-at-test.true c.index-turns-at.is w.index-turns-at-then-eq.is) ∙ w.is_over.ensures.0 w.if-not-is_over.false)
      | else-eq-via-else-eq w ↦
          one_other c.args.by turn
          (λ own. false≢true (sym w.if-eq.false ∙ c.eq.ensures ∙ is_itself c.args.by (get_or turns c.loop-at.at turn).by (ap (λ (t : Turn). t.by) (sym c.index-turns-at.is) ∙ own)))
    ])
