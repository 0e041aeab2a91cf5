use Rattle.std.proofs.Common.{◌<◌, ◌≤◌, ◌+◌, ◌∙◌, List, arith, length, refl, subst, sym}
use Rattle.std.proofs.lemmas.Option.{none-some}
use Rattle.hv_phases.proofs.PassesLeft.{AreLeft, all_left, none_left, one_left}
use Rattle.hv_shared.specs.PassValue.{PassValue}
use Rattle.hv_phases.proofs.pass_map.leave.Goals as goal

pub loop-at-init : goal.loop-at-init
loop-at-init g c = record { left = none_left c.args.runners c.args.callers.now c.args.passes.now.items c.requires.empty; room = refl }

pub unreachable-requires : goal.unreachable-requires
unreachable-requires g c =
    let at = c.loop-at.at in
    let less : at < length c.args.callers.now = omega (arith, c.loop-at-test.true) in
    let low : c.loop-at.at ≤ c.loop-at.at = omega arith in
    let has = c.requires.there at _ less in
    absurd (none-some has.0 (c.in_default.ensures.value ∙ c.loop-at.invariant.left.rest at _ low less ∙ has.1))

pub push_reserved-requires : goal.push_reserved-requires
push_reserved-requires g c =
    let count = c.loop-at.invariant.left.count in
    let room = c.loop-at.invariant.room in
    omega (arith, c.loop-at-test.true, count, room, c.requires.room)

pub loop-at-preserved : goal.loop-at-preserved
loop-at-preserved g c = record {
  left = subst (λ (ps : List PassValue). AreLeft c.args.runners c.args.callers.now (c.loop-at.at + 1) ps c.take_pass.new.runners)
      (sym c.push_reserved.ensures.items)
      (one_left c.args.runners c.args.callers.now c.loop-at.at _ c.loop-at.passes.items c.in-Some.pass c.loop-at.runners c.take_pass.new.runners
      (omega (arith, c.loop-at-test.true))
      c.requires.different c.loop-at.invariant.left c.in-Some.ensures.value c.take_pass.ensures.others);
  room = c.push_reserved.ensures.capacity ∙ c.loop-at.invariant.room;
}

pub returns : goal.returns
returns g c = all_left c.args.runners c.args.callers.now c.loop-at.at c.loop-at.passes.items c.loop-at.runners (omega (arith, c.loop-at-test.false))
    c.loop-at.invariant.left
