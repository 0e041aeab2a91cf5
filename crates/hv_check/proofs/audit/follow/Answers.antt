use Rattle.std.proofs.Common.{◌-◌, subst}
use Rattle.hv_check.specs.From.{IsLegalFrom, IsLegalFromWith, IsStep}
use Rattle.hv_check.specs.declared.step.Step.TheVariants.{On, Not}
use Rattle.hv_check.proofs.AuditEnd.{counted_back, moved_begun, moved_on, not_moved}
use Rattle.hv_check.proofs.ScriptTexts.{counts_map, says_map}
use Rattle.hv_check.proofs.audit.follow.Goals as goal

pub returns-in-Not-clause-verdict : goal.returns-in-Not-clause-verdict
returns-in-Not-clause-verdict c lines stands is =
    let moved = c.loop-kept.invariant.moved lines stands in
    let bad : IsStep c.args.ask.rules c.loop-kept.kept c.take_line.new.kept c.loop-kept.schedule c.take_line.new.schedule c.loop-kept.text.now (Not c.in-Not.wrong) = subst
    (IsStep c.args.ask.rules c.loop-kept.kept c.take_line.new.kept c.loop-kept.schedule c.take_line.new.schedule c.loop-kept.text.now) c.in-Not.is c.in_ok-rest.ensures.step in
    bad moved.left moved.stands c.args.ask.prefix (moved.forth c.args.ask.prefix is)

pub loop-kept-init : goal.loop-kept-init
loop-kept-init c = record {
  moved = λ lines stands. not_moved c.args.ask.rules c.args.kept.now c.begin.new.self lines c.args.audit.now (c.in_ok-begin.ensures.lines lines stands);
  begun = c.in_ok-begin.ensures.begun;
}

pub loop-kept-preserved : goal.loop-kept-preserved
loop-kept-preserved c = record {
  moved = λ lines stands.
      let moved = c.loop-kept.invariant.moved lines stands in
      let on : IsStep c.args.ask.rules c.loop-kept.kept c.take_line.new.kept c.loop-kept.schedule c.take_line.new.schedule c.loop-kept.text.now (On c.in-On.rest) = subst
      (IsStep c.args.ask.rules c.loop-kept.kept c.take_line.new.kept c.loop-kept.schedule c.take_line.new.schedule c.loop-kept.text.now) c.in-On.is c.in_ok-rest.ensures.step in
      let more = moved_on c.args.ask.rules c.args.kept.now c.loop-kept.kept c.take_line.new.kept c.loop-kept.schedule c.take_line.new.schedule lines c.args.audit.now c.loop-kept.text.now
      c.in-On.rest.now
      moved (on moved.left moved.stands) in
      moved_begun c.args.ask.rules c.args.kept.now c.take_line.new.kept c.take_line.new.schedule c.begin-in-loop-kept.new.self lines c.args.audit.now c.in-On.rest.now more
      (c.in_ok-begin-2.ensures.lines more.left more.stands);
  begun = c.in_ok-begin-2.ensures.begun;
}

pub returns-clause-verdict : goal.returns-clause-verdict
returns-clause-verdict c lines stands =
    let moved = c.loop-kept.invariant.moved lines stands in
    says_map c.judge.result (IsLegalFrom c.args.ask.prefix c.args.ask.rules c.loop-kept.kept moved.left c.loop-kept.text.now)
    (IsLegalFrom c.args.ask.prefix c.args.ask.rules c.args.kept.now lines c.args.audit.now)
    (moved.back c.args.ask.prefix) (moved.forth c.args.ask.prefix) (c.judge.ensures.verdict c.args.ask.rules moved.left moved.stands)

pub returns-clause-count : goal.returns-clause-count
returns-clause-count c lines stands =
    let moved = c.loop-kept.invariant.moved lines stands in
    counts_map c.judge.result (IsLegalFromWith c.args.ask.prefix c.args.ask.rules c.loop-kept.kept moved.left c.loop-kept.text.now)
    (IsLegalFromWith c.args.ask.prefix c.args.ask.rules c.args.kept.now lines c.args.audit.now)
    (counted_back c.args.ask.rules c.args.kept.now c.loop-kept.kept c.loop-kept.schedule lines c.args.audit.now c.loop-kept.text.now moved c.args.ask.prefix)
    (c.judge.ensures.count c.args.ask.rules moved.left moved.stands)
