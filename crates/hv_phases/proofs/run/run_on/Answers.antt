use Rattle.hv_phases.specs.PassMap.{HasBegunBy}
use Rattle.hv_phases.proofs.PassesLeft.{left_all, left_callers, left_part, left_whole, opened_begun, opened_counted, opened_part, opened_there}
use Rattle.hv_phases.proofs.run.run_on.Goals as goal

pub returns-in_default-clause-callers : goal.returns-in_default-clause-callers
returns-in_default-clause-callers g c = rw c.in_default.ensures.kept c.requires.opened.in_order

pub returns-in_default-clause-counted : goal.returns-in_default-clause-counted
returns-in_default-clause-counted g c = rw c.in_default.ensures.kept (opened_counted c.args.callers.now c.args.passes.now.items c.requires.opened
    c.args.lines.items)

pub returns-in_default-clause-begun : goal.returns-in_default-clause-begun
returns-in_default-clause-begun g c = rw c.in_default.ensures.kept (opened_begun c.args.callers.now c.args.passes.now.items c.requires.opened
    c.args.lines.items)

pub returns-in_default-clause-part : goal.returns-in_default-clause-part
returns-in_default-clause-part g c = λ is. rw c.in_default.ensures.kept (opened_part c.args.callers.now c.args.passes.now.items c.requires.opened
    c.args.lines.items c.args.serial)

pub returns-clause-callers : goal.returns-clause-callers
returns-clause-callers g c = left_callers c.run_map-progress.new.runners c.args.callers.now c.leave.new.passes.items c.leave.ensures c.args.lines.items
    c.run_map-progress.ensures.begun

pub returns-clause-counted : goal.returns-clause-counted
returns-clause-counted g c =
    left_all c.run_map-progress.new.runners c.args.callers.now c.leave.new.passes.items c.leave.ensures (HasBegunBy c.args.lines.items) _
    (λ stop by pass begun. begun.counted)
    c.run_map-progress.ensures.begun

pub returns-clause-begun : goal.returns-clause-begun
returns-clause-begun g c =
    left_all c.run_map-progress.new.runners c.args.callers.now c.leave.new.passes.items c.leave.ensures (HasBegunBy c.args.lines.items) _
    (λ stop by pass begun. begun.begun)
    c.run_map-progress.ensures.begun

pub returns-clause-whole : goal.returns-clause-whole
returns-clause-whole g c = λ none is.
    left_whole c.run_map-progress.new.runners c.args.callers.now c.leave.new.passes.items c.leave.ensures c.args.serial c.args.lines.items
    (c.run_map-progress.ensures.whole none is)

pub returns-clause-part : goal.returns-clause-part
returns-clause-part g c = λ is.
    left_part c.run_map-progress.new.runners c.args.callers.now c.leave.new.passes.items c.leave.ensures c.args.serial c.args.lines.items
    (c.run_map-progress.ensures.part is)

pub leave-requires-clause-there : goal.leave-requires-clause-there
leave-requires-clause-there g c =
    opened_there c.args.callers.now c.args.passes.now.items c.requires.opened c.args.lines.items c.in-Ok.runners c.run_map-progress.new.runners
    c.in-Ok.ensures.all c.run_map-progress.ensures.stayed
