use Rattle.std.proofs.Common.{◌<◌, refl, arith}
use Rattle.hv_policy.specs.Parts.{reply_of}
use Rattle.hv_history.proofs.Elements.{begun, ends_in, goes_on, stopped}
use Rattle.hv_history.specs.Run.{element}
use Rattle.hv_history.proofs.kept.Kept.answer_run.Goals as goal

pub returns-in-Err-answer_next-clause-stopped : goal.returns-in-Err-answer_next-clause-stopped
returns-in-Err-answer_next-clause-stopped g c =
    let l = c.loop-next in
    let fewer : l.events < c.args.most = omega arith in
    stopped c.args.by c.args.frame (reply_of l.answer l.output) l.events c.args.self.now l.self l.invariant.so_far c.in-Some.next l.output (c.in-Some.ensures.some l.output) c.args.most
    c.answer_next.new.self c.in-Err-answer_next.ensures.refused fewer

pub loop-next-init : goal.loop-next-init
loop-next-init g c =
    record {
      so_far = begun c.args.by c.args.frame (reply_of c.in-Ok.answer c.answer.new.output) c.args.self.now c.answer.new.self c.in-Ok.ensures.taken;
      within = let some = c.requires in omega arith;
      run = c.in-Ok.ensures.run;
    }

pub loop-next-preserved : goal.loop-next-preserved
loop-next-preserved g c =
    let l = c.loop-next in
    let is = l.invariant.so_far in
    let reply = reply_of l.answer l.output in
    let ends = ends_in c.args.by c.args.frame reply l.events c.args.self.now l.self is in
    let taken = c.in-Ok-answer_next.ensures.applied (record { event = element c.args.by is.last; reply = reply }) is.last ends refl in
    record {
      so_far = goes_on c.args.by c.args.frame reply l.events c.args.self.now l.self is c.in-Some.next l.output (c.in-Some.ensures.some l.output) _ c.answer_next.new.self taken;
      within = omega arith;
      run = c.in-Ok-answer_next.ensures.run;
    }
