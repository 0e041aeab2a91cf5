use Rattle.std.proofs.Common.{rules}
use Rattle.hv_admit.proofs.ChangedProcessorMail.{interrupted_tied}
use Rattle.hv_messages.proofs.Outcomes.{caller_there, carried, has_state}
use Rattle.hv_messages.proofs.interrupts.take_interrupt.Goals as goal

pub returns : goal.returns
returns g c f flat =
    let by = c.args.by in
    let met = c.in_ok-vp.ensures.met f flat in
    let there = caller_there c.args.tree.now f flat by c.in_ok-vp.vp.now c.in_ok-vp.ensures.there met in
    let state = has_state c.args.tree.now f flat by.part by.vp c.in_ok-vp.vp.now there in (
      met,
      record {
        met = search rules;
        reply = (let row = state.row in search rules);
        rows = carried _ _ _ (search rules) (interrupted_tied c.args.tree.now f flat by.part by.vp);
        told = c.taken.ensures f c.in_ok-vp.vp.now state c.take_interrupt-vector.ensures.vector;
      },
    )
