use Rattle.std.proofs.Common.{rules, refl}
use Rattle.hv_admit.proofs.ChangedProcessorMail.{slot_cleared_tied}
use Rattle.hv_policy.specs.declared.event.Action.TheVariants.{ClearSlot}
use Rattle.hv_messages.proofs.Outcomes.{caller_there, carried, has_state, refused}
use Rattle.hv_messages.specs.contracts.slots.clear_slot.{A-type}
use Rattle.hv_messages.proofs.slots.clear_slot.Goals as goal

pub returns-then-from-ge-SINTS : goal.returns-then-from-ge-SINTS
returns-then-from-ge-SINTS g c f flat = refused {A = A-type g.row.A} c.args.tree.now f c.args.by (ClearSlot c.args.sint)
    c.in_ok-vp.vp.now (c.in_ok-vp.ensures.met f flat) (search rules) c.in_ok-vp.ensures.there

pub returns : goal.returns
returns g c f flat =
    let by = c.args.by in
    let met = c.in_ok-vp.ensures.met f flat in
    let there = caller_there c.args.tree.now f flat by c.in_ok-vp.vp.now c.in_ok-vp.ensures.there met in (
      met,
      record {
        met = search rules;
        reply = refl;
        rows = carried _ _ _ (search rules) (slot_cleared_tied c.args.tree.now f flat by.part by.vp c.args.sint);
        told = c.slot_cleared.ensures f c.in_ok-vp.vp.now (has_state c.args.tree.now f flat by.part by.vp c.in_ok-vp.vp.now there) c.shown-port.ensures;
      },
    )
