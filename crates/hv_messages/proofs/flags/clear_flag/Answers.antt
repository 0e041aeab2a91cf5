use Rattle.std.proofs.Common.{rules, refl}
use Rattle.hv_admit.proofs.ChangedProcessorMail.{flag_cleared_tied}
use Rattle.hv_policy.specs.declared.event.Action.TheVariants.{ClearFlag}
use Rattle.hv_messages.proofs.Outcomes.{caller_there, carried, has_state, refused}
use Rattle.hv_messages.specs.contracts.flags.clear_flag.{A-type}
use Rattle.hv_messages.proofs.flags.clear_flag.Goals as goal

pub returns-then-from-ge-SINTS : goal.returns-then-from-ge-SINTS
returns-then-from-ge-SINTS g c f flat = refused {A = A-type g.row.A} c.args.tree.now f c.args.by (ClearFlag c.args.sint c.args.flag)
    c.in_ok-vp.vp.now (c.in_ok-vp.ensures.met f flat) (search rules) c.in_ok-vp.ensures.there

pub returns-then-from-ge-EVENT_FLAGS : goal.returns-then-from-ge-EVENT_FLAGS
returns-then-from-ge-EVENT_FLAGS g c f flat = refused {A = A-type g.row.A} c.args.tree.now f c.args.by (ClearFlag c.args.sint c.args.flag)
    c.in_ok-vp.vp.now (c.in_ok-vp.ensures.met f flat) (search rules) c.in_ok-vp.ensures.there

pub returns : goal.returns
returns g c f flat =
    let by = c.args.by in
    let met = c.in_ok-vp.ensures.met f flat in
    let there = caller_there c.args.tree.now f flat by c.in_ok-vp.vp.now c.in_ok-vp.ensures.there met in (
      met,
      record {
        met = search rules;
        reply = refl;
        rows = carried _ _ _ (search rules) (flag_cleared_tied c.args.tree.now f flat by.part by.vp c.args.sint c.args.flag);
        told = c.flag_cleared.ensures f c.in_ok-vp.vp.now (has_state c.args.tree.now f flat by.part by.vp c.in_ok-vp.vp.now there) c.has_flag-was_set.ensures;
      },
    )
