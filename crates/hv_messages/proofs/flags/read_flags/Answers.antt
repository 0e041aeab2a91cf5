use Rattle.std.proofs.Common.{rules, refl}
use Rattle.hv_admit.proofs.UnchangedProcessor.{vp_kept}
use Rattle.hv_admit.proofs.PagesAndVps.{untold}
use Rattle.hv_policy.specs.declared.event.Action.TheVariants.{ReadFlags}
use Rattle.hv_messages.proofs.Outcomes.{caller_there, carried, has_state, refused}
use Rattle.hv_messages.specs.contracts.flags.read_flags.{A-type}
use Rattle.hv_messages.proofs.flags.read_flags.Goals as goal

pub returns-then-from-ge-SINTS : goal.returns-then-from-ge-SINTS
returns-then-from-ge-SINTS g c f flat = refused {A = A-type g.row.A} c.args.tree.now f c.args.by (ReadFlags c.args.sint)
    c.in_ok-vp.vp.now (c.in_ok-vp.ensures.met f flat) (search rules) c.in_ok-vp.ensures.there

pub returns : goal.returns
returns g c f flat =
    let by = c.args.by in
    let met = c.in_ok-vp.ensures.met f flat in
    let there = caller_there c.args.tree.now f flat by c.in_ok-vp.vp.now c.in_ok-vp.ensures.there met in
    let state = has_state c.args.tree.now f flat by.part by.vp c.in_ok-vp.vp.now there in (
      met,
      record {
        met = search rules;
        reply = (let row = state.row in search rules);
        rows = carried _ _ f (vp_kept c.args.tree.now by.part by.vp c.in_ok-vp.vp.now c.in_ok-vp.ensures.there) flat;
        told = untold f f refl refl refl;
      },
    )
