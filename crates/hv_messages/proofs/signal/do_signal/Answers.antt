use Rattle.std.proofs.Common.{rules, refl, ap, ◌+◌, Some}
use Rattle.hv_admit.proofs.ChangedProcessorMail.{signalled_tied}
use Rattle.hv_vp.specs.Vp.{VpState}
use Rattle.hv_messages.proofs.Outcomes.{aimed_there, carried, has_state, looked_up, signal_served}
use Rattle.hv_messages.proofs.signal.do_signal.Goals as goal

pub unreachable-requires-in_default-vp_mut : goal.unreachable-requires-in_default-vp_mut
unreachable-requires-in_default-vp_mut g c =
    let t = c.requires.granted.admitted.rows in
    aimed_there c.args.tree.now t.flat t.tied _ _ c.args.aimed (c.requires.aims t.flat t.tied) c.in-Some.home.now c.in-Some.ensures.value c.in_default-vp_mut.ensures.value

pub returns : goal.returns
returns g c f flat =
    let to = c.args.aimed.to in
    let v = c.in-Some-vp_mut.vp.now in
    let there = looked_up c.args.tree.now to.conn.part c.args.aimed.vp c.in-Some.home.now (Some v) c.in-Some.ensures.value c.in-Some-vp_mut.ensures.value in
    signal_served f c.args.caller c.args.connection c.args.aimed _ _ c.args.flag to.port.sint (to.port.base + c.args.flag) (c.requires.aims f flat) refl refl
    (carried _ _ _ (search rules) (signalled_tied c.args.tree.now f flat to.conn.part c.args.aimed.vp to.port.sint (to.port.base + c.args.flag)))
    (c.signalled.ensures f v (has_state c.args.tree.now f flat to.conn.part c.args.aimed.vp v there) (ap (λ (v : VpState). v.registers) c.signal.ensures) c.has_flag-was_set.ensures)
