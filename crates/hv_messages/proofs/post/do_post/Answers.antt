use Rattle.std.proofs.Common.{rules, refl, ap, Some, ◌∙◌}
use Rattle.hv_mail.specs.Mail.{at, has_next, with_last}
use Rattle.hv_mail.specs.declared.message.Message.{Message}
use Rattle.hv_admit.proofs.ChangedProcessorMail.{posted_tied}
use Rattle.hv_vp.specs.Vp.{VpState, posted}
use Rattle.hv_messages.proofs.Outcomes.{aimed_there, carried, has_state, looked_up, post_served}
use Rattle.hv_messages.proofs.post.do_post.Goals as goal

pub unreachable-requires-in_default-vp_mut : goal.unreachable-requires-in_default-vp_mut
unreachable-requires-in_default-vp_mut g c =
    let t = c.requires.granted.admitted.rows in
    aimed_there c.args.tree.now t.flat t.tied _ _ c.args.aimed (c.requires.aims t.flat t.tied) c.in-Some.home.now c.in-Some.ensures.value c.in_default-vp_mut.ensures.value

pub returns : goal.returns
returns g c f flat =
    let to = c.args.aimed.to in
    let v = c.in-Some-vp_mut.vp.now in
    let message : Message = record { port = to.conn.port; born = to.conn.born; kind = c.args.message_type; payload = c.to_array.result } in
    let there = looked_up c.args.tree.now to.conn.part c.args.aimed.vp c.in-Some.home.now (Some v) c.in-Some.ensures.value c.in-Some-vp_mut.ensures.value in
    let room = c.in_ok-reserve_message.ensures.reserved in
    post_served f c.args.caller c.args.connection c.args.aimed _ _ c.args.message_type c.args.payload.now to.port.sint message (c.requires.aims f flat) refl refl refl refl c.to_array.ensures
    (carried _ _ _ (search rules) (posted_tied c.args.tree.now f flat to.conn.part c.args.aimed.vp to.port.sint v there message))
    (c.posted.ensures f v message (has_state c.args.tree.now f flat to.conn.part c.args.aimed.vp v there)
    (ap (λ (v : VpState). v.registers) (c.post-shown.ensures.state ∙ ap (posted to.port.sint message) room))
    (c.post-shown.ensures.shown ∙ ap (λ (v : VpState). has_next (with_last (at v.mail to.port.sint) message)) room))
