use Rattle.std.proofs.Common.{◌≡◌, ◌+◌, ℕ, List, true, false, take, subst, sym, ap, refl, arith, rules, Global}
use Rattle.hv_abi.specs.declared.frame.Frame.{Frame}
use Rattle.hv_machine.specs.IsFlat.{IsFlat}
use Rattle.hv_policy.specs.Parts.{reply_of}
use Rattle.hv_policy.specs.declared.event.Action.{Action}
use Rattle.hv_policy.specs.declared.event.Action.TheVariants.{Hypercall}
use Rattle.hv_policy.specs.declared.reply.Reply.{Reply}
use Rattle.hv_embed.specs.Answer.{IsAnswer}
use Rattle.hv_embed.specs.Effect.{is_quiet_kind}
use Rattle.hv_embed.specs.Run.{HasRun, IsAt, IsLastEffect, IsRunEffect, first}
use Rattle.hv_embed.specs.Taken.{is_used_up}
use Rattle.hv_embed.specs.declared.layout.HvEffect.{HvEffect}
use Rattle.hv_embed.proofs.Elements.{at_first, few_told, has_run, calm_same}
use Rattle.hv_embed.proofs.run.step_run.Goals as goal

pub append_output-at-requires-clause-most : goal.append_output-at-requires-clause-most
append_output-at-requires-clause-most c =
    let taken = c.in-Ok-hypercall.ensures.step in
    few_told c.state.inside.machine c.args.by c.refill.new.frame (reply_of c.in-Ok-hypercall.last c.hypercall.new.output) c.is_used_up.ensures.lasting taken.reply

pub returns-clause-ran : goal.returns-clause-ran
returns-clause-ran c = λ f flat _.
    let on = c.run_on-more in
    let taken = c.in-Ok-hypercall.ensures.step in
    let frame : Frame Global = c.refill.new.frame in
    let here : IsFlat c.state.inside.machine f = search rules in
    let told : Reply = reply_of c.in-Ok-hypercall.last c.hypercall.new.output in
    let start : IsAt (first f c.args.by frame) c.hypercall.new.self frame told (take c.append_output-at.result c.append_output-at.new.outputs) =
    at_first f c.args.by frame c.hypercall.new.self told (take c.append_output-at.result c.append_output-at.new.outputs) (taken.reply f here) (taken.state f here)
    c.append_output-at.ensures.bytes in
    let counted : c.args.events.now + (on.result + 1) ≡ on.new.events = omega (arith, on.ensures.count) in
    let asked : IsAnswer c.fill_reply.new.reply (Hypercall on.new.frame) (reply_of on.new.last c.as_slice.result.now) =
    subst (λ (what : Action Global). IsAnswer c.fill_reply.new.reply what (reply_of on.new.last c.as_slice.result.now)) c.asked_in.ensures (c.fill_reply.ensures.answer on.new.frame.input) in
    let says : IsAnswer c.fill_reply.new.reply (Hypercall on.new.frame) (reply_of on.new.last on.new.output) =
    subst (λ (r : Reply). IsAnswer c.fill_reply.new.reply (Hypercall on.new.frame) r) (ap (λ (bytes : List ℕ). reply_of on.new.last bytes) c.as_slice.ensures.bytes) asked in
    subst (λ (frame : Frame Global). HasRun c.args.by (first f c.args.by frame) c.args.most c.args.events.now on.new.machine c.fill_reply.new.reply on.new.outputs
    (record { events = on.result + 1; output_len = on.new.at })) c.in-Ok.ensures.filled
    (has_run c.args.by (first f c.args.by frame) c.args.most c.args.events.now on.result on.new.machine on.new.frame (reply_of on.new.last on.new.output) c.fill_reply.new.reply on.new.outputs
    on.new.at
    (on.ensures.ran (first f c.args.by frame) start) (omega (arith, on.ensures.place)) says
    (λ more quiet left free few bounded. on.ensures.stopped more (subst (λ (e : HvEffect). is_quiet_kind e.kind ≡ true) c.fill_reply.ensures.effect quiet) left
    (subst (λ n. is_used_up on.new.machine.served n ≡ false) counted free) few (omega (arith, bounded))))

pub returns-clause-effect : goal.returns-clause-effect
returns-clause-effect c = λ f flat _.
    let on = c.run_on-more in
    let taken = c.in-Ok-hypercall.ensures in
    let frame : Frame Global = c.refill.new.frame in
    let here : IsFlat c.state.inside.machine f = search rules in
    let told : Reply = reply_of c.in-Ok-hypercall.last c.hypercall.new.output in
    let start : IsAt (first f c.args.by frame) c.hypercall.new.self frame told (take c.append_output-at.result c.append_output-at.new.outputs) =
    at_first f c.args.by frame c.hypercall.new.self told (take c.append_output-at.result c.append_output-at.new.outputs) (taken.step.reply f here) (taken.step.state f here)
    c.append_output-at.ensures.bytes in
    let now : IsLastEffect on.result f c.args.by (first f c.args.by frame) on.new.effect =
    on.ensures.effect (first f c.args.by frame) f start
    (record { last = record { effect = c.in-Ok-hypercall.effect; shown = c.show.ensures; tells = taken.effect f here }; calm = calm_same f }) in
    subst (λ (frame : Frame Global). IsRunEffect (on.result + 1) f c.args.by (first f c.args.by frame) c.fill_reply.new.reply.effect) c.in-Ok.ensures.filled
    (record { more = on.result; counted = refl; shown = subst (λ (e : HvEffect). IsLastEffect on.result f c.args.by (first f c.args.by frame) e) (sym c.fill_reply.ensures.effect) now })
