use Rattle.std.proofs.Common.{◌≡◌, ◌+◌, ℕ, List, [], subst, sym, ap, refl, rules, ◌∙◌, Global}
use Rattle.hv_admit.specs.Effect.{Tells}
use Rattle.hv_admit.specs.declared.effect.Effect.{Effect}
use Rattle.hv_history.specs.Row.{action_of}
use Rattle.hv_machine.specs.Access.{access_event}
use Rattle.hv_machine.specs.IsFlat.{IsFlat}
use Rattle.hv_policy.specs.Call.{action_of as action_by}
use Rattle.hv_policy.specs.Flat.{Flat}
use Rattle.hv_policy.specs.Parts.{reply_of}
use Rattle.hv_policy.specs.Step.{step}
use Rattle.hv_policy.specs.declared.event.Action.{Action}
use Rattle.hv_policy.specs.declared.event.Caller.{Caller}
use Rattle.hv_policy.specs.declared.event.Event.{Event}
use Rattle.hv_policy.specs.declared.reply.Reply.{Reply}
use Rattle.hv_embed.specs.Answer.{IsAnswer, line_text}
use Rattle.hv_embed.specs.Effect.{IsEffect}
use Rattle.hv_embed.specs.Taken.{HasLine, IsStepped}
use Rattle.hv_embed.specs.declared.layout.HvEffect.{HvEffect}
use Rattle.hv_embed.proofs.take.take_access.Goals as goal

pub returns-clause-taken : goal.returns-clause-taken
returns-clause-taken c = λ _.
    let event : Event Global = access_event c.caller_of-by.result c.args.access in
    let s = c.access.ensures.step in
    let out : List ℕ = c.access.new.output in
    let number = c.args.machine.now.events + 1 in
    let here : (f : Flat) → IsFlat c.args.machine.now.raw_machine.machine f → IsFlat c.state.inside.machine f = λ f flat. search rules in
    let told : (f : Flat) → IsFlat c.args.machine.now.raw_machine.machine f → reply_of c.parted-told.result.0 c.as_slice.result.now ≡ (step f event).1 =
    λ f flat. ap (λ bytes. reply_of c.parted-told.result.0 bytes) c.as_slice.ensures.bytes ∙ c.parted-told.ensures.reply out ∙ s.reply f (here f flat) in
    let asked : action_of {A = Global} c.asked_of.result [] ≡ action_by c.args.access = c.asked_of.ensures [] in
    let stepped : IsStepped event number c.args.machine.now.raw_machine.machine c.access.new.self c.answer.new.reply c.answer.new.line =
    record {
      reply = λ f flat. subst (λ (r : Reply). IsAnswer c.answer.new.reply event.what r) (told f flat)
          (subst (λ (what : Action Global). IsAnswer c.answer.new.reply what (reply_of c.parted-told.result.0 c.as_slice.result.now)) asked c.answer.ensures.answer);
      line = λ f flat. subst (λ (r : Reply). HasLine c.answer.new.line c.answer.new.reply.line_len (line_text number event r)) (told f flat)
          (subst (λ (what : Action Global). HasLine c.answer.new.line c.answer.new.reply.line_len
          (line_text number (record { by = c.caller_of-by.result; what = what }) (reply_of c.parted-told.result.0 c.as_slice.result.now))) asked c.answer.ensures.line);
      state = λ f flat. s.state f (here f flat);
      effect = λ f flat. subst (λ (e : HvEffect). IsEffect e f (step f event).0) (sym c.answer.ensures.effect)
          (record {
            effect = c.parted-told.result.1;
            shown = c.show.ensures;
            tells = subst (λ (e : Effect). Tells e f (step f event).0) (sym c.parted-told.ensures.effect) (c.access.ensures.effect f (here f flat));
          });
      pages = search rules;
      lasting = s.lasting;
      sound = s.sound;
    } in
    record {
      step = subst (λ (by : Caller). IsStepped (access_event by c.args.access) number c.args.machine.now.raw_machine.machine c.access.new.self c.answer.new.reply c.answer.new.line)
          c.caller_of-by.ensures stepped;
      events = refl;
      live = search rules;
    }
