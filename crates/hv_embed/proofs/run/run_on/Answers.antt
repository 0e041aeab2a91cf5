use Rattle.std.proofs.Common.{◌≡◌, ◌-◌, ◌<◌, ◌≤◌, Bool, true, false, ◌||◌, nat_le, lt-ltb, ℕ, List, ◌++◌, length, take, drop, subst, sym, refl, ap, arith, ◌∙◌}
use Rattle.std.proofs.Common.{length-append, length-take}
use Rattle.std.proofs.lemmas.Grind.{common_steps}
use Rattle.std.proofs.lemmas.List.{drop_at, length-take-le}
use Rattle.std.proofs.lemmas.List.Edits.{length-between}
use Rattle.std.proofs.lemmas.Slice.{between_is}
use Rattle.std.specs.List.{between}
use Rattle.std.proofs.lemmas.Bool.Decides.{nat_tests}
use Rattle.hv_policy.specs.Parts.{next_in, reply_of}
use Rattle.hv_history.specs.Run.{IsMore, restart}
use Rattle.hv_policy.specs.declared.reply.Reply.{Reply}
use Rattle.hv_policy.specs.declared.reply.Reply.TheVariants.{More}
use Rattle.hv_embed.specs.Run.{IsAtMore, IsLastEffect, output_in, run}
use Rattle.hv_embed.specs.Taken.{is_used_up}
use Rattle.hv_embed.specs.declared.status.TheConstants.{MAX_EVENTS}
use Rattle.hv_embed.proofs.Elements.{few_told, one_more, effect_on, one_more_effect}
use Rattle.hv_embed.proofs.run.run_on.Goals as goal
use Rattle.hv_embed.proofs.run.run_on.Goals.{then-outputs-at-lt-ELEMENT_OUTPUT, else-outputs-at-lt-ELEMENT_OUTPUT}

pub append_output-requires-clause-most : goal.append_output-requires-clause-most
append_output-requires-clause-most c =
    few_told c.loop-more.machine c.args.by c.restart.new.frame (reply_of c.in-Ok.told c.hypercall.new.output) c.loop-more.invariant.lasting c.in-Ok.ensures.step.reply

-- bytes that a buffer gets from a place on, and their place
module _ (from at : ℕ) (old new bytes : List ℕ) (within : from ≤ length old) (put : take at new ≡ take from old ++ bytes) where
  on_part : between from at new ≡ bytes
  on_part = between_is new from at ∙ ap (λ (xs : List ℕ). drop from xs) put ∙ drop_at (take from old) bytes from (length-take-le from old within)

  on_end : from ≤ at
  on_end = omega (arith, length-take at new, ap length put, length-append (take from old) bytes, length-take-le from old within)

pub loop-more-preserved : goal.loop-more-preserved
loop-more-preserved c =
    let l = c.loop-more in
    let was = l.invariant in
    let taken = c.in-Ok.ensures.step in
    let told : Reply = reply_of l.last l.output in
    let reply : Reply = reply_of c.in-Ok.told c.hypercall.new.output in
    let put : take c.append_output.result c.append_output.new.outputs ≡ take l.at l.outputs ++ output_in reply = c.append_output.ensures.bytes in
    let more : told ≡ More c.in-Some.next l.output = c.in-Some.ensures.some l.output in
    let next : c.restart.new.frame ≡ restart l.frame (next_in told) = c.restart.ensures ∙ ap (λ (r : Reply). restart l.frame (next_in r)) (sym more) in
    record {
      ran = λ ran at. one_more c.args.by l.machine c.hypercall.new.self l.frame c.restart.new.frame told reply taken.reply taken.state l.more ran (take l.at l.outputs)
          (take c.append_output.result c.append_output.new.outputs)
          next (subst IsMore (sym more) tt) put (was.ran ran at);
      effect = λ ran f at first. one_more_effect l.more f c.args.by ran l.effect c.show.new.told (was.effect ran f at first) (sym c.is_quiet.ensures ∙ c.if-not-is_quiet.false)
          (effect_on c.args.by l.machine l.frame c.restart.new.frame told (take l.at l.outputs) (run l.more c.args.by ran) c.in-Ok.change c.show.new.told (was.ran ran at).stands next
          c.show.ensures c.in-Ok.ensures.effect);
      count = omega arith;
      place = omega arith;
      from = on_end l.at c.append_output.result l.outputs c.append_output.new.outputs (output_in reply) was.place put;
      most = omega arith;
      put = on_part l.at c.append_output.result l.outputs c.append_output.new.outputs (output_in reply) was.place put;
      few = omega arith;
      index = taken.result c.restart.new.frame refl;
      pages = taken.pages ∙ was.pages;
      lasting = taken.lasting;
      sound = taken.sound;
    }

pub extend_from_slice-requires : goal.extend_from_slice-requires
extend_from_slice-requires c =
    let l = c.loop-more in
    let part : length (between l.from l.at l.outputs) ≡ l.at - l.from = length-between l.outputs l.from l.at l.invariant.place in
    grind (arith, common_steps, part, l.invariant.most)

pub returns-clause-ran : goal.returns-clause-ran
returns-clause-ran c = λ ran at.
    let l = c.loop-more in
    let all : l.more ≡ c.min-end.result = omega arith in
    subst (λ n. IsAtMore n c.args.by ran l.machine l.frame (reply_of l.last l.output) (take l.at l.outputs)) all (l.invariant.ran ran at)

pub returns-clause-effect : goal.returns-clause-effect
returns-clause-effect c = λ ran f at first.
    let l = c.loop-more in
    let all : l.more ≡ c.min-end.result = omega arith in
    subst (λ n. IsLastEffect n f c.args.by ran l.effect) all (l.invariant.effect ran f at first)

-- events that aren't used up can be counted once more
countable : (served : Bool) (events : ℕ) → (served || nat_le MAX_EVENTS events) ≡ false → events < MAX_EVENTS
countable true events is = cc
countable false events is = grind (arith, nat_tests)

pub overflow_add-events : goal.overflow_add-events
overflow_add-events c =
    let free : is_used_up c.loop-more.machine.served c.loop-more.events ≡ false = elim c.if-outputs-at-lt-ELEMENT_OUTPUT.branch [
      | then-outputs-at-lt-ELEMENT_OUTPUT w ↦ (let clash : true ≡ false = sym (lt-ltb _ _ w.if-outputs-at-lt-ELEMENT_OUTPUT.true) ∙ sym w.is_full-is ∙ c.if-is_full.false in cc)
      | else-outputs-at-lt-ELEMENT_OUTPUT w ↦ sym w.is_used_up-is_full.ensures.used ∙ sym w.is_full-is ∙ c.if-is_full.false
    ] in
    let few = countable _ c.loop-more.events free in
    omega (arith, few)
