use Rattle.std.proofs.Common.{rules, ◌≡◌, ◌<◌, ◌++◌, List, ℕ, ap, refl, sym, ◌∙◌, arith, lt-ltb}
use Rattle.hv_defs.specs.declared.sizes.TheConstants.{SINTS}
use Rattle.hv_policy.specs.Mail.{slot_at}
use Rattle.hv_policy.specs.declared.reply.Reply.TheVariants.{Served}
use Rattle.hv_admit.proofs.ChangedProcessorMail.{slot_told}
use Rattle.hv_admit.proofs.UnchangedProcessor.{vp_kept}
use Rattle.hv_admit.specs.Tie.{here}
use Rattle.hv_admit.proofs.PagesAndVps.{untold}
use Rattle.hv_policy.specs.declared.event.Action.TheVariants.{ReadSlot}
use Rattle.hv_messages.proofs.Outcomes.{caller_there, carried, refused}
use Rattle.hv_messages.specs.contracts.slots.read_slot.{A-type}
use Rattle.hv_messages.proofs.slots.read_slot.Goals as goal

pub returns-then-from-ge-SINTS : goal.returns-then-from-ge-SINTS
returns-then-from-ge-SINTS g c f flat = refused {A = A-type g.row.A} c.args.tree.now f c.args.by (ReadSlot c.args.sint)
    c.in_ok-vp.vp.now (c.in_ok-vp.ensures.met f flat) (search rules) c.in_ok-vp.ensures.there

pub returns : goal.returns
returns g c f flat =
    let by = c.args.by in
    let met = c.in_ok-vp.ensures.met f flat in
    let there = caller_there c.args.tree.now f flat by c.in_ok-vp.vp.now c.in_ok-vp.ensures.there met in
    let told : c.extend_from_slice.new.self ≡ slot_at (here by.part by.vp c.args.sint) f.mail =
    c.extend_from_slice.ensures ∙ ap (λ (bytes : List ℕ). bytes ++ c.slot.result) c.requires ∙ c.slot.ensures
    ∙ sym (slot_told c.args.tree.now f flat by.part by.vp c.args.sint c.in_ok-vp.vp.now there) in (
      met,
      record {
        met = (let low : c.args.sint < SINTS = omega arith in rw (lt-ltb c.args.sint SINTS low) refl);
        reply = ap Served told;
        rows = carried _ _ f (vp_kept c.args.tree.now by.part by.vp c.in_ok-vp.vp.now c.in_ok-vp.ensures.there) flat;
        told = untold f f refl refl refl;
      },
    )
