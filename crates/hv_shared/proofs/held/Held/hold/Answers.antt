use Rattle.std.proofs.Common.{◌≡◌, [], ◌∷◌, ◌++◌, ◌∙◌, ap, sym, Global}
use Rattle.std.proofs.lemmas.List.Elements.{All-cons, All-nil}
use Rattle.hv_policy.specs.Parts.{reply_of}
use Rattle.hv_policy.specs.declared.event.Event.{Event}
use Rattle.hv_shared.specs.Pass.{receipt}
use Rattle.hv_shared.specs.PassValue.{PassValue}
use Rattle.hv_shared.specs.Receipts.{list_of}
use Rattle.hv_shared.specs.declared.receipts.Receipt.{Receipt}
use Rattle.hv_shared.specs.declared.receipts.Receipts.{Receipts}
use Rattle.hv_shared.proofs.PackedReceipts.{some_more}
use Rattle.hv_shared.proofs.held.Held.hold.Goals as goal

pub invariant_of-pass : goal.invariant_of-pass
invariant_of-pass g c =
    let by = c.pass.inside.caller in
    let own : c.args.copy.by ≡ by = ap (λ (e : Event Global). e.by) c.requires.copy ∙ c.requires.by ∙ sym (ap (λ (p : PassValue). p.caller) c.pass.view_is) in
    let told : Receipt = receipt c.len-number.result c.args.copy (reply_of c.in-Ok.answer c.as_slice-output.result.now) in
    some_more by (list_of c.pass.inside.receipts.value) (list_of c.push.new.self) (told ∷ []) _ _ _ _ c.pass.invariant
    (c.push.ensures.pushed ∙ ap (λ (r : Receipts). list_of r ++ told ∷ []) c.deref_mut.ensures.value)
    c.add.ensures.parts c.add.ensures.amount (All-cons (λ (r : Receipt). r.event.by ≡ by) told [] own (All-nil (λ (r : Receipt). r.event.by ≡ by)))
