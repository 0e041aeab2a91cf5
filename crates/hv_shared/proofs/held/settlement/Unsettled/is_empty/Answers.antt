use Rattle.std.proofs.Common.{rules, ◌≡◌, ◌≤◌, ◌∙◌, ap, arith, le-leb, length}
use Rattle.std.proofs.lemmas.List.{drop_all}
use Rattle.hv_shared.specs.Receipts.{list_of}
use Rattle.hv_shared.specs.declared.receipts.Receipts.{Receipts}
use Rattle.hv_shared.proofs.PackedReceipts.{all_past}
use Rattle.hv_shared.proofs.held.settlement.Unsettled.is_empty.Goals as goal

pub returns : goal.returns
returns c =
    let rest = c.args.self.now in
    let list = list_of rest.receipts.value in
    let long : c.len.result ≡ length list = c.len.ensures ∙ ap (λ (r : Receipts). length (list_of r)) c.deref.ensures in (
      λ t. let past : c.len.result ≤ rest.found = search rules in drop_all rest.found list (omega (arith, past, long)),
      λ none. let past = all_past list rest.found none in le-leb _ _ (omega (arith, past, long)),
    )
