use Rattle.std.proofs.Common.{◌≡◌, ℕ, arith, get_or, max, rules, subst, sym}
use Rattle.hv_phases.specs.PassMap.{IsWithin}
use Rattle.hv_shared.specs.Receipts.{list_of}
use Rattle.hv_phases.proofs.ReceiptNumbers.{above_all, above_more}
use Rattle.hv_phases.proofs.barrier.highest_above.Goals as goal

pub loop-at-init : goal.loop-at-init
loop-at-init c = record { rises = omega arith; each = λ k d low less. absurd (omega (arith, low, less)) }

pub loop-at-preserved : goal.loop-at-preserved
loop-at-preserved c =
    let l = c.loop-at in
    let list = list_of c.args.receipts.now in
    let highest : c.max-highest.result ≡ max l.highest c.number-number.result = search rules in
    let was = l.invariant.rises in
    record {
      rises = omega (arith, highest, was);
      each = λ k d low less. subst (λ (n : ℕ). IsWithin c.args.last n (get_or list k d)) (sym highest)
          (above_more list c.args.from c.args.last l.highest l.at l.invariant.each c.number-number.result c.number-number.ensures c.if-number-last.false k d low less);
    }

pub returns : goal.returns
returns c =
    let l = c.loop-at in
    let list = list_of c.args.receipts.now in
    (l.invariant.rises, above_all list c.args.from c.args.last l.highest l.at l.invariant.each (omega (arith, c.loop-at-test.false, c.len-at-end.ensures)))
