use Rattle.std.proofs.Common.{◌≡◌, ℕ, ◌∙◌, nat_lt, sym, ap, arith, inl, inr, lt-ltb, le-ltb}
use Rattle.std.proofs.lemmas.Bool.{cases_lt}
use Rattle.std.proofs.lemmas.List.Sums.{sum_by_more, sum_by_more_le}
use Rattle.hv_mail.specs.Mail.{count_of}
use Rattle.hv_vp.proofs.AllSlots.{sum_all}
use Rattle.hv_vp.specs.declared.vps.Slot.{Slot}
use Rattle.hv_vp.proofs.vps.keep_fewer.Goals as goal

pub returns-then-kept-left : goal.returns-then-kept-left
returns-then-kept-left g c =
    let count : Slot g.row.A.Denot → ℕ = λ slot. count_of c.args.port c.args.born slot.vp.mail in
    let some = sum_by_more_le count c.args.slots.now c.loop-slot.slot-index c.slot-item.result c.loop-slot-test.true in
    let here = ap count c.slot-item.is in
    sym (le-ltb _ c.args.most (omega (arith, some, here, c.loop-slot.invariant, c.of_port-kept.ensures, c.if-kept-left.true)))

pub loop-slot-preserved : goal.loop-slot-preserved
loop-slot-preserved g c =
    let count : Slot g.row.A.Denot → ℕ = λ slot. count_of c.args.port c.args.born slot.vp.mail in
    let more = sum_by_more count c.args.slots.now c.loop-slot.slot-index c.slot-item.result c.loop-slot-test.true in
    let here = ap count c.slot-item.is in
    omega (arith, more, here, c.loop-slot.invariant, c.of_port-kept.ensures, c.if-kept-left.false)

pub returns : goal.returns
returns g c =
    let count : Slot g.row.A.Denot → ℕ = λ slot. count_of c.args.port c.args.born slot.vp.mail in
    let all = sum_all count c.args.slots.now c.loop-slot.slot-index (omega (arith, c.loop-slot-test.false)) in
    elim (cases_lt 0 c.loop-slot.left) [
      | inl some ↦ lt-ltb 0 c.loop-slot.left some ∙ sym (lt-ltb _ c.args.most (omega (arith, all, c.loop-slot.invariant, some)))
      | inr none ↦ le-ltb 0 c.loop-slot.left none ∙ sym (le-ltb _ c.args.most (omega (arith, all, c.loop-slot.invariant, none)))
    ]
