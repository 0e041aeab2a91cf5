use Rattle.std.proofs.Common.{◌≡◌, ◌+◌, ◌∙◌, Some, ap, arith, sym}
use Rattle.hv_vp.proofs.Slots.{scan_at, scan_within}
use Rattle.hv_vp.specs.declared.vps.Slot.{Slot}
use Rattle.hv_vp.proofs.vps.place_of.Goals as goal

pub returns-then-slots-guess-clause-place : goal.returns-then-slots-guess-clause-place
returns-then-slots-guess-clause-place g c =
    let own : 0 + c.args.index ≡ c.args.index = omega arith in
    sym (rw c.if-slots-guess.true at (scan_at (λ s. s.index) (λ s. s.vp) c.args.slots.now c.args.index 0 c.index-slots-guess.result c.requires c.if-guess-slots.true) ∙ ap Some own)

pub returns-clause-within : goal.returns-clause-within
returns-clause-within g c = scan_within (λ (s : Slot g.row.A.Denot). s.index) (λ s. s.vp) c.args.index c.args.slots.now c.scan.result c.scan.ensures
