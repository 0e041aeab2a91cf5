use Rattle.std.proofs.Common.{◌≡◌, ◌+◌, length, arith, eqb-true}
use Rattle.hv_ports.proofs.BlockLists.{full_end}
use Rattle.hv_ports.proofs.blocks.is_end.Goals as goal

pub returns-then-place-eq-FULL-clause-end : goal.returns-then-place-eq-FULL-clause-end
returns-then-place-eq-FULL-clause-end g c =
    λ t.
    let last : c.args.place.block + 1 ≡ length c.args.blocks.now = eqb-true _ _ t in
    full_end c.args.blocks.now c.args.place.block c.args.place.at c.if-place-eq-FULL.true last (λ d. c.requires.full d (omega (arith, last)))
