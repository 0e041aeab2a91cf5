use Rattle.std.proofs.Common.{◌≡◌, Some, refl, sym, ap, ◌∙◌, option_and_then}
use Rattle.std.specs.FinMap.{get}
use Rattle.hv_partition.specs.Partition.{PartitionState, with_vp_of}
use Rattle.hv_tree.proofs.Laws.{change-of}
use Rattle.hv_processors.proofs.WrittenRegister.{set_tied}
use Rattle.hv_processors.specs.Place.{vp_at}
use Rattle.hv_processors.proofs.set_registers.do_set_registers.Goals as goal

pub returns : goal.returns
returns g c f flat =
    let tree = c.args.tree.now in
    let part = c.resolve_partition_id-part.result in
    let was = c.in-Some-vp_mut.processor.now in
    let now = c.write_register.new.vp in
    let at : vp_at tree part c.args.vp ≡ Some was =
    ap (option_and_then (λ (p : PartitionState). get p.vps.vps c.args.vp)) (sym c.in-Some.ensures.value) ∙ sym c.in-Some-vp_mut.ensures.value in
    let back = change-of tree part (λ p. with_vp_of p c.args.vp now) c.in-Some.target.now (sym c.in-Some.ensures.value) in
    record {
      output = refl;
      rows = rw (← c.resolve_partition_id-part.ensures) (rw back
          (set_tied tree f flat part c.args.vp was now c.args.name c.args.value at c.in-Ok.ensures.state));
      told = rw (← c.resolve_partition_id-part.ensures) (c.in-Ok.ensures.told tree f at flat);
    }
