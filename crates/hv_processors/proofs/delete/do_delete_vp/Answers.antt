use Rattle.std.proofs.Common.{◌≡◌, Some, true, refl, rules}
use Rattle.std.specs.FinMap.{contains_key}
use Rattle.hv_defs.specs.declared.life.Life.TheVariants.{Active}
use Rattle.hv_admit.specs.Effect.{life_of}
use Rattle.hv_processors.proofs.CreatedProcessor.{delete_active, removed_tied, removed_told}
use Rattle.hv_processors.proofs.delete.do_delete_vp.Goals as goal

pub returns : goal.returns
returns g c f flat =
    let part = c.resolve_partition_id-part.result in
    let was = c.in-Some.target.now in
    let there : contains_key was.vps.vps c.args.vp ≡ true = search rules in
    let active : life_of f part ≡ Some Active =
    rw c.resolve_partition_id-part.ensures (delete_active c.args.tree.now f flat c.args.caller c.args.partition c.args.vp c.requires) in
    record {
      output = refl;
      rows = rw (← c.resolve_partition_id-part.ensures)
          (removed_tied c.args.tree.now f flat part c.args.vp was c.in-Some.ensures.value c.remove_vp.new.self c.remove_vp.ensures.rest c.remove_vp.ensures.vps);
      told = rw (← c.resolve_partition_id-part.ensures) (removed_told c.args.tree.now f flat part c.args.vp was c.in-Some.ensures.value active there);
    }
