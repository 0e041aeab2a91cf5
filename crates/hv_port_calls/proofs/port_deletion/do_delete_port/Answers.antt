use Rattle.std.proofs.Common.{refl}
use Rattle.hv_admit.proofs.PagesAndVps.{untold}
use Rattle.hv_port_calls.proofs.ChangedLinks.{carried, port_removed}
use Rattle.hv_port_calls.proofs.port_deletion.do_delete_port.Goals as goal

pub returns : goal.returns
returns g c f flat = record {
  output = refl;
  rows = carried _ _ _ (port_removed c.args.tree.now f flat c.resolve_partition_id.result c.args.port c.in-Some.target.now c.remove_port.new.self c.in-Some.ensures.value
      c.remove_port.ensures.ports c.remove_port.ensures.rest) (rw c.resolve_partition_id.ensures refl);
  told = untold f _ refl refl refl;
}
