use Rattle.std.proofs.Common.{refl}
use Rattle.hv_admit.proofs.PagesAndVps.{untold}
use Rattle.hv_port_calls.proofs.ChangedLinks.{carried, conn_removed}
use Rattle.hv_port_calls.proofs.port_disconnection.do_disconnect.Goals as goal

pub returns : goal.returns
returns g c f flat = record {
  output = refl;
  rows = carried _ _ _ (conn_removed c.args.tree.now f flat c.resolve_partition_id.result c.args.connection c.in-Some.target.now c.remove_conn.new.self c.in-Some.ensures.value
      c.remove_conn.ensures.conns c.remove_conn.ensures.rest) (rw c.resolve_partition_id.ensures refl);
  told = untold f _ refl refl refl;
}
