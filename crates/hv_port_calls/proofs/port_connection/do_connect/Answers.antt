use Rattle.std.proofs.Common.{refl}
use Rattle.std.proofs.lemmas.Result.{err_from_is_err_and}
use Rattle.hv_admit.proofs.PagesAndVps.{untold}
use Rattle.hv_port_calls.proofs.ChangedLinks.{carried, conn_added, put_back}
use Rattle.hv_port_calls.proofs.port_connection.do_connect.Goals as goal

pub returns-in_err-reserve_conn : goal.returns-in_err-reserve_conn
returns-in_err-reserve_conn g c f flat =
    let p = err_from_is_err_and c.from_residual.result c.from_residual.ensures.1 in
    rw p.1 (record { memory = refl; rows = put_back c.args.tree.now _ c.in-Some.target.now _ c.in-Some.ensures.value c.in_err-reserve_conn.ensures.unchanged })

pub returns : goal.returns
returns g c f flat = record {
  output = refl;
  rows = carried _ _ _ (conn_added c.args.tree.now f flat c.resolve_partition_id-2.result c.args.new.connection c.in-Some.target.now c.add_conn.new.self c.in-Some.ensures.value _
      c.reserve_conn.new.self c.in_ok-reserve_conn.ensures.conns c.in_ok-reserve_conn.ensures.rest c.add_conn.ensures.conns c.add_conn.ensures.rest)
      (rw (c.resolve_partition_id.ensures, c.resolve_partition_id-2.ensures, c.requires.birth f flat) refl);
  told = untold f _ refl refl refl;
}
