use Rattle.std.proofs.Common.{refl}
use Rattle.std.proofs.lemmas.Result.{err_from_is_err_and}
use Rattle.hv_admit.proofs.PagesAndVps.{untold}
use Rattle.hv_port_calls.proofs.ChangedLinks.{carried, port_added, put_back}
use Rattle.hv_port_calls.proofs.port_creation.do_create_port.Goals as goal

pub returns-in_err-reserve_port : goal.returns-in_err-reserve_port
returns-in_err-reserve_port g c f flat born =
    let p = err_from_is_err_and c.from_residual.result c.from_residual.ensures.1 in
    rw p.1 (record { memory = refl; rows = put_back c.args.tree.now _ c.in-Some.target.now _ c.in-Some.ensures.value c.in_err-reserve_port.ensures.unchanged })

pub returns : goal.returns
returns g c f flat born = record {
  output = refl;
  rows = carried _ _ _ (port_added c.args.tree.now f flat c.resolve_partition_id-2.result c.args.new.port c.in-Some.target.now c.add_port.new.self c.in-Some.ensures.value _ c.reserve_port.new.self
      c.in_ok-reserve_port.ensures.ports c.in_ok-reserve_port.ensures.rest c.add_port.ensures.ports c.add_port.ensures.rest)
      (rw (c.resolve_partition_id.ensures, c.resolve_partition_id-2.ensures, c.flags_of.ensures, c.flags_of-2.ensures, ← born) refl);
  told = untold f _ refl refl refl;
}
