use Rattle.hv_invariants.proofs.InvariantRows.{conn_running, parent_running, port_running, vp_running}
use Rattle.hv_invariants.proofs.each_row_is_of_a_running_partition.Goals as goal

pub returns-clause-vps : goal.returns-clause-vps
returns-clause-vps c = vp_running

pub returns-clause-ports : goal.returns-clause-ports
returns-clause-ports c = port_running

pub returns-clause-conns : goal.returns-clause-conns
returns-clause-conns c = conn_running

pub returns-clause-parents : goal.returns-clause-parents
returns-clause-parents c = parent_running
