use Rattle.hv_policy.specs.Boot.{boot}
use Rattle.hv_security.proofs.ProvenanceOfRuns.{known, one_deed, run_served}
use Rattle.hv_security.proofs.provenance.every_port_and_connection_has_its_making.Goals as goal

pub returns-clause-entries : goal.returns-clause-entries
returns-clause-entries g c config events = one_deed (boot config) events

pub returns-clause-served : goal.returns-clause-served
returns-clause-served g c = run_served

pub returns-clause-ports : goal.returns-clause-ports
returns-clause-ports g c config events = (known config events).ports

pub returns-clause-conns : goal.returns-clause-conns
returns-clause-conns g c config events = (known config events).conns
