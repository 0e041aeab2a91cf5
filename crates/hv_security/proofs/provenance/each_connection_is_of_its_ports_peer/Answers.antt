use Rattle.hv_security.proofs.ProvenanceOfRuns.{known}
use Rattle.hv_security.proofs.provenance.each_connection_is_of_its_ports_peer.Goals as goal

pub returns : goal.returns
returns g c config events = (known config events).peers
