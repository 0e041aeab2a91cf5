use Rattle.hv_security.proofs.ProvenanceOfRuns.{known}
use Rattle.hv_security.proofs.provenance.every_flag_was_signalled.Goals as goal

pub returns : goal.returns
returns g c = record { flags = λ config events. (known config events).flags }
