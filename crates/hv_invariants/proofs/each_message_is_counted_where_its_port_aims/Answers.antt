use Rattle.hv_invariants.proofs.PortMessages.{kept_where_aimed}
use Rattle.hv_invariants.proofs.each_message_is_counted_where_its_port_aims.Goals as goal

pub returns : goal.returns
returns c = record { kept = kept_where_aimed }
