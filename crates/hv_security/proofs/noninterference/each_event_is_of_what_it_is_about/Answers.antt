use Rattle.hv_security.proofs.OthersUnchanged.{misses}
use Rattle.hv_security.proofs.EqualIsAlike.{alike_of_same}
use Rattle.hv_security.proofs.noninterference.each_event_is_of_what_it_is_about.Goals as goal

pub returns-clause-rows : goal.returns-clause-rows
returns-clause-rows g c = misses

pub returns-clause-alike : goal.returns-clause-alike
returns-clause-alike g c = alike_of_same
