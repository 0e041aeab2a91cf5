use Rattle.hv_security.proofs.PurgedRuns.{purged}
use Rattle.hv_security.proofs.noninterference.events_of_others_do_not_show.Goals as goal

pub returns : goal.returns
returns g c members events f r m = purged members f r events m
