use Rattle.hv_script.proofs.RecordLemmas.{read_back}
use Rattle.hv_script.proofs.laws.is_read_back.Goals as goal

pub returns : goal.returns
returns g c = read_back
