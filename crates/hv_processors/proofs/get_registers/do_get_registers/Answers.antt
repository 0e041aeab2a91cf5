use Rattle.std.proofs.Common.{refl, rules}
use Rattle.hv_admit.proofs.PagesAndVps.{untold}
use Rattle.hv_processors.proofs.get_registers.do_get_registers.Goals as goal

pub returns : goal.returns
returns c tree f by partition vp name flat value = record { output = search rules; rows = flat; told = untold f f refl refl refl }
