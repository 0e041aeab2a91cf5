use Rattle.std.proofs.Common.{refl, rules}
use Rattle.hv_admit.proofs.PagesAndVps.{untold}
use Rattle.hv_partition_calls.proofs.get_property.do_get_property.Goals as goal

pub returns : goal.returns
returns c tree f by partition code flat value = record { output = search rules; rows = flat; told = untold f f refl refl refl }
