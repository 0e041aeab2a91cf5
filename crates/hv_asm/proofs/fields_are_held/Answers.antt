use Rattle.hv_asm.proofs.ListContents.{holds_list}
use Rattle.hv_asm.proofs.fields_are_held.Goals as goal

pub returns : goal.returns
returns c = holds_list
