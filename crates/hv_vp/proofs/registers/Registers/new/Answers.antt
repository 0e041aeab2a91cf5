use Rattle.hv_vp.proofs.Tables.{started}
use Rattle.hv_vp.proofs.registers.Registers.new.Goals as goal

pub returns : goal.returns
returns c = rw (c.start_values-values.ensures, c.from.ensures) (started c.args.index)
