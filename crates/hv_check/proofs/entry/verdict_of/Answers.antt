use Rattle.std.proofs.Common.{◌-◌}
use Rattle.hv_script.specs.Reading.{said}
use Rattle.hv_check.proofs.Reading.{script_read}
use Rattle.hv_check.proofs.entry.verdict_of.Goals as goal

pub check-requires : goal.check-requires
check-requires c = script_read c.args.script.now (said c.in-Ok.script) c.in-Ok.ensures.script
