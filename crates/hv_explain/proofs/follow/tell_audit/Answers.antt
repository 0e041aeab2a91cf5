use Rattle.hv_check.proofs.Reading.{script_read}
use Rattle.hv_explain.proofs.follow.tell_audit.Goals as goal
use Rattle.hv_script.specs.Reading.{said}

pub follow_script-requires : goal.follow_script-requires
follow_script-requires g c = script_read c.args.script.now (said c.in-Ok.script) c.in-Ok.ensures.script
