use Rattle.hv_admit.proofs.TargetFound.{granted, unmet_caller, unmet_past, unmet_target}
use Rattle.hv_admit.proofs.access.admit.Goals as goal

pub returns-in-Err-clause-unmet : goal.returns-in-Err-clause-unmet
returns-in-Err-clause-unmet g c f flat = unmet_caller f c.args.by c.args.call.now c.in-Err.rule (c.in-Err.ensures.unmet f flat)

pub returns-in-Ok-target_in-clause-further : goal.returns-in-Ok-target_in-clause-further
returns-in-Ok-target_in-clause-further g c f flat = unmet_past f c.args.by c.args.call.now (c.in-Ok.ensures.met f flat) (c.in-Ok-target_in.ensures.met f flat)

pub returns-in-Ok-target_in-clause-grants : goal.returns-in-Ok-target_in-clause-grants
returns-in-Ok-target_in-clause-grants g c t further = granted c.args.tree.now c.args.by c.args.call.now t (c.in-Ok.ensures.met t.flat t.tied) (c.in-Ok-target_in.ensures.met t.flat t.tied) further

pub returns-in-Err-target_in-clause-unmet : goal.returns-in-Err-target_in-clause-unmet
returns-in-Err-target_in-clause-unmet g c f flat = unmet_target f c.args.by c.args.call.now c.in-Err-target_in.rule (c.in-Ok.ensures.met f flat) (c.in-Err-target_in.ensures.unmet f flat)
