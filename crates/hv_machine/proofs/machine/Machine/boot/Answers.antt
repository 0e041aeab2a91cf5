use Rattle.hv_machine.proofs.BootedMachine.{booted_flat, booted_lasting}
use Rattle.hv_machine.proofs.SoundMachine.{sound}
use Rattle.hv_machine.proofs.machine.Machine.boot.Goals as goal

pub returns-clause-lasting : goal.returns-clause-lasting
returns-clause-lasting g c = booted_lasting c.args.config c.in-Ok-new.tree c.in-Ok.root c.in-Ok.ensures c.in-Ok-new.ensures.ok c.in_ok-check_config.ensures.ok

pub invariant_of-result : goal.invariant_of-result
invariant_of-result g c = returns-clause-lasting g c

pub returns-clause-state : goal.returns-clause-state
returns-clause-state g c = booted_flat c.args.config c.in-Ok-new.tree c.in-Ok.root c.in-Ok.ensures c.in-Ok-new.ensures.ok c.in_ok-check_config.ensures.ok

pub returns-clause-sound : goal.returns-clause-sound
returns-clause-sound g c = sound _ (returns-clause-lasting g c)
