use Rattle.hv_policy.specs.Boot.{boot}
use Rattle.hv_invariants.proofs.BootState.{lawful_boot}
use Rattle.hv_invariants.proofs.Laws.{lawful_effect, lawful_run, lawful_step}
use Rattle.hv_invariants.proofs.every_state_is_lawful.Goals as goal

pub returns-clause-booted : goal.returns-clause-booted
returns-clause-booted g c config fits = lawful_boot config fits

pub returns-clause-served : goal.returns-clause-served
returns-clause-served g c pages f e l met = lawful_effect pages f e l met

pub returns-clause-steps : goal.returns-clause-steps
returns-clause-steps g c pages f e l = lawful_step pages f e l

pub returns-clause-runs : goal.returns-clause-runs
returns-clause-runs g c config events fits = lawful_run config.pages (boot config) events (lawful_boot config fits)
