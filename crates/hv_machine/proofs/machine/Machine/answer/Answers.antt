use Rattle.std.proofs.Common.{sym}
use Rattle.hv_admit.specs.declared.effect.Effect.TheVariants.{Nothing}
use Rattle.hv_machine.proofs.AccessSteps.{access_event_is}
use Rattle.hv_machine.proofs.Steps.{call_event_is, same_event, same_told}
use Rattle.hv_machine.proofs.machine.Machine.answer.Goals as goal

pub returns-in-Ok-access-clause-step : goal.returns-in-Ok-access-clause-step
returns-in-Ok-access-clause-step g c = same_event (access_event_is c.args.event.now c.in-Ok.access c.in-Ok.ensures.access) c.in-Ok-access.ensures.step

pub returns-in-Err-access-clause-step : goal.returns-in-Err-access-clause-step
returns-in-Err-access-clause-step g c = same_event (access_event_is c.args.event.now c.in-Ok.access c.in-Ok.ensures.access) c.in-Err-access.ensures.step

pub returns-in-Ok-access-clause-effect : goal.returns-in-Ok-access-clause-effect
returns-in-Ok-access-clause-effect g c = λ f flat.
    same_told c.in-Ok-access.told f (access_event_is c.args.event.now c.in-Ok.access c.in-Ok.ensures.access) (c.in-Ok-access.ensures.effect f flat)

pub returns-in-Err-access-clause-effect : goal.returns-in-Err-access-clause-effect
returns-in-Err-access-clause-effect g c = λ f flat.
    same_told Nothing f (access_event_is c.args.event.now c.in-Ok.access c.in-Ok.ensures.access) (c.in-Err-access.ensures.effect f flat)
