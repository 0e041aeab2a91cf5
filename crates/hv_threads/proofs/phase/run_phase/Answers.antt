use Rattle.std.proofs.Common.{◌∙◌, sym}
use Rattle.std.proofs.lemmas.List.{with_items_is}
use Rattle.hv_threads.proofs.TaskOutcomes.{phase_done}
use Rattle.hv_threads.proofs.phase.run_phase.Goals as goal

pub returns-clause-done : goal.returns-clause-done
returns-clause-done g c =
    let before = c.tasks_of.new.tasks in
    let ran = c.run_tasks.new.tasks in
    rw (c.dones_of.ensures, with_items_is before ran (c.run_tasks.auto.tasks ∙ c.as_mut_slice.ensures.len), c.tasks_of.ensures, sym c.as_mut_slice.ensures.value)
    (phase_done c.as_mut_slice.result.now ran c.run_tasks.auto.tasks c.run_tasks.ensures)
