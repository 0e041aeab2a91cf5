use Rattle.std.proofs.Common.{◌∙◌, length, ap, arith, map}
use Rattle.std.proofs.lemmas.List.{length-map}
use Rattle.hv_phases.specs.PassMap.{HasBack, IsAny, IsWithin, back_of_work}
use Rattle.hv_phases.proofs.PhasesBack.{dones_going, dones_keys, dones_stayed, held_any, held_within, works_run, works_stayed}
use Rattle.hv_phases.proofs.in_threads.run_works.Goals as goal
use Rattle.hv_threads.specs.declared.phase.Work.{Work}

pub take_back-requires-clause-counts : goal.take_back-requires-clause-counts
take_back-requires-clause-counts g c =
    let counted = c.in-Ok.ensures ∙ ap (map (λ (work : Work g.row.L.Denot). length work.pass.receipts)) c.deref.ensures.value in
    omega (
      arith,
      ap length c.deref-in-Ok-run_phase.ensures.value,
      ap length counted,
      length-map c.args.works.items (λ (work : Work g.row.L.Denot). length work.pass.receipts),
      c.in-Ok-run_phase.ensures.done.count,
    )

pub take_back-requires-clause-keys : goal.take_back-requires-clause-keys
take_back-requires-clause-keys g c = dones_keys c.args.works.items c.in-Ok-run_phase.dones.items c.in-Ok-run_phase.ensures.done c.args.runners.now
    c.requires.keys

pub returns-in_default-clause-stayed : goal.returns-in_default-clause-stayed
returns-in_default-clause-stayed g c = works_stayed c.args.works.items c.args.runners.now c.put_back.new.runners c.put_back.ensures

-- the threads came back
pub returns-in-Some-clause-ran : goal.returns-in-Some-clause-ran
returns-in-Some-clause-ran g c =
    let works = c.args.works.items in
    let dones = c.in-Ok-run_phase.dones.items in
    let did = c.in-Ok-run_phase.ensures.done in
    let high = c.in-Some.ended.0 in
    let counted = c.deref-in-Ok-run_phase.ensures.value ∙ c.in-Ok.ensures
    ∙ ap (map (λ (work : Work g.row.L.Denot). length work.pass.receipts)) c.deref.ensures.value in
    works_run works dones did (IsWithin c.args.last high)
    (held_within works dones did c.deref-in-Ok-run_phase.result.now c.args.last high counted c.in-Some.ensures.within) c.args.runners.now
    c.take_back.new.runners c.take_back.ensures.back

pub returns-in-Some-clause-goes_on : goal.returns-in-Some-clause-goes_on
returns-in-Some-clause-goes_on g c = λ goes going.
    dones_going c.args.works.items c.in-Ok-run_phase.dones.items c.in-Ok-run_phase.ensures.done c.args.runners.now c.take_back.new.runners
    c.take_back.ensures.back
    (c.in-Some.ensures.finished goes) going

pub returns-in-Some-clause-stayed : goal.returns-in-Some-clause-stayed
returns-in-Some-clause-stayed g c =
    dones_stayed c.args.works.items c.in-Ok-run_phase.dones.items c.in-Ok-run_phase.ensures.done c.args.runners.now c.take_back.new.runners
    c.take_back.ensures.back

-- out of order
pub returns-in-Ok-run_phase-clause-any : goal.returns-in-Ok-run_phase-clause-any
returns-in-Ok-run_phase-clause-any g c = λ is.
    let works = c.args.works.items in
    let dones = c.in-Ok-run_phase.dones.items in
    let did = c.in-Ok-run_phase.ensures.done in
    works_run works dones did IsAny (held_any works dones did) c.args.runners.now c.take_back.new.runners c.take_back.ensures.back

pub returns-in-Ok-run_phase-clause-stayed : goal.returns-in-Ok-run_phase-clause-stayed
returns-in-Ok-run_phase-clause-stayed g c =
    dones_stayed c.args.works.items c.in-Ok-run_phase.dones.items c.in-Ok-run_phase.ensures.done c.args.runners.now c.take_back.new.runners
    c.take_back.ensures.back

-- no thread began
pub put_back-requires-in-Err : goal.put_back-requires-in-Err
put_back-requires-in-Err g c = rw c.in-Err.ensures.refused c.requires.keys

pub returns-clause-stayed : goal.returns-clause-stayed
returns-clause-stayed g c =
    let back : HasBack (map back_of_work c.args.works.items) c.args.runners.now c.put_back-in-Err.new.runners = rw c.in-Err.ensures.refused at
    c.put_back-in-Err.ensures in
    works_stayed c.args.works.items c.args.runners.now c.put_back-in-Err.new.runners back
