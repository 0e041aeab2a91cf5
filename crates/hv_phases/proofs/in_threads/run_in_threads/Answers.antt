use Rattle.std.proofs.Common.{◌≡◌, ◌∙◌, ◌∷◌, List, [], Err, Some, false, ap, refl, reverse, rules, subst, Global}
use Rattle.hv_phases.proofs.LinesTaken.{fresh_runs, group_closed, part_of, part_of_groups, runs_as, runs_begun}
use Rattle.hv_phases.proofs.PhasesTaken.{back_as, handed_keys, phase_begun, phase_one, phase_stayed, phase_taken}
use Rattle.hv_phases.specs.PassMap.{AreGoing, Each, HasBegunBy, HasRunPart, HasRunTo, IsSame}
use Rattle.hv_phases.specs.declared.stop.Halt.{Halt}
use Rattle.hv_phases.specs.declared.stop.Halt.TheVariants.{Memory, Order, Stopped}
use Rattle.hv_policy.specs.declared.event.Caller.{Caller}
use Rattle.hv_phases.proofs.in_threads.run_in_threads.Goals as goal
use Rattle.hv_script.specs.declared.line.Line.{Line}

-- why lines halted
by_halt : {P : Type 0} (halt : Halt) → (halt ≡ Stopped → P) → (halt ≡ Memory → P) → (halt ≡ Order → P) → P
by_halt Stopped stopped memory order = stopped refl
by_halt Memory stopped memory order = memory refl
by_halt Order stopped memory order = order refl

pub loop-first-init : goal.loop-first-init
loop-first-init g c = record {
  run = fresh_runs false c.args.lines.items c.reverse.new.self.items c.args.runners.now c.reverse.ensures.items c.requires.fresh;
  going = c.requires.going;
  stayed = λ by has. has;
}

pub works_of-requires-clause-own : goal.works_of-requires-clause-own
works_of-requires-clause-own g c = λ by pass at. (c.loop-first.invariant.run.each by pass at).caller

pub run_works-requires-clause-keys : goal.run_works-requires-clause-keys
run_works-requires-clause-keys g c κs within =
    handed_keys false c.args.lines.items c.loop-first.left.items c.turns_of.new.later.items c.pop.new.self.items c.in-Some.first c.in-Ok.turns.items
    c.in-Ok-works_of.works.items c.loop-first.last
    c.loop-first.runners c.works_of.new.runners c.loop-first.invariant.run c.in-Some.ensures.items c.in-Ok.ensures c.in-Ok-works_of.ensures.handed

-- no line is left
pub returns-clause-whole : goal.returns-clause-whole
returns-clause-whole g c =
    let none : c.loop-first.left.items ≡ [] = search rules in (
      c.loop-first.last,
      subst (λ (left : List (Line Global)). HasRunTo false c.args.lines.items [] (reverse left) c.loop-first.last c.loop-first.runners) none
          c.loop-first.invariant.run,
    )

pub returns-clause-part : goal.returns-clause-part
returns-clause-part g c = λ other. part_of_groups false c.args.lines.items (reverse c.loop-first.left.items) c.loop-first.last c.loop-first.runners
    c.loop-first.invariant.run

pub returns-clause-begun : goal.returns-clause-begun
returns-clause-begun g c = runs_begun false c.args.lines.items [] (reverse c.loop-first.left.items) c.loop-first.last c.loop-first.runners
    c.loop-first.invariant.run

-- there was no memory for the turns
pub returns-in_default-turns_of-clause-part : goal.returns-in_default-turns_of-clause-part
returns-in_default-turns_of-clause-part g c = λ other.
    part_of_groups false c.args.lines.items (reverse c.loop-first.left.items) c.loop-first.last c.loop-first.runners c.loop-first.invariant.run

pub returns-in_default-turns_of-clause-begun : goal.returns-in_default-turns_of-clause-begun
returns-in_default-turns_of-clause-begun g c =
    runs_begun false c.args.lines.items [] (reverse c.loop-first.left.items) c.loop-first.last c.loop-first.runners c.loop-first.invariant.run

-- nor for the works
pub returns-in_default-works_of-clause-part : goal.returns-in_default-works_of-clause-part
returns-in_default-works_of-clause-part g c = λ other.
    let left = reverse c.loop-first.left.items in
    part_of_groups false c.args.lines.items left c.loop-first.last c.works_of.new.runners
    (runs_as false c.args.lines.items [] left c.loop-first.last c.loop-first.runners c.works_of.new.runners c.in_default-works_of.ensures.back
    c.loop-first.invariant.run)

pub returns-in_default-works_of-clause-begun : goal.returns-in_default-works_of-clause-begun
returns-in_default-works_of-clause-begun g c =
    let left = reverse c.loop-first.left.items in
    runs_begun false c.args.lines.items [] left c.loop-first.last c.works_of.new.runners
    (runs_as false c.args.lines.items [] left c.loop-first.last c.loop-first.runners c.works_of.new.runners c.in_default-works_of.ensures.back
    c.loop-first.invariant.run)

pub returns-in_default-works_of-clause-stayed : goal.returns-in_default-works_of-clause-stayed
returns-in_default-works_of-clause-stayed g c = λ by has.
    let was = c.loop-first.invariant.stayed by has in
    (was.0, (c.in_default-works_of.ensures.back by).0 ∙ was.1)

-- a phase was run
pub loop-first-preserved : goal.loop-first-preserved
loop-first-preserved g c =
    let lines = c.args.lines.items in
    let first = c.in-Some.first in
    let given = c.in-Ok.ensures in
    let after = c.turns_of.new.later.items in
    let new = c.run_works.new.runners in
    let now = c.in-Ok-default-true.now in
    let ran = c.in-Ok-default-true.ensures in
    let run : HasRunTo false lines (first ∷ given.more) (reverse after) now new =
    phase_taken false c.args.lines.items c.loop-first.left.items c.turns_of.new.later.items c.pop.new.self.items c.in-Some.first c.in-Ok.turns.items
    c.in-Ok-works_of.works.items c.loop-first.last
    c.loop-first.runners c.works_of.new.runners c.loop-first.invariant.run c.in-Some.ensures.items c.in-Ok.ensures c.in-Ok-works_of.ensures.handed now new
    ran.rises ran.ran in
    let going : AreGoing new = ran.goes_on (search rules) (λ by. c.in-Ok-works_of.ensures.handed.stops by ∙ c.loop-first.invariant.going by) in
    record {
      run = group_closed false lines (first ∷ given.more) (reverse after) now new run going (
        first.phase,
        phase_one false c.args.lines.items c.loop-first.left.items c.turns_of.new.later.items c.pop.new.self.items c.in-Some.first c.in-Ok.turns.items
            c.in-Ok-works_of.works.items c.loop-first.last
            c.loop-first.runners c.works_of.new.runners c.loop-first.invariant.run c.in-Some.ensures.items c.in-Ok.ensures c.in-Ok-works_of.ensures.handed,
      );
      going = going;
      stayed = λ by has.
          phase_stayed false c.args.lines.items c.loop-first.left.items c.turns_of.new.later.items c.pop.new.self.items c.in-Some.first c.in-Ok.turns.items
          c.in-Ok-works_of.works.items c.loop-first.last
          c.loop-first.runners c.works_of.new.runners c.loop-first.invariant.run c.in-Some.ensures.items c.in-Ok.ensures c.in-Ok-works_of.ensures.handed new
          c.run_works.ensures.stayed by
          (c.loop-first.invariant.stayed by has);
    }

-- the host stopped one of its processors
pub returns-in-Ok-default-false-clause-part : goal.returns-in-Ok-default-false-clause-part
returns-in-Ok-default-false-clause-part g c = λ other.
    let ran = c.in-Ok-default-false.ensures in
    let taken = c.in-Some.first ∷ c.in-Ok.ensures.more in
    part_of false c.args.lines.items taken (reverse c.turns_of.new.later.items) _ c.in-Some.first.phase c.run_works.new.runners
    (phase_one false c.args.lines.items c.loop-first.left.items c.turns_of.new.later.items c.pop.new.self.items c.in-Some.first c.in-Ok.turns.items
    c.in-Ok-works_of.works.items c.loop-first.last
    c.loop-first.runners c.works_of.new.runners c.loop-first.invariant.run c.in-Some.ensures.items c.in-Ok.ensures c.in-Ok-works_of.ensures.handed)
    c.in-Ok.ensures.past
    (phase_taken false c.args.lines.items c.loop-first.left.items c.turns_of.new.later.items c.pop.new.self.items c.in-Some.first c.in-Ok.turns.items
    c.in-Ok-works_of.works.items c.loop-first.last
    c.loop-first.runners c.works_of.new.runners c.loop-first.invariant.run c.in-Some.ensures.items c.in-Ok.ensures c.in-Ok-works_of.ensures.handed _
    c.run_works.new.runners ran.rises ran.ran)

pub returns-in-Ok-default-false-clause-begun : goal.returns-in-Ok-default-false-clause-begun
returns-in-Ok-default-false-clause-begun g c =
    let ran = c.in-Ok-default-false.ensures in
    let taken = c.in-Some.first ∷ c.in-Ok.ensures.more in
    runs_begun false c.args.lines.items taken (reverse c.turns_of.new.later.items) _ c.run_works.new.runners
    (phase_taken false c.args.lines.items c.loop-first.left.items c.turns_of.new.later.items c.pop.new.self.items c.in-Some.first c.in-Ok.turns.items
    c.in-Ok-works_of.works.items c.loop-first.last
    c.loop-first.runners c.works_of.new.runners c.loop-first.invariant.run c.in-Some.ensures.items c.in-Ok.ensures c.in-Ok-works_of.ensures.handed _
    c.run_works.new.runners ran.rises ran.ran)

pub returns-in-Ok-default-false-clause-stayed : goal.returns-in-Ok-default-false-clause-stayed
returns-in-Ok-default-false-clause-stayed g c = λ by has.
    phase_stayed false c.args.lines.items c.loop-first.left.items c.turns_of.new.later.items c.pop.new.self.items c.in-Some.first c.in-Ok.turns.items
    c.in-Ok-works_of.works.items c.loop-first.last
    c.loop-first.runners c.works_of.new.runners c.loop-first.invariant.run c.in-Some.ensures.items c.in-Ok.ensures c.in-Ok-works_of.ensures.handed
    c.run_works.new.runners c.run_works.ensures.stayed by
    (c.loop-first.invariant.stayed by has)

-- there was no memory for it, or it was out of order
pub returns-in-Err-clause-part : goal.returns-in-Err-clause-part
returns-in-Err-clause-part g c = λ other.
    let lines = c.args.lines.items in
    let left = reverse c.loop-first.left.items in
    let old = c.loop-first.runners in
    let new = c.run_works.new.runners in
    let run = c.loop-first.invariant.run in
    let did = c.run_works.ensures in
    by_halt {P = HasRunPart false lines new} c.in-Err.halt (λ is. absurd (did.stopped (c.in-Err.is ∙ ap Err is)))
    (λ is.
    let same : (by : Caller) → IsSame old new by =
    back_as c.in-Ok.turns.items c.in-Ok-works_of.works.items old c.works_of.new.runners new c.loop-first.invariant.going
    (λ by pass at. (run.each by pass at).caller) c.in-Ok-works_of.ensures.handed
    (did.back (c.in-Err.is ∙ ap Err is)) in
    part_of_groups false lines left c.loop-first.last new (runs_as false lines [] left c.loop-first.last old new same run))
    (λ is. absurd (other (ap Some is)))

pub returns-in-Err-clause-begun : goal.returns-in-Err-clause-begun
returns-in-Err-clause-begun g c =
    let lines = c.args.lines.items in
    let left = reverse c.loop-first.left.items in
    let old = c.loop-first.runners in
    let new = c.run_works.new.runners in
    let run = c.loop-first.invariant.run in
    let did = c.run_works.ensures in
    by_halt {P = Each (HasBegunBy lines) new} c.in-Err.halt (λ is. absurd (did.stopped (c.in-Err.is ∙ ap Err is)))
    (λ is.
    let same : (by : Caller) → IsSame old new by =
    back_as c.in-Ok.turns.items c.in-Ok-works_of.works.items old c.works_of.new.runners new c.loop-first.invariant.going
    (λ by pass at. (run.each by pass at).caller) c.in-Ok-works_of.ensures.handed
    (did.back (c.in-Err.is ∙ ap Err is)) in
    runs_begun false lines [] left c.loop-first.last new (runs_as false lines [] left c.loop-first.last old new same run))
    (λ is.
    phase_begun false c.args.lines.items c.loop-first.left.items c.turns_of.new.later.items c.pop.new.self.items c.in-Some.first c.in-Ok.turns.items
    c.in-Ok-works_of.works.items c.loop-first.last
    c.loop-first.runners c.works_of.new.runners c.loop-first.invariant.run c.in-Some.ensures.items c.in-Ok.ensures c.in-Ok-works_of.ensures.handed new
    (did.any (c.in-Err.is ∙ ap Err is)))

pub returns-in-Err-clause-stayed : goal.returns-in-Err-clause-stayed
returns-in-Err-clause-stayed g c = λ by has.
    phase_stayed false c.args.lines.items c.loop-first.left.items c.turns_of.new.later.items c.pop.new.self.items c.in-Some.first c.in-Ok.turns.items
    c.in-Ok-works_of.works.items c.loop-first.last
    c.loop-first.runners c.works_of.new.runners c.loop-first.invariant.run c.in-Some.ensures.items c.in-Ok.ensures c.in-Ok-works_of.ensures.handed
    c.run_works.new.runners c.run_works.ensures.stayed by
    (c.loop-first.invariant.stayed by has)
