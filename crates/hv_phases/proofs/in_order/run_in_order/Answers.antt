use Rattle.std.proofs.Common.{◌≡◌, ◌∙◌, Bool, ap, arith, false, reverse, subst, sym, true}
use Rattle.std.proofs.lemmas.Bool.{false≢true}
use Rattle.std.proofs.lemmas.Bool.Decides.{nat_tests}
use Rattle.hv_phases.proofs.LinesTaken.{Goes, after, after_going, fresh_runs, goes_begun, goes_broken, goes_more, turned}
use Rattle.hv_phases.proofs.in_order.run_in_order.Goals as goal
use Rattle.hv_phases.proofs.in_order.run_in_order.Goals.{else-is_stopped-via-then-is_stopped+else-line-phase, else-is_stopped-via-else-is_stopped}

pub loop-line-init : goal.loop-line-init
loop-line-init g c = record {
  goes = (fresh_runs true c.args.lines.items c.reverse.new.self.items c.args.runners.now c.reverse.ensures.items c.requires.fresh, c.requires.going);
  stayed = λ by has. has;
}

pub returns-then-line-phase-clause-begun : goal.returns-then-line-phase-clause-begun
returns-then-line-phase-clause-begun g c =
    goes_begun c.args.lines.items (reverse c.loop-line.left.items) c.loop-line.last c.loop-line.phase c.loop-line.is_stopped c.loop-line.runners
    c.loop-line.invariant.goes

pub returns-in_default-run_line-clause-begun : goal.returns-in_default-run_line-clause-begun
returns-in_default-run_line-clause-begun g c =
    goes_broken c.args.lines.items (reverse c.loop-line.left.items) (reverse c.pop.new.self.items) c.in-Some.line c.loop-line.last c.loop-line.last
    c.loop-line.phase c.loop-line.runners
    c.run_line.new.runners (turned c.loop-line.left.items c.pop.new.self.items c.in-Some.line c.in-Some.ensures.items) c.loop-line.is_stopped
    c.run_line.ensures.any c.loop-line.invariant.goes

pub loop-line-preserved-then-is_stopped-2 : goal.loop-line-preserved-then-is_stopped-2
loop-line-preserved-then-is_stopped-2 g c =
    let line = c.in-Some.line in
    let ran = c.in-Some-run_line.ensures in
    let goes_on = c.in-Some-run_line.goes_on in
    let stopped : c.loop-line.is_stopped ≡ true = c.if-is_stopped-2.true in
    let same : c.loop-line.is_stopped ≡ true → line.phase ≡ c.loop-line.phase = λ is. elim c.else-is_stopped.branch [
      | else-is_stopped-via-then-is_stopped+else-line-phase w ↦ let same = w.if-line-phase.false in grind (arith, nat_tests)
      | else-is_stopped-via-else-is_stopped w ↦ absurd (false≢true (sym w.if-is_stopped.false ∙ is))
    ] in
    record {
      goes = subst (λ (s : Bool). Goes c.args.lines.items (reverse c.pop.new.self.items) c.in-Some-run_line.now line.phase s c.run_line.new.runners)
          (ap (λ (s : Bool). after s goes_on) stopped ∙ sym stopped)
          (goes_more c.args.lines.items (reverse c.loop-line.left.items) (reverse c.pop.new.self.items) line c.loop-line.last c.in-Some-run_line.now
          c.loop-line.phase c.loop-line.runners
          c.run_line.new.runners (turned c.loop-line.left.items c.pop.new.self.items line c.in-Some.ensures.items) c.loop-line.is_stopped goes_on same
          ran.rises ran.ran ran.goes_on
          c.loop-line.invariant.goes);
      stayed = λ by has. ran.ran.stayed by (c.loop-line.invariant.stayed by has);
    }

pub loop-line-preserved : goal.loop-line-preserved
loop-line-preserved g c =
    let line = c.in-Some.line in
    let ran = c.in-Some-run_line.ensures in
    let goes_on = c.in-Some-run_line.goes_on in
    let going : c.loop-line.is_stopped ≡ false = c.if-is_stopped-2.false in
    record {
      goes = subst (λ (s : Bool). Goes c.args.lines.items (reverse c.pop.new.self.items) c.in-Some-run_line.now line.phase s c.run_line.new.runners)
          (ap (λ (s : Bool). after s goes_on) going ∙ after_going goes_on)
          (goes_more c.args.lines.items (reverse c.loop-line.left.items) (reverse c.pop.new.self.items) line c.loop-line.last c.in-Some-run_line.now
          c.loop-line.phase c.loop-line.runners
          c.run_line.new.runners (turned c.loop-line.left.items c.pop.new.self.items line c.in-Some.ensures.items) c.loop-line.is_stopped goes_on
          (λ is. absurd (false≢true (sym going ∙ is)))
          ran.rises ran.ran ran.goes_on c.loop-line.invariant.goes);
      stayed = λ by has. ran.ran.stayed by (c.loop-line.invariant.stayed by has);
    }

pub returns-then-is_stopped-3-clause-begun : goal.returns-then-is_stopped-3-clause-begun
returns-then-is_stopped-3-clause-begun g c =
    goes_begun c.args.lines.items (reverse c.loop-line.left.items) c.loop-line.last c.loop-line.phase c.loop-line.is_stopped c.loop-line.runners
    c.loop-line.invariant.goes

pub returns-clause-begun : goal.returns-clause-begun
returns-clause-begun g c =
    goes_begun c.args.lines.items (reverse c.loop-line.left.items) c.loop-line.last c.loop-line.phase c.loop-line.is_stopped c.loop-line.runners
    c.loop-line.invariant.goes
