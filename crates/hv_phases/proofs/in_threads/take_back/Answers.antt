use Rattle.std.proofs.Common.{◌≡◌, ◌≤◌, ◌<◌, ◌++◌, ◌∷◌, ◌∙◌, ℕ, All, List, [], ap, append-nil, append_assoc, arith, drop, get_or, length, map, not, rules}
use Rattle.std.proofs.Common.{subst, sym, true}
use Rattle.std.proofs.lemmas.Bool.{false≢true}
use Rattle.std.proofs.lemmas.List.Elements.{All-head, All-nil}
use Rattle.hv_phases.proofs.AskedOfProcessor.{All-second}
use Rattle.hv_phases.proofs.OutcomesTaken.{finished_more, one_fewer, still_all, taken_more, within_more}
use Rattle.hv_phases.proofs.RunnerMaps.{back_none}
use Rattle.hv_phases.specs.PassMap.{HasBack, HasKey, IsWithin, back_of_done, stop_of}
use Rattle.hv_shared.specs.Receipts.{list_of}
use Rattle.hv_threads.specs.declared.phase.Done.{Done}
use Rattle.hv_threads.specs.declared.phase.End.TheVariants.{Finished}
use Rattle.hv_phases.proofs.in_threads.take_back.Goals as goal
use Rattle.hv_phases.proofs.in_threads.take_back.Goals.{else-goes_on, in-Finished, in-Host, in-None, in-Some-highest_above, then-goes_on}

pub loop-done-init : goal.loop-done-init
loop-done-init g c = record {
  back = ([], append-nil c.args.dones.items, back_none c.args.runners.now, λ goes. All-nil (λ (d : Done g.row.L.Denot). d.end ≡ Finished));
  room = omega arith;
  rises = omega arith;
  within = λ same k d low less. absurd (omega (arith, low, less));
}

pub put_pass-requires : goal.put_pass-requires
put_pass-requires g c =
    let was = c.loop-done.invariant.back in
    let done = c.in-Some.done in
    let P = λ (d : Done g.row.L.Denot). HasKey c.args.runners.now d.pass.caller in
    let rest = c.pop.new.self.items in
    let all : rest ++ done ∷ was.0 ≡ c.args.dones.items = sym (append_assoc rest (done ∷ []) was.0)
    ∙ ap (λ (l : List (Done g.row.L.Denot)). l ++ was.0) (sym c.in-Some.ensures.items) ∙ was.1 in
    was.2.keys done.pass.caller (All-head P done was.0 (All-second P rest (done ∷ was.0) (subst (All P) (sym all) c.requires.keys)))

pub returns-then-is_in_order-clause-back : goal.returns-then-is_in_order-clause-back
returns-then-is_in_order-clause-back g c =
    let was = c.loop-done.invariant.back in
    let none : c.loop-done.left.items ≡ [] = search rules in
    subst (λ (l : List (Done g.row.L.Denot)). HasBack (map back_of_done l) c.args.runners.now c.loop-done.runners)
    (ap (λ (l : List (Done g.row.L.Denot)). l ++ was.0) (sym none) ∙ was.1) was.2

pub loop-done-preserved : goal.loop-done-preserved
loop-done-preserved g c =
    let l = c.loop-done in
    let was = l.invariant.back in
    let done = c.in-Some.done in
    let rest = c.pop.new.self.items in
    let all = c.args.dones.items in
    let counts = c.args.counts.now in
    let last = c.args.last in
    let high = c.match-highest_above.now in
    let popped : l.left.items ≡ rest ++ done ∷ [] = c.in-Some.ensures.items in
    let stop = c.match-end.stop in
    let stop_is : stop ≡ stop_of done.end = elim c.match-end.branch [
      | in-Finished w ↦ w.stop-is ∙ sym (ap stop_of w.in-Finished.is)
      | in-Host w ↦ w.stop-is ∙ sym (ap stop_of w.in-Host.is)
    ] in
    let fewer = one_fewer all l.left.items rest was.0 done popped was.1 in
    let put = c.put_pass.ensures in
    let place : c.len.result ≡ length rest = omega (arith, c.len.ensures) in
    let rose = l.invariant.rises in
    let rises : last ≤ high = elim c.match-highest_above.branch [
      | in-Some-highest_above w ↦ let up = w.in-Some-highest_above.ensures.0 in let is = w.now-is in omega (arith, up, is, rose)
      | in-None w ↦ let is = w.now-is in omega (arith, is, rose)
    ] in
    let within : c.match-highest_above.is_in_order ≡ true → (k : ℕ) (d : Done g.row.L.Denot) → length rest ≤ k → k < length all
    → All (IsWithin last high) (drop (get_or counts k 0) (get_or all k d).pass.receipts) = elim c.match-highest_above.branch [
      | in-Some-highest_above w ↦ λ ok.
          subst (λ (n : ℕ). (k : ℕ) (d : Done g.row.L.Denot) → length rest ≤ k → k < length all
          → All (IsWithin last n) (drop (get_or counts k 0) (get_or all k d).pass.receipts)) (sym w.now-is)
          (within_more all l.left.items rest was.0 done popped was.1 counts last l.now w.in-Some-highest_above.number (get_or counts c.len.result 0)
          (list_of c.receipts.result.now)
          w.in-Some-highest_above.ensures.0 w.in-Some-highest_above.ensures.1 c.receipts.ensures (ap (λ (n : ℕ). get_or counts n 0) place)
          (l.invariant.within (sym w.is_in_order-is ∙ ok)))
      | in-None w ↦ λ ok. absurd (false≢true (sym w.is_in_order-is ∙ ok))
    ] in
    let finished : c.if-goes_on.goes_on ≡ true → All (λ (d : Done g.row.L.Denot). d.end ≡ Finished) (done ∷ was.0) = elim c.if-goes_on.branch [
      | then-goes_on w ↦ λ goes.
          finished_more all l.left.items rest was.0 done popped was.1 stop stop_is (w.is_none-goes_on.ensures ∙ ap not (sym w.goes_on-is ∙ goes))
          (was.3 w.if-goes_on.true)
      | else-goes_on w ↦ λ goes. absurd (false≢true (sym w.if-goes_on.false ∙ sym w.goes_on-is ∙ goes))
    ] in
    record {
      back = (
        done ∷ was.0,
        still_all all l.left.items rest was.0 done popped was.1,
        taken_more all l.left.items rest was.0 done popped was.1 c.args.runners.now l.runners c.put_pass.new.runners stop stop_is was.2 put.own put.others
            put.keys,
        finished,
      );
      room = let room = l.invariant.room in omega (arith, room, fewer);
      rises = rises;
      within = within;
    }
