use Rattle.std.proofs.Common.{◌≡◌, [], ◌+◌, ◌<◌, ◌==◌, ℕ, true, get_or, length, drop, ap, sym, ◌∙◌, refl, arith, rules, tests}
use Rattle.hv_script.specs.Words.{words_of}
use Rattle.hv_script.proofs.WordLemmas.{all_cut, bad_line, comment, few_more, first_cut, good_run, good_space, last_word, line_to, run_cut, space_next, between, ended}
use Rattle.hv_script.proofs.cut.CutLine.cut.Goals as goal
use Rattle.hv_script.proofs.cut.CutLine.cut.Goals.{then-end-text-via-then-end-text, then-end-text-via-else-end-text+then-text-end-eq10}

pub loop-run-init : goal.loop-run-init
loop-run-init c = record {
  none = refl;
  empty = refl;
  few = omega arith;
  inside = omega arith;
  good = λ k lt. absurd (omega (arith, lt));
  cut = first_cut c.args.text.now _;
}

pub invariant_of-self : goal.invariant_of-self
unfolding words_of
invariant_of-self c = rw (c.loop-run.invariant.none, c.loop-run.invariant.empty) (refl, refl)

pub returns-then-begins_comment-clause-words : goal.returns-then-begins_comment-clause-words
unfolding words_of
returns-then-begins_comment-clause-words c = rw c.loop-run.invariant.empty (comment c.args.text.now c.loop-run.self-inside.first c.loop-run.count c.loop-run.at c.word_end-end.result
    c.loop-run.invariant.cut c.word_end-end.ensures (search rules))

pub keep-count-requires : goal.keep-count-requires
keep-count-requires c = omega (arith, c.loop-run.invariant.few, c.loop-run.invariant.inside)

pub returns-then-end-text-clause-rest : goal.returns-then-end-text-clause-rest
returns-then-end-text-clause-rest c =
    let text = c.args.text.now in
    let so_far = c.loop-run.invariant in
    let run = c.word_end-end.ensures in
    let good = good_run text c.loop-run.at c.word_end-end.result so_far.good run in
    let feed : c.word_end-end.result < length text → (get_or text c.word_end-end.result 0 == 10) ≡ true = elim c.then-end-text.branch [
      | then-end-text-via-then-end-text w ↦ λ there. absurd (omega (arith, there, w.if-end-text.true))
      | then-end-text-via-else-end-text+then-text-end-eq10 w ↦ λ _. search (rules, tests)
    ] in
    c.behind.ensures ∙ ap (λ (n : ℕ). drop (n + 1) text) (sym (line_to text c.word_end-end.result run.inside good feed))

pub returns-then-end-text-clause-words : goal.returns-then-end-text-clause-words
returns-then-end-text-clause-words c =
    let text = c.args.text.now in
    let so_far = c.loop-run.invariant in
    let run = c.word_end-end.ensures in
    let good = good_run text c.loop-run.at c.word_end-end.result so_far.good run in
    let feed : c.word_end-end.result < length text → (get_or text c.word_end-end.result 0 == 10) ≡ true = elim c.then-end-text.branch [
      | then-end-text-via-then-end-text w ↦ λ there. absurd (omega (arith, there, w.if-end-text.true))
      | then-end-text-via-else-end-text+then-text-end-eq10 w ↦ λ _. search (rules, tests)
    ] in
    let cut = run_cut text c.loop-run.self-inside.first c.keep-count.new.first c.loop-run.count c.keep-count.result (between text c.loop-run.at c.word_end-end.result) _ [] so_far.cut
    (last_word text c.loop-run.at c.word_end-end.result run (ended text c.word_end-end.result feed)) (search rules) c.keep-count.ensures.count c.keep-count.ensures.kept in
    (all_cut text c.keep-count.new.first c.keep-count.result c.word_end-end.result cut run.inside good feed).read

pub invariant_of-self-then-end-text : goal.invariant_of-self-then-end-text
invariant_of-self-then-end-text c =
    let text = c.args.text.now in
    let so_far = c.loop-run.invariant in
    let run = c.word_end-end.ensures in
    let good = good_run text c.loop-run.at c.word_end-end.result so_far.good run in
    let feed : c.word_end-end.result < length text → (get_or text c.word_end-end.result 0 == 10) ≡ true = elim c.then-end-text.branch [
      | then-end-text-via-then-end-text w ↦ λ there. absurd (omega (arith, there, w.if-end-text.true))
      | then-end-text-via-else-end-text+then-text-end-eq10 w ↦ λ _. search (rules, tests)
    ] in
    let cut = run_cut text c.loop-run.self-inside.first c.keep-count.new.first c.loop-run.count c.keep-count.result (between text c.loop-run.at c.word_end-end.result) _ [] so_far.cut
    (last_word text c.loop-run.at c.word_end-end.result run (ended text c.word_end-end.result feed)) (search rules) c.keep-count.ensures.count c.keep-count.ensures.kept in
    let all = all_cut text c.keep-count.new.first c.keep-count.result c.word_end-end.result cut run.inside good feed in
    (all.counted, all.kept)

pub invariant_of-self-then-text-end-ne32 : goal.invariant_of-self-then-text-end-ne32
unfolding words_of
invariant_of-self-then-text-end-ne32 c = rw (c.loop-run.invariant.none, c.loop-run.invariant.empty) (refl, refl)

pub returns-then-text-end-ne32-clause-words : goal.returns-then-text-end-ne32-clause-words
returns-then-text-end-ne32-clause-words c = λ _.
    let so_far = c.loop-run.invariant in
    let run = c.word_end-end.ensures in
    let there : c.word_end-end.result < length c.args.text.now = omega (arith, run.inside, c.if-end-text.false) in
    bad_line c.args.text.now c.loop-run.self-inside.first c.loop-run.count c.loop-run.at c.word_end-end.result so_far.cut so_far.good run (search rules) there (search (rules, tests))
    (search (rules, tests))

pub loop-run-preserved : goal.loop-run-preserved
loop-run-preserved c =
    let text = c.args.text.now in
    let so_far = c.loop-run.invariant in
    let run = c.word_end-end.ensures in
    let good = good_run text c.loop-run.at c.word_end-end.result so_far.good run in
    let there : c.word_end-end.result < length text = omega (arith, run.inside, c.if-end-text.false) in
    let space : get_or text c.word_end-end.result 0 ≡ 32 = search (rules, tests) in
    record {
      none = so_far.none;
      empty = so_far.empty;
      few = few_more text c.loop-run.count c.keep-count.result c.loop-run.at c.word_end-end.result so_far.few run c.keep-count.ensures.count;
      inside = omega (arith, there);
      good = good_space text c.word_end-end.result good space;
      cut = run_cut text c.loop-run.self-inside.first c.keep-count.new.first c.loop-run.count c.keep-count.result (between text c.loop-run.at c.word_end-end.result) _ _ so_far.cut
          (space_next text c.loop-run.at c.word_end-end.result run there space) (search rules) c.keep-count.ensures.count c.keep-count.ensures.kept;
    }
