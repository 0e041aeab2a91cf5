use Rattle.std.proofs.Common.{◌≡◌, ◌≤◌, ◌-◌, [], length}
use Rattle.hv_script.specs.Words.{words_of}
use Rattle.hv_script.proofs.WordLemmas.{AreGood, Cut, left_at}
use Rattle.hv_script.proofs.cut.CutLine.cut.Given as goal

abbrev pub invariant-loop-run : goal.invariant-loop-run
invariant-loop-run l = record {
  none : l.self-inside.count ≡ 0;
  empty : l.self-inside.line.now ≡ [];
  few : l.count ≤ l.at;
  inside : l.at ≤ length l.text;
  good : AreGood l.text l.at;
  cut : Cut l.text l.self-inside.first l.count (words_of (left_at l.text l.at));
}

abbrev pub decreases-loop-run : goal.decreases-loop-run
decreases-loop-run l = length l.text - l.at
