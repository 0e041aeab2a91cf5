use Rattle.std.proofs.Common.{◌≡◌, ℕ, ◌<◌, ◌≤◌, ◌-◌, true, get_or, length}
use Rattle.hv_script.specs.Cursor.{is_of_word}
use Rattle.hv_script.proofs.cut.word_end.Given as goal

abbrev pub invariant-loop-at : goal.invariant-loop-at
invariant-loop-at l = record {
  order : l.from ≤ l.at;
  inside : l.at ≤ length l.text;
  pass : (k : ℕ) → l.from ≤ k → k < l.at → is_of_word (get_or l.text k 0) ≡ true;
}

abbrev pub decreases-loop-at : goal.decreases-loop-at
decreases-loop-at l = length l.text - l.at
