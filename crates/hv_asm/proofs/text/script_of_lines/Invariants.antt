use Rattle.std.proofs.Common.{◌≡◌, ◌+◌, ◌≤◌, [], length}
use Rattle.hv_asm.specs.Text.{with_lines}
use Rattle.hv_asm.proofs.text.script_of_lines.Given as goal

abbrev pub invariant-loop-left : goal.invariant-loop-left
invariant-loop-left l = record {
  bound : l.number + length l.left ≤ length l.text;
  meant : with_lines [] 1 l.text ≡ with_lines l.script.items (l.number + 1) l.left;
}

abbrev pub decreases-loop-left : goal.decreases-loop-left
decreases-loop-left l = length l.left
