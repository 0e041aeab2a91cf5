use Rattle.std.proofs.Common.{◌≡◌, ◌++◌, length}
use Rattle.hv_script.specs.Words.{words_of}
use Rattle.hv_asm.proofs.Words.{seen}
use Rattle.hv_asm.proofs.line.words_of.Given as goal

abbrev pub invariant-loop-left : goal.invariant-loop-left
invariant-loop-left l = seen l.words.items ++ words_of l.left ≡ words_of l.line

abbrev pub decreases-loop-left : goal.decreases-loop-left
decreases-loop-left l = length l.left
