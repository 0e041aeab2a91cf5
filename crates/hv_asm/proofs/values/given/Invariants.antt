use Rattle.std.proofs.Common.{◌≡◌, ◌++◌, drop}
use Rattle.hv_asm.specs.Values.{given}
use Rattle.hv_asm.proofs.Words.{found_in, seen}
use Rattle.hv_asm.proofs.values.given.Given as goal

abbrev pub invariant-loop-word : goal.invariant-loop-word
invariant-loop-word l = given l.name (seen l.words) ≡ found_in l.found ++ given l.name (seen (drop l.word-index l.words))
