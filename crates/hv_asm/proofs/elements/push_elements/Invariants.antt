use Rattle.std.proofs.Common.{◌≡◌, ◌≤◌, ◌+◌, drop, length}
use Rattle.hv_asm.specs.List.{all_bytes, element_bytes, elements_of}
use Rattle.hv_asm.proofs.Lists.{with_more}
use Rattle.hv_asm.proofs.Words.{seen}
use Rattle.hv_asm.proofs.elements.push_elements.Given as goal

abbrev pub invariant-loop-word : goal.invariant-loop-word
invariant-loop-word l = record {
  bytes : with_more l.fn.list.items (all_bytes (element_bytes l.call) (elements_of l.call l.fast (seen l.words)))
      ≡ with_more l.list.items (all_bytes (element_bytes l.call) (elements_of l.call l.fast (seen (drop l.word-index l.words))));
  count : l.count + length (elements_of l.call l.fast (seen (drop l.word-index l.words))) ≡ length (elements_of l.call l.fast (seen l.words));
  few : l.count ≤ l.word-index;
}
