use Rattle.std.proofs.Common.{◌≡◌, drop}
use Rattle.hv_asm.specs.List.{all_bytes, part_bytes}
use Rattle.hv_asm.proofs.Lists.{with_more}
use Rattle.hv_asm.proofs.Words.{seen}
use Rattle.hv_asm.proofs.list.push_header.Given as goal

abbrev pub invariant-loop-part : goal.invariant-loop-part
invariant-loop-part l =
    with_more l.fn.list.items (all_bytes (part_bytes (seen l.words)) l.parts) ≡ with_more l.list.items (all_bytes (part_bytes (seen l.words)) (drop l.part-index l.parts))
