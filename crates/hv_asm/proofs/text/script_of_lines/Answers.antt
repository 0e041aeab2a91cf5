use Rattle.std.proofs.Common.{◌∙◌, ◌+◌, sym}
use Rattle.hv_asm.proofs.Texts.{all_added}
use Rattle.hv_asm.proofs.text.script_of_lines.Goals as goal

pub returns-clause-meant : goal.returns-clause-meant
returns-clause-meant c =
    c.loop-left.invariant.meant ∙ all_added c.loop-left.left.now c.loop-left.script.items (c.loop-left.number + 1) (sym c.is_empty.ensures ∙ c.loop-left-test.false)
