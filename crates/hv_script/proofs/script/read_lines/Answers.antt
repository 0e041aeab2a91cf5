use Rattle.std.proofs.Common.{◌∙◌, ◌+◌, sym}
use Rattle.hv_script.specs.Reading.{read_by}
use Rattle.hv_script.proofs.LineLemmas.{all_read}
use Rattle.hv_script.proofs.script.read_lines.Goals as goal

pub returns-clause-read : goal.returns-clause-read
returns-clause-read g c =
    c.loop-line.invariant.read ∙ all_read c.loop-line.left.now (c.loop-line.number + 1) (read_by c.loop-line.reading) (sym c.is_empty.ensures ∙ c.loop-line-test.false)
