use Rattle.std.proofs.Common.{◌-◌, [], sym, ◌∙◌, append-nil}
use Rattle.hv_check.proofs.ending.last_line.Goals as goal

pub returns-in-None : goal.returns-in-None
returns-in-None c is = c.in-None.ensures.none [] (is ∙ sym (append-nil _))
