use Rattle.std.proofs.Common.{◌∙◌, ap, ◌++◌, List, ℕ}
use Rattle.hv_text.specs.Audit.{audit_text}
use Rattle.hv_draw.proofs.audit.audit_of.Goals as goal

pub returns-in-Ok : goal.returns-in-Ok
returns-in-Ok c = c.in-Ok.ensures.ok ∙ ap (λ (l : List ℕ). l ++ audit_text c.args.kept.now.history) c.new-text.ensures.items
