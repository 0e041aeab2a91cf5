use Rattle.std.proofs.Common.{◌∙◌, ap, length, refl}
use Rattle.hv_serve.proofs.Tracing.{added, not_added}
use Rattle.hv_serve.proofs.traced.Trace.add.Goals as goal

pub returns-in-Ok : goal.returns-in-Ok
returns-in-Ok c = λ objects holds. added _ _ _ _ _ _ objects c.args.self.now _ (c.len-number.ensures ∙ ap length c.history.ensures.list) refl c.in-Ok.ensures holds

pub returns-in-Err : goal.returns-in-Err
returns-in-Err c = λ objects holds. not_added _ _ _ _ _ objects _ refl
