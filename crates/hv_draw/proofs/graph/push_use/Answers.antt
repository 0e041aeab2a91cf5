use Rattle.std.proofs.Common.{◌∙◌, ap, ◌++◌, decimal, ℕ}
use Rattle.std.proofs.lemmas.Result.{on_ok_weaker}
use Rattle.hv_draw.proofs.Blocks.{three}
use Rattle.hv_draw.proofs.graph.push_use.Goals as goal

pub returns : goal.returns
returns c =
    on_ok_weaker c.push-2.result (λ end. three _ _ _ _ _ _ _ c.in_ok-push.ensures
    (c.in_ok-push_number.ensures ∙ ap (λ (n : ℕ). c.push.new.text.items ++ decimal n) c.in_use.ensures) end) c.push-2.ensures
