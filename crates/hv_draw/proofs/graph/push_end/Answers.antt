use Rattle.std.proofs.Common.{◌∙◌, ap, ◌++◌, List, ℕ}
use Rattle.std.proofs.lemmas.Result.{on_ok_weaker}
use Rattle.hv_draw.proofs.Blocks.{four}
use Rattle.hv_draw.proofs.graph.push_end.Goals as goal

pub returns : goal.returns
returns c =
    let word = c.in_ok-push-2.ensures ∙ ap (λ (l : List ℕ). c.push_number.new.text.items ++ l) c.events_word.ensures in
    on_ok_weaker c.push-3.result (λ end. four _ _ _ _ _ _ _ _ _ c.in_ok-push.ensures c.in_ok-push_number.ensures word end) c.push-3.ensures
