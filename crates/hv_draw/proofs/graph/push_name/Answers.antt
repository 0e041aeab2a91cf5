use Rattle.std.proofs.Common.{◌∙◌, ap, ◌++◌, List, ℕ}
use Rattle.std.proofs.lemmas.Result.{on_ok_weaker}
use Rattle.hv_text.specs.Table.{life_text}
use Rattle.hv_draw.proofs.Blocks.{four}
use Rattle.hv_draw.proofs.graph.push_name.Goals as goal

pub returns : goal.returns
returns c =
    let life = c.life_of.ensures ∙ ap life_text c.life.ensures in
    on_ok_weaker c.push-3.result (λ end. four _ _ _ _ _ _ _ _ _ c.in_ok-push.ensures c.in_ok-push_number.ensures c.in_ok-push-2.ensures
    (end ∙ ap (λ (l : List ℕ). c.push-2.new.text.items ++ l) life)) c.push-3.ensures
