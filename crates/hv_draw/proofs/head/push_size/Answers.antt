use Rattle.std.proofs.lemmas.Result.{on_ok_weaker}
use Rattle.hv_draw.proofs.Blocks.{three}
use Rattle.hv_draw.specs.Head.{size_text}
use Rattle.hv_draw.proofs.head.push_size.Goals as goal

pub returns : goal.returns
unfolding size_text
returns c = on_ok_weaker c.push.result (λ end. three _ _ _ _ _ _ _ c.in_ok-push_marked.ensures c.in_ok-push_marked-2.ensures end) c.push.ensures
