use Rattle.std.proofs.lemmas.Result.{on_ok_weaker}
use Rattle.hv_draw.proofs.Choosing.{note_of}
use Rattle.hv_draw.proofs.left.push_left.Goals as goal

pub returns : goal.returns
returns c = on_ok_weaker c.push-2.result (λ end. note_of _ _ _ _ _ c.args.partitions c.in_ok-push.ensures c.in_ok-push_number.ensures end) c.push-2.ensures
