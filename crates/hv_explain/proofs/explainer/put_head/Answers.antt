use Rattle.hv_explain.proofs.WrittenLines.{head_written, ok_then}
use Rattle.hv_explain.proofs.explainer.put_head.Goals as goal

pub returns : goal.returns
returns g c =
    ok_then _ _ _ c.put_number-3.ensures
    (head_written _ _ _ _ c.args.number _ c.args.by c.from.ensures c.in_ok-put_number.ensures c.in_ok-put_number-2.ensures)
