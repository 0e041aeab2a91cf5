use Rattle.std.proofs.lemmas.Result.{on_ok_weaker}
use Rattle.hv_draw.proofs.Charting.{opening_written}
use Rattle.hv_draw.proofs.chart.put_opening.Goals as goal

pub returns : goal.returns
returns g c =
    on_ok_weaker c.write_all.result
    (opening_written _ _ _ _ _ c.args.number _ c.args.by c.from.ensures c.in_ok-put_number.ensures c.in_ok-put_number-2.ensures c.in_ok-put_number-3.ensures)
    c.write_all.ensures.bytes
