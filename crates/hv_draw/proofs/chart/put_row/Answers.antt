use Rattle.std.proofs.lemmas.Result.{on_ok_weaker}
use Rattle.hv_draw.proofs.Charting.{row_written}
use Rattle.hv_draw.proofs.chart.put_row.Goals as goal

pub returns-clause-row : goal.returns-clause-row
returns-clause-row g c =
    on_ok_weaker c.write_all-4.result
    (row_written _ _ _ _ _ _ _ _ _ c.args.number c.args.by c.args.reply.now c.args.effect.now _ c.args.words.now c.args.shapes _ c.args.text.now c.as_slice-words.ensures.bytes
    c.as_slice-text.ensures.bytes c.in_ok-put_opening.ensures c.in_ok-put_class.ensures c.in_ok-put_reach.ensures c.in_ok-write_all.ensures.bytes c.in_ok-write_all-2.ensures.bytes
    c.in_ok-write_all-3.ensures.bytes c.in_ok-put_shapes.ensures) c.write_all-4.ensures.bytes
