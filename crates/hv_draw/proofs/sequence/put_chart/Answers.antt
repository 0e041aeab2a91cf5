use Rattle.std.proofs.Common.{inr, subst, sym}
use Rattle.std.proofs.lemmas.Result.{on_ok_weaker}
use Rattle.hv_draw.specs.Sequence.{IsChart}
use Rattle.hv_draw.proofs.sequence.put_chart.Goals as goal

pub returns-in-Ok-clause-drawn : goal.returns-in-Ok-clause-drawn
returns-in-Ok-clause-drawn g c =
    let chart = subst (IsChart c.args.rows.now) (sym c.deref.ensures.value) c.in-Ok.ensures in
    on_ok_weaker c.put.result (λ wrote. record { text = c.deref.result.now; chart = chart; wrote = wrote }) c.put.ensures.told

pub returns-in-Ok-clause-part : goal.returns-in-Ok-clause-part
returns-in-Ok-clause-part g c =
    let chart = subst (IsChart c.args.rows.now) (sym c.deref.ensures.value) c.in-Ok.ensures in
    inr (record { text = c.deref.result.now; chart = chart; wrote = c.put.ensures.part })
