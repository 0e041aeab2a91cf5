use Rattle.std.proofs.Common.{inr, subst, sym}
use Rattle.std.proofs.lemmas.Result.{on_ok_weaker}
use Rattle.hv_draw.specs.Drawn.{IsPicture}
use Rattle.hv_draw.proofs.draw.write_graph.Goals as goal

pub returns-in-Ok-clause-graph : goal.returns-in-Ok-clause-graph
returns-in-Ok-clause-graph g c =
    let picture = subst (IsPicture c.args.only c.args.kept.now) (sym c.deref.ensures.value) c.in-Ok.ensures in
    on_ok_weaker c.put.result (λ told. record { text = c.deref.result.now; picture = picture; told = told }) c.put.ensures.told

pub returns-in-Ok-clause-part : goal.returns-in-Ok-clause-part
returns-in-Ok-clause-part g c =
    let picture = subst (IsPicture c.args.only c.args.kept.now) (sym c.deref.ensures.value) c.in-Ok.ensures in
    inr (record { kept = c.args.kept.now; run = c.history-history.ensures.run; text = c.deref.result.now; picture = picture; told = c.put.ensures.part })
