use Rattle.std.proofs.lemmas.List.{take_rest}
use Rattle.std.proofs.lemmas.Result.{on_ok_weaker}
use Rattle.hv_explain.proofs.BrokenOff.{err_then, rest_cut, rest_put}
use Rattle.hv_explain.proofs.put.put_text.Goals as goal

pub returns-in-Ok-clause-told : goal.returns-in-Ok-clause-told
returns-in-Ok-clause-told g c =
    on_ok_weaker c.put_rest.result (rest_put c.args.text.now _ c.in-Ok.count _ _ _ (take_rest c.args.text.now c.in-Ok.count) c.in-Ok.ensures.bytes) c.put_rest.ensures.told

pub returns-in-Ok-clause-cut : goal.returns-in-Ok-clause-cut
returns-in-Ok-clause-cut g c =
    err_then c.put_rest.result _ _ c.put_rest.ensures.cut
    (λ failure cut. rest_cut failure c.args.text.now _ c.in-Ok.count _ _ _ (take_rest c.args.text.now c.in-Ok.count) c.in-Ok.ensures.bytes cut)
