use Rattle.std.proofs.Common.{◌≡◌, ℕ, length, ap, ◌∙◌, subst, IfErr, OnOk}
use Rattle.std.proofs.lemmas.Result.{on_ok_weaker}
use Rattle.hv_explain.proofs.BrokenOff.{err_then, text_cut, text_put}
use Rattle.hv_explain.proofs.event.tell_event.Goals as goal
use Rattle.hv_explain.specs.Cut.{IsCutText}
use Rattle.hv_explain.specs.Written.{HasPut, entry_of}

pub returns-in-Ok-clause-told : goal.returns-in-Ok-clause-told
returns-in-Ok-clause-told g c =
    let at : c.len-number.result ≡ length c.args.kept.now.history = c.len-number.ensures ∙ ap length c.history.ensures.list in
    subst
    (λ (n : ℕ). OnOk c.put_text.result
    (HasPut (g.T.Teller.tells n (entry_of c.args.by c.args.what.now c.args.reply.now) c.args.effect.now) (g.W.Write.contents c.args.out.now) (g.W.Write.contents c.put_text.new.out)))
    at
    (on_ok_weaker c.put_text.result (text_put _ c.clear.new.self.items c.tell.new.out.items _ _ _ c.clear.ensures.items c.in-Ok.ensures c.as_slice.ensures.value) c.put_text.ensures.told)

pub returns-in-Ok-clause-cut : goal.returns-in-Ok-clause-cut
returns-in-Ok-clause-cut g c =
    let at : c.len-number.result ≡ length c.args.kept.now.history = c.len-number.ensures ∙ ap length c.history.ensures.list in
    subst
    (λ (n : ℕ). IfErr c.put_text.result
    (λ failure. IsCutText failure (g.T.Teller.tells n (entry_of c.args.by c.args.what.now c.args.reply.now) c.args.effect.now) (g.W.Write.contents c.args.out.now)
    (g.W.Write.contents c.put_text.new.out)))
    at
    (err_then c.put_text.result _ _ c.put_text.ensures.cut
    (λ failure cut. text_cut _ failure c.clear.new.self.items c.tell.new.out.items _ _ _ c.clear.ensures.items c.in-Ok.ensures c.as_slice.ensures.value cut))
