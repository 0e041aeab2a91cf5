use Rattle.std.proofs.Common.{inl, refl}
use Rattle.std.proofs.KnownBytes.{Keeps-refl}
use Rattle.hv_explain.proofs.BrokenOff.{cut_event}
use Rattle.hv_explain.proofs.WrittenLines.{told_one}
use Rattle.hv_explain.proofs.event.explain_event.Goals as goal

pub returns-in-Ok-clause-told : goal.returns-in-Ok-clause-told
returns-in-Ok-clause-told g c =
    told_one g.T.Teller.tells c.args.by c.args.what.now c.in_ok-reply.reply c.in_ok-reply.effect c.args.kept.now _ _ _ _ c.in_ok-reply.ensures.happened refl c.in-Ok.ensures.told

pub returns-in-Err-clause-cut : goal.returns-in-Err-clause-cut
returns-in-Err-clause-cut g c =
    cut_event g.T.Teller.tells c.args.by c.args.what.now c.in-Err.failure c.in_ok-reply.reply c.in_ok-reply.effect c.args.kept.now c.take_event.new.kept _ _ c.in_ok-reply.ensures.happened
    c.in_ok-reply.ensures.next c.in-Err.ensures.cut
