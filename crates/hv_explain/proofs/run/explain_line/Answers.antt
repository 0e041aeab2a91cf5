use Rattle.hv_explain.proofs.AskedActions.{one_told}
use Rattle.hv_explain.proofs.BrokenOff.{cut_access}
use Rattle.hv_explain.proofs.run.explain_line.Goals as goal

pub returns-in-Ok-explain_event-clause-told : goal.returns-in-Ok-explain_event-clause-told
returns-in-Ok-explain_event-clause-told g c =
    one_told g.T.Teller.tells c.args.line.now.by c.in-Ok.field-0 c.args.line.now.action c.in-Ok-explain_event.field-0 c.args.most c.args.kept.now c.explain_event.new.kept _ _ c.requires
    c.in-Ok.ensures.access c.in-Ok-explain_event.ensures.run c.in-Ok-explain_event.ensures.told

pub returns-in-Err-explain_event-clause-cut : goal.returns-in-Err-explain_event-clause-cut
returns-in-Err-explain_event-clause-cut g c =
    cut_access g.T.Teller.tells c.args.line.now.by c.in-Ok.field-0 c.args.line.now.action c.in-Err-explain_event.failure c.args.kept.now c.explain_event.new.kept _ _ c.in-Ok.ensures.access
    c.history-history.ensures.run c.explain_event.ensures.run c.in-Err-explain_event.ensures.cut
