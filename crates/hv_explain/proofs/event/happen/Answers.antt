use Rattle.std.proofs.Common.{ap, ◌∙◌, List, ℕ}
use Rattle.hv_policy.specs.Parts.{reply_of}
use Rattle.hv_explain.proofs.WrittenLines.{happened}
use Rattle.hv_explain.proofs.event.happen.Goals as goal

pub returns-in-Ok-answer-clause-happened : goal.returns-in-Ok-answer-clause-happened
returns-in-Ok-answer-clause-happened c =
    happened c.args.by _ c.args.what.now _ _ c.in-Ok-answer.effect c.args.kept.now c.answer.new.kept c.in-Ok.ensures
    (c.of.ensures ∙ ap (λ (bytes : List ℕ). reply_of c.in-Ok-answer.answer bytes) c.as_slice.ensures.bytes) c.history-history.ensures.run c.in-Ok-answer.ensures.taken.gained
    c.in-Ok-answer.ensures.effect
