use Rattle.std.proofs.Common.{[], ◌∷◌, ◌++◌, refl, ◌∙◌, arith}
use Rattle.hv_policy.specs.Parts.{reply_of}
use Rattle.hv_history.proofs.Runs.{few, longer, reply_index, room, taken}
use Rattle.hv_history.proofs.kept.Kept.answer.Goals as goal

pub answer-requires-clause-count : goal.answer-requires-clause-count
answer-requires-clause-count g c =
    let is = c.self.invariant in
    let served = few _ is in
    let free = room c.self.view_is is (c.if-is_full.ensures.1) in
    let ranges = c.self.ranges in
    omega arith

pub push-requires-clause-index : goal.push-requires-clause-index
push-requires-clause-index g c = reply_index _ c.args.event _ _ c.self.invariant c.in-Ok.ensures.step c.in-Ok.answer c.answer.new.output refl

pub invariant_of-self-2 : goal.invariant_of-self-2
invariant_of-self-2 g c =
    longer _ c.args.event (reply_of c.in-Ok.answer c.answer.new.output) _ c.self.invariant c.in-Ok.ensures.step _
    (c.push.ensures.pushed ∙ (λ i. c.reserve.ensures.same i ++ record { event = c.args.event; reply = reply_of c.in-Ok.answer (c.as_slice.ensures.bytes i) } ∷ []))
    (room c.self.view_is c.self.invariant (c.if-is_full.ensures.1))

pub returns-clause-run : goal.returns-clause-run
returns-clause-run g c = invariant_of-self-2 g c

pub returns-clause-taken : goal.returns-clause-taken
returns-clause-taken g c =
    rw (← c.self.view_is) (taken _ c.args.event (reply_of c.in-Ok.answer c.answer.new.output) _ c.self.invariant c.in-Ok.ensures.step _
    (c.push.ensures.pushed ∙ (λ i. c.reserve.ensures.same i ++ record { event = c.args.event; reply = reply_of c.in-Ok.answer (c.as_slice.ensures.bytes i) } ∷ [])))
