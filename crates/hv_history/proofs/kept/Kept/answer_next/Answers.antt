use Rattle.std.proofs.Common.{◌≡◌, ◌-◌, [], ◌∷◌, ◌++◌, List, Some, length, refl, sym, ap, subst, ◌∙◌, arith, slice_get}
use Rattle.hv_policy.specs.Parts.{reply_of}
use Rattle.hv_history.proofs.Rows.{head_is}
use Rattle.hv_history.proofs.Runs.{few, longer, reply_index, room, taken}
use Rattle.hv_history.specs.Kept.{Kept}
use Rattle.hv_history.specs.Run.{element, restart}
use Rattle.hv_history.specs.declared.entry.Entry.{Entry}
use Rattle.hv_history.proofs.kept.Kept.answer_next.Goals as goal

pub answer-requires-clause-count : goal.answer-requires-clause-count
answer-requires-clause-count g c =
    let is = c.self.invariant in
    let served = few _ is in
    let free = room c.self.view_is is (c.if-is_full.ensures.1) in
    let ranges = c.self.ranges in
    omega arith

pub push_head-requires-clause-index : goal.push_head-requires-clause-index
push_head-requires-clause-index g c = reply_index _ c.index-event.result.now _ _ c.self.invariant c.in-Ok.ensures.step c.in-Ok.answer c.answer.new.output refl

pub invariant_of-self-2 : goal.invariant_of-self-2
invariant_of-self-2 g c =
    let h = c.restart-head.new.self in
    let event = head_is h.heads.items c.restart-head.result c.index-event.result.now (omega (arith, h.heads.ok.0, c.restart-head.ensures.there)) c.index-event.ensures in
    longer _ c.index-event.result.now (reply_of c.in-Ok.answer c.answer.new.output) _ c.self.invariant c.in-Ok.ensures.step _
    (c.push_head.ensures ∙ (λ i. (c.restart-head.ensures.same ∙ c.reserve.ensures.same) i ++ record { event = event i; reply = reply_of c.in-Ok.answer (c.as_slice.ensures.bytes i) } ∷ []))
    (room c.self.view_is c.self.invariant (c.if-is_full.ensures.1))

pub returns-clause-run : goal.returns-clause-run
returns-clause-run g c = invariant_of-self-2 g c

pub returns-clause-applied : goal.returns-clause-applied
returns-clause-applied g c = λ last frame is call.
    let h = c.restart-head.new.self in
    let event = head_is h.heads.items c.restart-head.result c.index-event.result.now (omega (arith, h.heads.ok.0, c.restart-head.ensures.there)) c.index-event.ensures in
    let was = sym (c.reserve.ensures.same ∙ ap (λ (k : Kept g.row.A.Denot). k.history) c.self.view_is) in
    let ends = subst (λ (es : List (Entry g.row.A.Denot)). slice_get es (length es - 1) ≡ Some last) was is in
    let asked : c.index-event.result.now ≡ element last.event.by (restart frame c.args.start) = sym event ∙ c.restart-head.ensures.head last frame ends call in
    rw (← c.self.view_is, ← asked)
    (taken _ c.index-event.result.now (reply_of c.in-Ok.answer c.answer.new.output) _ c.self.invariant c.in-Ok.ensures.step _
    (c.push_head.ensures ∙ (λ i. (c.restart-head.ensures.same ∙ c.reserve.ensures.same) i ++ record { event = event i; reply = reply_of c.in-Ok.answer (c.as_slice.ensures.bytes i) } ∷ [])))
