use Rattle.std.proofs.Common.{◌≡◌, ◌<◌, [], length, take, ap, arith, append-nil, length-drop}
use Rattle.std.proofs.KnownBytes.{Appends-trans}
use Rattle.std.proofs.lemmas.Bool.Decides.{nat_tests}
use Rattle.std.proofs.lemmas.List.{nil_from_length, take_rest}
use Rattle.hv_text.proofs.WrittenText.{sent-more, sent-part, sent-same}
use Rattle.hv_text.proofs.put.put_counted.Goals as goal
use Rattle.hv_text.proofs.put.put_counted.Goals.{in-Ok, in-Err+else-ne}

pub loop-preserved : goal.loop-preserved
loop-preserved g c =
    elim c.match-write.branch [
      | in-Ok w ↦ rw (w.written-is, w.rest-is) (record {
        sent = λ start text more h. sent-more _ start _ _ text _ more _ (c.loop.invariant.sent start text more h) w.in-Ok.ensures.bound w.in-Ok.ensures.bytes;
        count = omega (arith, c.loop.invariant.count, w.in-Ok.ensures.bound, ap length (take_rest c.loop.rest.now w.in-Ok.count), length-drop w.in-Ok.count c.loop.rest.now);
      })
      | in-Err+else-ne w ↦ rw (w.written-is, w.rest-is) (record {
        sent = λ start text more h. sent-same start _ _ text _ _ (c.loop.invariant.sent start text more h) w.in-Err.ensures.bytes;
        count = c.loop.invariant.count;
      })
    ]

pub returns-in-Ok-eq0-clause-cut : goal.returns-in-Ok-eq0-clause-cut
returns-in-Ok-eq0-clause-cut g c start text more h =
    let now = c.loop.invariant.sent start text more h in
    let some : 0 < length c.loop.rest.now = grind (arith, nat_tests) in (
      rw append-nil at (Appends-trans start _ _ (take c.loop.written text) [] now.gone (rw c.in-Ok-eq0.field-0-test at c.in-Ok-eq0.ensures.bytes)),
      (sent-part start _ text c.loop.rest.now more _ now some).1,
    )

pub returns-then-ne-clause-cut : goal.returns-then-ne-clause-cut
returns-then-ne-clause-cut g c start text more h =
    let some : 0 < length c.loop.rest.now = grind (arith, nat_tests) in
    sent-part start _ text c.loop.rest.now more _ (sent-same start _ _ text _ _ (c.loop.invariant.sent start text more h) c.in-Err.ensures.bytes) some

pub returns-then-is_empty-2-clause-ok : goal.returns-then-is_empty-2-clause-ok
returns-then-is_empty-2-clause-ok g c start text more h =
    let none : length c.loop.rest.now ≡ 0 = grind (arith, nat_tests) in
    rw (nil_from_length c.loop.rest.now none) at (c.loop.invariant.sent start text more h)

pub returns-else-is_empty-2-clause-cut : goal.returns-else-is_empty-2-clause-cut
returns-else-is_empty-2-clause-cut g c start text more h =
    let some : 0 < length c.loop.rest.now = grind (arith, nat_tests) in
    sent-part start _ text c.loop.rest.now more _ (c.loop.invariant.sent start text more h) some
