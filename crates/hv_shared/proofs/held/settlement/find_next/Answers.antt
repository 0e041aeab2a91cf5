use Rattle.std.proofs.Common.{◌≡◌, ◌+◌, ◌<◌, arith, sym, ◌∙◌}
use Rattle.std.specs.BinaryHeap.{heap_items}
use Rattle.hv_history.specs.History.{entries}
use Rattle.hv_shared.specs.declared.held.settlement.TheConstants.{NEVER}
use Rattle.hv_shared.proofs.HeapFirst.{comes_next, contested, differs, due_behind, empty, goes_on, missing, none_before}
use Rattle.hv_shared.proofs.PackedReceipts.{there_is}
use Rattle.hv_shared.proofs.held.settlement.find_next.Goals as goal

pub returns-in_default-clause-fault : goal.returns-in_default-clause-fault
returns-in_default-clause-fault c =
    let es = entries c.args.history.now in
    let e = there_is es c.args.at c.requires.place in
    let place = c.requires.place in
    let never = c.requires.never in
    let few : c.args.at + 1 < NEVER = omega arith in
    empty c.args.at few es e.0 e.1 (heap_items c.args.heap.now) (sym c.args.heap.now.data.ok.0 ∙ c.in_default.ensures.none)

pub returns-then-rest-number-clause-fault : goal.returns-then-rest-number-clause-fault
returns-then-rest-number-clause-fault c =
    let es = entries c.args.history.now in
    let e = there_is es c.args.at c.requires.place in
    let place = c.requires.place in
    let never = c.requires.never in
    let few : c.args.at + 1 < NEVER = omega arith in
    let popped = c.in-Some.ensures in
    missing c.args.at few es e.0 e.1 _ _ c.in-Some.rest popped.permutation c.requires.due (popped.below_top c.requires.heap) (λ same. c.if-rest-number.true same)

pub returns-then-until-number-clause-fault : goal.returns-then-until-number-clause-fault
returns-then-until-number-clause-fault c =
    let es = entries c.args.history.now in
    let e = there_is es c.args.at c.requires.place in
    let place = c.requires.place in
    let never = c.requires.never in
    let few : c.args.at + 1 < NEVER = omega arith in
    let popped = c.in-Some.ensures in
    let low = popped.below_top c.requires.heap in
    let until : c.first_due-until.result ≡ c.args.at + 1 = c.if-until-number.true in
    let second = c.first_due-until.ensures.first (omega arith) in
    contested c.args.at few es e.0 e.1 _ _ c.in-Some.rest popped.permutation c.requires.due low c.if-rest-number.false second.0 (λ d. second.1 d ∙ until)

pub returns-then-count-eq0-clause-fault : goal.returns-then-count-eq0-clause-fault
returns-then-count-eq0-clause-fault c =
    let es = entries c.args.history.now in
    let e = there_is es c.args.at c.requires.place in
    let place = c.requires.place in
    let never = c.requires.never in
    let few : c.args.at + 1 < NEVER = omega arith in
    let popped = c.in-Some.ensures in
    let low = popped.below_top c.requires.heap in
    let least = c.first_due-until.ensures.least (c.args.at + 1) (omega arith) (none_before c.args.at few es e.0 e.1 _ _ c.in-Some.rest popped.permutation c.requires.due low c.if-rest-number.false) in
    let other = c.if-until-number.false in
    let next = comes_next c.args.at few es e.0 e.1 _ _ c.in-Some.rest popped.permutation c.requires.due low c.if-rest-number.false in
    differs c.args.at few es e.0 e.1 _ _ c.in-Some.rest popped.permutation c.requires.due low c.if-rest-number.false
    (c.advance-count.ensures.none e.0 e.1 c.if-count-eq0.true (omega (arith, other)) next)

pub returns-clause-due : goal.returns-clause-due
returns-clause-due c =
    let es = entries c.args.history.now in
    let e = there_is es c.args.at c.requires.place in
    let place = c.requires.place in
    let never = c.requires.never in
    let few : c.args.at + 1 < NEVER = omega arith in
    let popped = c.in-Some.ensures in
    let low = popped.below_top c.requires.heap in
    let some = c.if-count-eq0.false in
    due_behind c.args.at few es e.0 e.1 _ _ c.in-Some.rest popped.permutation c.requires.due low c.if-rest-number.false c.advance-count.new.self _ c.advance-count.result c.first_due-until.result
    c.in-Ok.ensures.permutation c.first_due-until.ensures.all (c.advance-count.ensures.until (omega (arith, some))) c.advance-count.ensures.due

pub returns-clause-found : goal.returns-clause-found
returns-clause-found c =
    let es = entries c.args.history.now in
    let e = there_is es c.args.at c.requires.place in
    let place = c.requires.place in
    let never = c.requires.never in
    let few : c.args.at + 1 < NEVER = omega arith in
    let popped = c.in-Some.ensures in
    let low = popped.below_top c.requires.heap in
    let some = c.if-count-eq0.false in
    goes_on c.args.at few es e.0 e.1 _ _ c.in-Some.rest popped.permutation c.requires.due low c.if-rest-number.false c.advance-count.new.self _ c.advance-count.result c.first_due-until.result
    c.in-Ok.ensures.permutation c.first_due-until.ensures.all (c.advance-count.ensures.until (omega (arith, some))) c.advance-count.ensures.place c.requires.never c.advance-count.ensures.same
    c.advance-count.ensures.left
