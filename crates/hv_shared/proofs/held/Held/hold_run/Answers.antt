use Rattle.std.proofs.Common.{◌≡◌, ◌+◌, ◌++◌, ◌∙◌, ℕ, ap, refl, sym, length, drop, arith, length-append}
use Rattle.std.proofs.lemmas.Grind.{common_steps}
use Rattle.hv_history.specs.History.{entries}
use Rattle.hv_history.specs.Run.{element}
use Rattle.hv_policy.specs.Parts.{reply_of}
use Rattle.hv_shared.specs.PassValue.{PassValue}
use Rattle.hv_shared.specs.Receipts.{list_of, numbered, room_in}
use Rattle.hv_shared.specs.declared.receipts.Receipts.{Receipts}
use Rattle.hv_shared.proofs.HeldElements.{gained, held, tail_is}
use Rattle.hv_shared.proofs.Copies.{first_copy, some_copies}
use Rattle.hv_shared.proofs.PackedReceipts.{some_more}
use Rattle.hv_shared.proofs.EntryNumbers.{count, owned}
use Rattle.hv_shared.proofs.held.Held.hold_run.Goals as goal

pub index_mut-first-requires : goal.index_mut-first-requires
index_mut-first-requires g c =
    let some = some_copies c.args.pass.now.caller c.args.frame c.args.most c.args.copies.items c.requires.copies c.requires.some in
    let ok = c.args.copies.ok.0 in
    omega arith

pub push_all-requires : goal.push_all-requires
push_all-requires g c =
    let run = c.answer_run-events in
    let are = rw (sym c.pass.view_is) at c.requires.copies in
    let is = gained _ _ _ _ c.self.inside.kept run.new.kept c.args.copies.items run.ensures.run are run.result.last (λ answer. reply_of answer run.new.output) run.ensures.ran run.ensures.stopped in
    let history = c.history-2.ensures.list ∙ is.history in
    let all = ap length history in
    let from : c.len-from.result ≡ length c.self.inside.kept.history = c.len-from.ensures ∙ ap length c.history.ensures.list in
    let many = is.many in
    let enough = is.enough in
    let ok = c.args.copies.ok.0 in
    let room = c.requires.room in
    let same = ap (λ (p : PassValue). p.room) c.pass.view_is in
    let receipts = ap room_in c.deref_mut.ensures.value in
    let some = some_copies _ c.args.frame c.args.most c.args.copies.items are c.requires.some in
    let first = first_copy _ c.args.frame c.args.copies.items c.index_mut-first.result.now are.asking some c.index_mut-first.ensures.value in
    record {
      alike = rw (first, tail_is (entries c.history-2.result.now) c.self.inside.kept.history is.more c.len-from.result history from) is.alike;
      from = omega (arith, all, from, length-append c.self.inside.kept.history is.more);
      few = grind (arith, common_steps);
      room = omega (arith, all, from, many, length-append c.self.inside.kept.history is.more, same, receipts);
    }

pub invariant_of-self : goal.invariant_of-self
invariant_of-self g c =
    let run = c.answer_run-events in
    let are = rw (sym c.pass.view_is) at c.requires.copies in
    let is = gained _ _ _ _ c.self.inside.kept run.new.kept c.args.copies.items run.ensures.run are run.result.last (λ answer. reply_of answer run.new.output) run.ensures.ran run.ensures.stopped in
    let all = ap length is.history in
    let many = is.many in
    let counted = c.self.invariant in
    let total = c.add.ensures.total in
    omega (arith, all, length-append c.self.inside.kept.history is.more)

pub invariant_of-pass : goal.invariant_of-pass
invariant_of-pass g c =
    let run = c.answer_run-events in
    let are = rw (sym c.pass.view_is) at c.requires.copies in
    let is = gained _ _ _ _ c.self.inside.kept run.new.kept c.args.copies.items run.ensures.run are run.result.last (λ answer. reply_of answer run.new.output) run.ensures.ran run.ensures.stopped in
    let n = c.len-from.result + 1 in
    let all = entries c.history-2.result.now in
    let tail = tail_is all c.self.inside.kept.history is.more c.len-from.result (c.history-2.ensures.list ∙ is.history) (c.len-from.ensures ∙ ap length c.history.ensures.list) in
    let many : run.result.events ≡ length (numbered n is.more) = sym (count n is.more ∙ is.many) in
    some_more c.pass.inside.caller (list_of c.pass.inside.receipts.value) (list_of c.push_all.new.self) (numbered n is.more) _ _ _ _ c.pass.invariant
    (c.push_all.ensures ∙ (λ i. list_of (c.deref_mut.ensures.value i) ++ numbered n (tail i)))
    c.add.ensures.parts (c.add.ensures.amount ∙ ap (λ (m : ℕ). c.pass.inside.share.amount + m) (c.from.ensures ∙ many)) (owned (element c.pass.inside.caller c.args.frame) is.more n is.alike)

pub returns-clause-held : goal.returns-clause-held
returns-clause-held g c =
    let run = c.answer_run-events in
    let are = rw (sym c.pass.view_is) at c.requires.copies in
    let is = gained _ _ _ _ c.self.inside.kept run.new.kept c.args.copies.items run.ensures.run are run.result.last (λ answer. reply_of answer run.new.output) run.ensures.ran run.ensures.stopped in
    let all = entries c.history-2.result.now in
    let told = c.push_all.ensures ∙ ap (λ (r : Receipts). list_of r ++ numbered (c.len-from.result + 1) (drop c.len-from.result all)) c.deref_mut.ensures.value in
    rw (sym c.pass.view_is, sym c.self.view_is)
    (held c.pass.inside.caller c.args.frame run.result.events c.args.copies.items _ _ _ _ is (c.add.ensures.total ∙ ap (λ (m : ℕ). c.self.inside.count.total + m) c.from.ensures)
    all c.len-from.result c.history-2.ensures.list (c.len-from.ensures ∙ ap length c.history.ensures.list) told
    (c.add.ensures.amount ∙ ap (λ (m : ℕ). c.pass.inside.share.amount + m) c.from.ensures) refl)
