use Rattle.std.proofs.Common.{◌≡◌, ◌+◌, ◌∙◌, ap, arith, inl, inr, slice_get, sym}
use Rattle.std.proofs.lemmas.Bool.{cases_eq, false≢true}
use Rattle.std.proofs.lemmas.Option.{slice_get_within}
use Rattle.hv_history.specs.History.{entries}
use Rattle.hv_shared.specs.Receipts.{list_of}
use Rattle.hv_shared.proofs.PackedReceipts.{are_of, count, next_at, no_number}
use Rattle.hv_shared.proofs.receipts.Receipts.run_of.Goals as goal

pub returns-then-len-at-clause-none : goal.returns-then-len-at-clause-none
returns-then-len-at-clause-none c = λ entry is none until next of.
    let r = c.args.self.now in
    let all = count r.numbers.items (entries r.packed) (sym r.numbers.ok.0 ∙ r.each) in
    let ok = r.numbers.ok.0 in
    let len = c.len.ensures in
    let past = c.if-len-at.true in
    false≢true (sym (no_number (list_of r) c.args.at (c.args.place + 1) (omega arith)) ∙ next)

pub returns-clause-same : goal.returns-clause-same
returns-clause-same c =
    let r = c.args.self.now in
    let most = c.common.ensures.most in
    are_of r.numbers.items (entries r.packed) (entries c.args.history.now) c.args.at c.args.place c.common.result (λ i less. c.count_from-most.ensures.same i (omega arith)) c.common.ensures.same

pub returns-clause-none : goal.returns-clause-none
returns-clause-none c = λ entry is none until next of.
    let r = c.args.self.now in
    let es = entries c.args.history.now in
    let both = next_at r.numbers.items (entries r.packed) c.args.at (c.args.place + 1) entry (sym r.numbers.ok.0 ∙ r.each) next of in
    let within = slice_get_within es c.args.place entry is in
    let end = c.min-end.ensures in
    let len = c.len-2.ensures in
    elim (cases_eq c.count_from-most.result 0) [
      | inl zero ↦ c.count_from-most.ensures.none zero (omega arith) both.0
      | inr some ↦
          let here : c.args.at + c.common.result ≡ c.args.at = omega arith in
          let there : c.args.place + c.common.result ≡ c.args.place = omega arith in
          c.common.ensures.next (omega (arith, some)) (ap (slice_get (entries r.packed)) here ∙ both.1 ∙ sym is ∙ ap (slice_get es) (sym there))
    ]
