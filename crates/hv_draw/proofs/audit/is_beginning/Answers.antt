use Rattle.std.proofs.Common.{◌∙◌, ap, sym, ◌++◌, length, List, ℕ}
use Rattle.hv_check.specs.Legal.{end_text}
use Rattle.hv_draw.proofs.Beginning.{beginning_of}
use Rattle.hv_draw.proofs.audit.is_beginning.Goals as goal

pub returns-in-Some : goal.returns-in-Some
returns-in-Some c = λ holds.
    let many = c.len-events.ensures ∙ ap length c.history.ensures.list in
    let last = c.deref-2.ensures.value ∙ c.in_ok-push_count.ensures ∙ ap (λ (l : List ℕ). l ++ end_text c.len-events.result) c.new-end.ensures.items in
    beginning_of c.args.at c.args.audit.now c.in-Some.rest.now c.deref.result.now c.deref-2.result.now c.args.kept.now.history c.len-events.result many last
    (c.deref.ensures.value ∙ c.in_ok-whole.ensures) c.in-Some.ensures (λ is. c.is_left.ensures holds (c.deref-in-Some.ensures.value ∙ sym c.deref-2.ensures.value ∙ is))
