use Rattle.std.proofs.Common.{◌≡◌, [], ◌∙◌, List, subst, sym, true, eqb-true, Global}
use Rattle.std.proofs.lemmas.List.{nil_from_length}
use Rattle.hv_phases.specs.PassMap.{AreCallersOf}
use Rattle.hv_phases.proofs.PassesLeft.{none_run}
use Rattle.hv_phases.proofs.PhasedHistories.{all_in_order, all_phased, all_run, nothing}
use Rattle.hv_phases.proofs.run.run_lines.Goals as goal
use Rattle.hv_script.specs.declared.line.Line.{Line}

pub returns-in_default-clause-part : goal.returns-in_default-clause-part
returns-in_default-clause-part g c =
    rw (c.not_begun.ensures.fault, c.not_begun.ensures.kept) (none_run c.args.serial c.args.lines.items c.args.kept.history c.requires.empty)

-- no processor is named
pub returns-then-is_empty-clause-lines : goal.returns-then-is_empty-clause-lines
returns-then-is_empty-clause-lines g c = λ going.
    let lines = c.args.lines.items in
    let callers = c.in-Ok.callers in
    let of = subst (λ (ls : List (Line Global)). AreCallersOf ls callers.items) c.deref.ensures.value c.in-Ok.ensures.all in
    let none : callers.items ≡ [] = nil_from_length callers.items (sym callers.ok.0 ∙ eqb-true callers.len 0 (sym c.is_empty.ensures ∙ c.if-is_empty.true)) in
    all_run true lines c.args.kept.history (nothing lines callers.items c.args.kept.history of none c.requires.empty)

pub returns-then-is_empty-clause-phases : goal.returns-then-is_empty-clause-phases
returns-then-is_empty-clause-phases g c = λ going.
    let lines = c.args.lines.items in
    let callers = c.in-Ok.callers in
    let of = subst (λ (ls : List (Line Global)). AreCallersOf ls callers.items) c.deref.ensures.value c.in-Ok.ensures.all in
    let none : callers.items ≡ [] = nil_from_length callers.items (sym callers.ok.0 ∙ eqb-true callers.len 0 (sym c.is_empty.ensures ∙ c.if-is_empty.true)) in
    all_phased true lines c.args.kept.history (nothing lines callers.items c.args.kept.history of none c.requires.empty)

pub returns-then-is_empty-clause-order : goal.returns-then-is_empty-clause-order
returns-then-is_empty-clause-order g c = λ serial going.
    let lines = c.args.lines.items in
    let callers = c.in-Ok.callers in
    let of = subst (λ (ls : List (Line Global)). AreCallersOf ls callers.items) c.deref.ensures.value c.in-Ok.ensures.all in
    let none : callers.items ≡ [] = nil_from_length callers.items (sym callers.ok.0 ∙ eqb-true callers.len 0 (sym c.is_empty.ensures ∙ c.if-is_empty.true)) in
    all_in_order lines c.args.kept.history (nothing lines callers.items c.args.kept.history of none c.requires.empty)

pub returns-then-is_empty-clause-part : goal.returns-then-is_empty-clause-part
returns-then-is_empty-clause-part g c = none_run c.args.serial c.args.lines.items c.args.kept.history c.requires.empty
