use Rattle.std.proofs.Common.{◌≡◌, ℕ, [], ap, sym, ◌∙◌, refl, slice_index_or}
use Rattle.std.proofs.lemmas.List.{get_or-map}
use borrow.Author.Count.{below_more}
use Rattle.hv_shared.specs.Due.{left_of, lefts_of}
use Rattle.hv_shared.proofs.held.settlement.are_empty.Goals as goal

pub returns-then-not-is_empty : goal.returns-then-not-is_empty
returns-then-not-is_empty c =
    let here = get_or-map left_of c.args.rests.now c.loop-rest.rest-index c.rest-item.result [] c.loop-rest-test.true ∙ ap left_of (sym c.rest-item.is) in
    (λ h. absurd cc, λ done. c.if-not-is_empty.ensures.1 (sym here ∙ done c.loop-rest.rest-index))

pub loop-rest-preserved : goal.loop-rest-preserved
loop-rest-preserved c =
    let here = get_or-map left_of c.args.rests.now c.loop-rest.rest-index c.rest-item.result [] c.loop-rest-test.true ∙ ap left_of (sym c.rest-item.is) in
    below_more (λ (j : ℕ). slice_index_or (lefts_of c.args.rests.now) j [] ≡ []) c.loop-rest.rest-index c.loop-rest.invariant (here ∙ c.if-not-is_empty.ensures.0 refl)
