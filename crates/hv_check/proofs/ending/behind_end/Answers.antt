use Rattle.std.proofs.Common.{◌≡◌, ℕ, ◌+◌, ◌-◌, List, ◌++◌, ap, ◌∙◌}
use Rattle.std.proofs.Common.{decimal}
use Rattle.hv_check.proofs.Compared.{end_cancel, none_map}
use Rattle.hv_check.proofs.ending.behind_end.Goals as goal

pub returns-clause-none : goal.returns-clause-none
returns-clause-none c =
    let digits : c.as_bytes.result.now ≡ decimal c.args.events = c.as_bytes.ensures.value ∙ c.format.ensures.text in
    none_map c.behind-3.result _ _
    (λ none rest is.
    none rest
    (end_cancel c.args.text.now c.in_ok-count.count.now c.in_ok-feed.feed.now (decimal c.args.events) rest c.in_ok-count.ensures.some
    (c.in_ok-feed.ensures.some ∙ ap (λ (l : List ℕ). l ++ c.in_ok-feed.feed.now) digits) is))
    c.behind-3.ensures.none
