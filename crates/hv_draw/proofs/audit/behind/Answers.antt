use Rattle.std.proofs.Common.{rules, ◌≡◌, ◌∙◌}
use Rattle.hv_draw.proofs.Beginning.{behind_of}
use Rattle.hv_draw.proofs.audit.behind.Goals as goal

pub returns-then-eq : goal.returns-then-eq
returns-then-eq c = λ lines is.
    let same : c.split_at-2.result.0.now ≡ c.split_at.result.0.now = search rules in
    behind_of c.args.whole.now c.args.end.now c.args.audit.now c.split_at-2.result.0.now c.split_at-2.result.1.now lines c.saturating_sub-count.result c.saturating_sub-count.ensures
    c.split_at-2.ensures.by_index.0 (same ∙ c.split_at.ensures.front) is
