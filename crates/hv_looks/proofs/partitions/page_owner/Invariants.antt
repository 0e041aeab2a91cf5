-- No partition below this id has the page.
use Rattle.std.proofs.Common.{◌≡◌, ℕ, ◌<◌, false}
use Rattle.hv_tree.specs.Rows.{content}
use Rattle.hv_looks.specs.Rows.{has_page}
use Rattle.hv_looks.proofs.partitions.page_owner.Given as goal

abbrev pub invariant-loop-id : goal.invariant-loop-id
invariant-loop-id g l = (q : ℕ) → q < l.id → has_page l.number (content l.tree q) ≡ false
