use Rattle.std.proofs.Common.{ap, ◌∙◌, arith}
use Rattle.std.specs.FinSet as set
use Rattle.hv_pages.specs.PageSet.{Pages}
use Rattle.hv_partition.proofs.ReplacedPages.{with_twice}
use Rattle.hv_partition.specs.Partition.{pages_in, with_pages}
use Rattle.hv_partition_calls.proofs.MovedPages.{written}
use Rattle.hv_partition_calls.specs.PoolChange.{HasLost}
use Rattle.hv_partition_calls.proofs.pages.take.Goals as goal

pub returns-clause-taken : goal.returns-clause-taken
returns-clause-taken g c =
    let enough = c.in_ok-reserve.ensures.ok in
    let left = c.take.ensures.room in
    written c.args.tree.now c.args.id c.args.kind c.in-Some.partition.now c.take.new.self (HasLost c.args.page) c.in-Some.ensures.value
    (c.take.ensures.rest ∙ ap (with_pages c.args.kind (pages_in c.args.kind c.take.new.self)) c.reserve.ensures.rest ∙ with_twice c.args.kind (pages_in c.args.kind c.take.new.self)
    (pages_in c.args.kind c.reserve.new.self) c.in-Some.partition.now)
    (c.take.ensures.pages ∙ ap {A = Pages} (λ pages. set.remove pages c.args.page) c.reserve.ensures.pages, omega arith)
