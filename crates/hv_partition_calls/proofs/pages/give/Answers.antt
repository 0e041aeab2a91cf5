use Rattle.std.proofs.Common.{ap, ◌∙◌}
use Rattle.std.specs.FinSet as set
use Rattle.hv_pages.specs.PageSet.{Pages}
use Rattle.hv_partition.proofs.ReplacedPages.{with_twice}
use Rattle.hv_partition.specs.Partition.{pages_in, with_pages}
use Rattle.hv_partition_calls.proofs.MovedPages.{written}
use Rattle.hv_partition_calls.specs.PoolChange.{HasGained}
use Rattle.hv_partition_calls.proofs.pages.give.Goals as goal

pub returns-clause-given : goal.returns-clause-given
returns-clause-given g c =
    written c.args.tree.now c.args.id c.args.kind c.in-Some.partition.now c.put.new.self (HasGained c.args.page) c.in-Some.ensures.value
    (c.put.ensures.rest ∙ ap (with_pages c.args.kind (pages_in c.args.kind c.put.new.self)) c.reserve.ensures.rest ∙ with_twice c.args.kind (pages_in c.args.kind c.put.new.self)
    (pages_in c.args.kind c.reserve.new.self) c.in-Some.partition.now)
    (c.put.ensures.pages ∙ ap {A = Pages} (λ pages. set.insert pages c.args.page) c.reserve.ensures.pages)
