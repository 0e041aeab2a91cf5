use Rattle.hv_partition_calls.proofs.MovedPages.{written}
use Rattle.hv_partition_calls.specs.PoolChange.{HasGained}
use Rattle.hv_partition_calls.proofs.pages.put.Goals as goal

pub returns : goal.returns
returns g c = written c.args.tree.now c.args.id c.args.kind c.in-Some.partition.now c.put.new.self (HasGained c.args.page) c.in-Some.ensures.value c.put.ensures.rest c.put.ensures.pages
