use Rattle.hv_shared.proofs.Counting.{counted, merge}
use Rattle.hv_shared.proofs.laws.a_merge_counts_each_number_once.Goals as goal

pub returns-clause-counted : goal.returns-clause-counted
returns-clause-counted c history lists is = counted history lists is

pub returns-clause-merge : goal.returns-clause-merge
returns-clause-merge c history lists is = merge history lists is
