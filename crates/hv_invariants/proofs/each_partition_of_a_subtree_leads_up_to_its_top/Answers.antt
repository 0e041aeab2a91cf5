use Rattle.hv_policy.proofs.Subtrees.{leads_tested, within_leads}
use Rattle.hv_policy.specs.Count.{parent_of}
use Rattle.hv_invariants.proofs.ChangedRow.{parents_below}
use Rattle.hv_invariants.proofs.each_partition_of_a_subtree_leads_up_to_its_top.Goals as goal

pub returns : goal.returns
returns c pages f l top id = (
  within_leads (parent_of f) top id id,
  (λ leads. leads_tested (parent_of f) top (parents_below pages f l) leads.0 id leads.1),
)
