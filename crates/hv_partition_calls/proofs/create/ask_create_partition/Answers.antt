use Rattle.std.proofs.Common.{◌≡◌, true, sym, ap, ◌∙◌, rules}
use Rattle.hv_calls.specs.declared.call.Call.TheVariants.{CreatePartition}
use Rattle.hv_policy.specs.Met.{is_depth_left}
use Rattle.hv_policy.specs.declared.need.Need.{Need}
use Rattle.hv_admit.proofs.TargetFound.{found_available}
use Rattle.hv_partition_calls.proofs.create.ask_create_partition.Goals as goal

pub returns-then-balance_of-need-clause-unmet : goal.returns-then-balance_of-need-clause-unmet
returns-then-balance_of-need-clause-unmet g c f flags found flat =
    let depth : is_depth_left f c.args.by ≡ true = sym (c.is_depth_left.ensures f flat) ∙ c.if-not-is_depth_left.false in
    let of = c.args.found in
    let charge : of.need.charge ≡ 2 = ap (λ (n : Need). n.charge) found.row in
    let has = c.balance_of.ensures.available
    ∙ found_available c.args.tree.now f flat c.args.by (CreatePartition flags) of.need of.caller.now of.target.now of.children found in
    rw depth (search rules)

pub returns-clause-unmet : goal.returns-clause-unmet
returns-clause-unmet g c f flags found flat =
    let depth : is_depth_left f c.args.by ≡ true = sym (c.is_depth_left.ensures f flat) ∙ c.if-not-is_depth_left.false in
    let of = c.args.found in
    let charge : of.need.charge ≡ 2 = ap (λ (n : Need). n.charge) found.row in
    let has = c.balance_of.ensures.available
    ∙ found_available c.args.tree.now f flat c.args.by (CreatePartition flags) of.need of.caller.now of.target.now of.children found in
    rw depth (search rules)
