use Rattle.std.proofs.Common.{◌≡◌, ap, ◌∙◌, rules, arith, nat_cmp}
use Rattle.std.specs.FinSet as set
use Rattle.hv_calls.specs.declared.call.Call.TheVariants.{WithdrawMemory}
use Rattle.hv_partition.specs.Partition.{available as may_use}
use Rattle.hv_policy.specs.Needs.{target_of}
use Rattle.hv_policy.specs.declared.need.Need.{Need}
use Rattle.hv_admit.proofs.TargetFound.{found_available}
use Rattle.hv_partition_calls.proofs.withdraw.ask_withdraw.Goals as goal

pub returns-then-balance_of-need-clause-unmet : goal.returns-then-balance_of-need-clause-unmet
returns-then-balance_of-need-clause-unmet g c tree f by partition found flat =
    let of = c.args.found in
    let charge : of.need.charge ≡ 1 = ap (λ (n : Need). n.charge) found.row in
    let has = c.balance_of.ensures.available
    ∙ found_available tree f flat by (WithdrawMemory partition) of.need of.caller.now of.target.now of.children found in
    search rules

pub returns-in-Some-clause-unmet : goal.returns-in-Some-clause-unmet
returns-in-Some-clause-unmet g c tree f by partition found flat =
    let of = c.args.found in
    let charge : of.need.charge ≡ 1 = ap (λ (n : Need). n.charge) found.row in
    let has = c.balance_of.ensures.available
    ∙ found_available tree f flat by (WithdrawMemory partition) of.need of.caller.now of.target.now of.children found in
    search rules

pub returns-in-Some-clause-page : goal.returns-in-Some-clause-page
returns-in-Some-clause-page g c tree f by partition found flat =
    let lowest = c.lowest_pooled.ensures.lowest tree f (target_of (WithdrawMemory partition) by) found.named flat in
    search rules

pub returns-in-None-clause-unmet : goal.returns-in-None-clause-unmet
returns-in-None-clause-unmet g c tree f by partition found flat =
    let of = c.args.found in
    let none : may_use of.children of.target.now ≡ 0 = (let none = ap set.len c.in-None.ensures.empty ∙ set.len-empty nat_cmp in omega arith) in
    let has = found_available tree f flat by (WithdrawMemory partition) of.need of.caller.now of.target.now of.children found in
    search rules
