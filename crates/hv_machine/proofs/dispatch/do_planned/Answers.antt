use Rattle.hv_machine.proofs.Plans.{fits_as, granted_as, planned_as}
use Rattle.hv_machine.proofs.dispatch.do_planned.Goals as goal

pub unreachable-requires : goal.unreachable-requires
unreachable-requires g c =
    (let left = planned_as c.in-CreatePartition.is c.args.tree.now c.args.caller c.args.plan c.requires.planned in c.in_default.not-Mask left.value left.is)

pub unreachable-requires-in_default-plan : goal.unreachable-requires-in_default-plan
unreachable-requires-in_default-plan g c =
    (let left = planned_as c.in-DeletePartition.is c.args.tree.now c.args.caller c.args.plan c.requires.planned in c.in_default-plan.not-Runs left.value left.is)

pub unreachable-requires-in_default-plan-2 : goal.unreachable-requires-in_default-plan-2
unreachable-requires-in_default-plan-2 g c =
    (let left = planned_as c.in-GetPartitionProperty.is c.args.tree.now c.args.caller c.args.plan c.requires.planned in c.in_default-plan-2.not-Value left.value left.is)

pub unreachable-requires-in_default-plan-3 : goal.unreachable-requires-in_default-plan-3
unreachable-requires-in_default-plan-3 g c =
    (let left = planned_as c.in-SetPartitionProperty.is c.args.tree.now c.args.caller c.args.plan c.requires.planned in c.in_default-plan-3.not-Setting left.value left.is)

pub unreachable-requires-in_default-plan-4 : goal.unreachable-requires-in_default-plan-4
unreachable-requires-in_default-plan-4 g c =
    (let left = planned_as c.in-WithdrawMemory.is c.args.tree.now c.args.caller c.args.plan c.requires.planned in c.in_default-plan-4.not-Page left.value left.is)

pub unreachable-requires-in_default-plan-5 : goal.unreachable-requires-in_default-plan-5
unreachable-requires-in_default-plan-5 g c =
    (let left = planned_as c.in-GetMemoryBalance.is c.args.tree.now c.args.caller c.args.plan c.requires.planned in c.in_default-plan-5.not-Balance left.value left.is)

pub unreachable-requires-in_default-plan-6 : goal.unreachable-requires-in_default-plan-6
unreachable-requires-in_default-plan-6 g c =
    (let left = planned_as c.in-GetVpRegisters.is c.args.tree.now c.args.caller c.args.plan c.requires.planned in c.in_default-plan-6.not-Value left.value left.is)

pub unreachable-requires-in_default-plan-7 : goal.unreachable-requires-in_default-plan-7
unreachable-requires-in_default-plan-7 g c =
    (let left = planned_as c.in-ConnectPort.is c.args.tree.now c.args.caller c.args.plan c.requires.planned in c.in_default-plan-7.not-Value left.value left.is)

pub unreachable-requires-in_default-plan-8 : goal.unreachable-requires-in_default-plan-8
unreachable-requires-in_default-plan-8 g c =
    (let left = planned_as c.in-PostMessage.is c.args.tree.now c.args.caller c.args.plan c.requires.planned in c.in_default-plan-8.not-Aim left.value left.is)

pub unreachable-requires-in_default-plan-9 : goal.unreachable-requires-in_default-plan-9
unreachable-requires-in_default-plan-9 g c =
    (let left = planned_as c.in-SignalEvent.is c.args.tree.now c.args.caller c.args.plan c.requires.planned in c.in_default-plan-9.not-Aim left.value left.is)

pub do_create_partition-requires-clause-may : goal.do_create_partition-requires-clause-may
do_create_partition-requires-clause-may g c =
    let start = fits_as (λ a b same. cc) (planned_as c.in-CreatePartition.is c.args.tree.now c.args.caller c.args.plan c.requires.planned) c.in-Mask.mask c.in-Mask.is in
    record {
      flags = c.in-CreatePartition.flags;
      granted = granted_as c.in-CreatePartition.is c.requires.granted;
      tree = c.requires.rows.0;
      named = c.requires.rows.1;
      creator = start.creator;
      there = start.there;
      restricted = start.restricted;
    }

pub do_delete_partition-requires : goal.do_delete_partition-requires
do_delete_partition-requires g c =
    let pages = fits_as (λ a b same. cc) (planned_as c.in-DeletePartition.is c.args.tree.now c.args.caller c.args.plan c.requires.planned) c.in-Runs.runs c.in-Runs.is in
    record { granted = granted_as c.in-DeletePartition.is c.requires.granted; gone = pages.gone; was = pages.was; counted = pages.counted }

pub do_withdraw-requires-clause-page : goal.do_withdraw-requires-clause-page
do_withdraw-requires-clause-page g c =
    let left = fits_as (λ a b same. cc) (planned_as c.in-WithdrawMemory.is c.args.tree.now c.args.caller c.args.plan c.requires.planned) c.in-Page.page c.in-Page.is in
    record { granted = granted_as c.in-WithdrawMemory.is c.requires.granted; lowest = left }

pub do_connect-requires : goal.do_connect-requires
do_connect-requires g c =
    let left = fits_as (λ a b same. cc) (planned_as c.in-ConnectPort.is c.args.tree.now c.args.caller c.args.plan c.requires.planned) c.in-Value-plan-2.born c.in-Value-plan-2.is in
    record { granted = granted_as c.in-ConnectPort.is c.requires.granted; birth = left }

pub do_post-requires : goal.do_post-requires
do_post-requires g c =
    let left = fits_as (λ a b same. cc) (planned_as c.in-PostMessage.is c.args.tree.now c.args.caller c.args.plan c.requires.planned) c.in-Aim.aimed c.in-Aim.is in
    record { granted = granted_as c.in-PostMessage.is c.requires.granted; aims = left }

pub do_signal-requires : goal.do_signal-requires
do_signal-requires g c =
    let left = fits_as (λ a b same. cc) (planned_as c.in-SignalEvent.is c.args.tree.now c.args.caller c.args.plan c.requires.planned) c.in-Aim-plan.aimed c.in-Aim-plan.is in
    record { granted = granted_as c.in-SignalEvent.is c.requires.granted; aims = left }

pub returns-in-Value : goal.returns-in-Value
returns-in-Value g c f flat next served =
    let left = fits_as (λ a b same. cc) (planned_as c.in-GetPartitionProperty.is c.args.tree.now c.args.caller c.args.plan c.requires.planned) c.in-Value.value c.in-Value.is in
    rw c.in-GetPartitionProperty.is (c.do_get_property.ensures c.args.tree.now f c.args.caller _ _ flat (left f flat))

pub returns-in-Value-plan : goal.returns-in-Value-plan
returns-in-Value-plan g c f flat next served =
    let left = fits_as (λ a b same. cc) (planned_as c.in-GetVpRegisters.is c.args.tree.now c.args.caller c.args.plan c.requires.planned) c.in-Value-plan.value c.in-Value-plan.is in
    rw c.in-GetVpRegisters.is (c.do_get_registers.ensures c.args.tree.now f c.args.caller _ _ _ flat (left f flat))

pub returns-in-Setting : goal.returns-in-Setting
returns-in-Setting g c f flat next served =
    let left = fits_as (λ a b same. cc) (planned_as c.in-SetPartitionProperty.is c.args.tree.now c.args.caller c.args.plan c.requires.planned) c.in-Setting.setting c.in-Setting.is in
    rw (c.in-SetPartitionProperty.is, c.requires.empty) (c.do_set_property.ensures f _ flat (left f flat))

pub returns-in-Balance : goal.returns-in-Balance
returns-in-Balance g c f flat next served =
    let has = fits_as (λ a b same. cc) (planned_as c.in-GetMemoryBalance.is c.args.tree.now c.args.caller c.args.plan c.requires.planned) c.in-Balance.balance c.in-Balance.is in
    rw c.in-GetMemoryBalance.is (c.do_balance.ensures c.args.tree.now f c.args.caller _ has.children has.need has.caller has.target has.found has.may_use has.uses flat)
