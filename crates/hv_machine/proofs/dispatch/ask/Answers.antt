use Rattle.std.proofs.Common.{refl, sym, ap, rules}
use Rattle.std.proofs.lemmas.Result.{err_from_is_err_and}
use Rattle.hv_partition_calls.proofs.Needs.{few_pages}
use Rattle.hv_admit.specs.Served.{unmet_further}
use Rattle.hv_machine.proofs.Plans.{found_as}
use Rattle.hv_machine.proofs.dispatch.ask.Goals as goal

pub returns-in_err-ask_create_partition-in-CreatePartition-clause-unmet : goal.returns-in_err-ask_create_partition-in-CreatePartition-clause-unmet
returns-in_err-ask_create_partition-in-CreatePartition-clause-unmet g c f flat =
    let (_, is, gives) = err_from_is_err_and c.from_residual.result c.from_residual.ensures.1 in
    rw (is, gives, c.in-CreatePartition.is) (c.in_err-ask_create_partition-in-CreatePartition.ensures.unmet f c.in-CreatePartition.flags (found_as c.in-CreatePartition.is c.requires.found) flat)

pub returns-in_ok-ask_create_partition-in-CreatePartition-clause-unmet : goal.returns-in_ok-ask_create_partition-in-CreatePartition-clause-unmet
returns-in_ok-ask_create_partition-in-CreatePartition-clause-unmet g c f flat =
    rw c.in-CreatePartition.is (c.in_ok-ask_create_partition-in-CreatePartition.ensures.unmet f c.in-CreatePartition.flags (found_as c.in-CreatePartition.is c.requires.found) flat)

pub returns-in_err-ask_get_property-in-GetPartitionProperty-clause-unmet : goal.returns-in_err-ask_get_property-in-GetPartitionProperty-clause-unmet
returns-in_err-ask_get_property-in-GetPartitionProperty-clause-unmet g c f flat =
    let (_, is, gives) = err_from_is_err_and c.from_residual-in_err-ask_get_property-in-GetPartitionProperty.result c.from_residual-in_err-ask_get_property-in-GetPartitionProperty.ensures.1 in
    rw (is, gives, c.in-GetPartitionProperty.is) (c.in_err-ask_get_property-in-GetPartitionProperty.ensures.unmet f c.args.by c.in-GetPartitionProperty.partition)

pub returns-in_ok-ask_get_property-in-GetPartitionProperty-clause-unmet : goal.returns-in_ok-ask_get_property-in-GetPartitionProperty-clause-unmet
returns-in_ok-ask_get_property-in-GetPartitionProperty-clause-unmet g c f flat =
    rw c.in-GetPartitionProperty.is (c.in_ok-ask_get_property-in-GetPartitionProperty.ensures.unmet f c.args.by c.in-GetPartitionProperty.partition)

pub returns-in_err-ask_withdraw-in-WithdrawMemory-clause-unmet : goal.returns-in_err-ask_withdraw-in-WithdrawMemory-clause-unmet
returns-in_err-ask_withdraw-in-WithdrawMemory-clause-unmet g c f flat =
    let here = found_as c.in-WithdrawMemory.is c.requires.found in
    let (_, is, gives) = err_from_is_err_and c.from_residual-in_err-ask_withdraw-in-WithdrawMemory.result c.from_residual-in_err-ask_withdraw-in-WithdrawMemory.ensures.1 in
    rw (is, gives, c.in-WithdrawMemory.is) (c.in_err-ask_withdraw-in-WithdrawMemory.ensures.unmet c.args.tree.now f c.args.by c.in-WithdrawMemory.partition here flat)

pub returns-in_ok-ask_withdraw-in-WithdrawMemory-clause-unmet : goal.returns-in_ok-ask_withdraw-in-WithdrawMemory-clause-unmet
returns-in_ok-ask_withdraw-in-WithdrawMemory-clause-unmet g c f flat =
    rw c.in-WithdrawMemory.is (c.in_ok-ask_withdraw-in-WithdrawMemory.ensures.unmet c.args.tree.now f c.args.by c.in-WithdrawMemory.partition (found_as c.in-WithdrawMemory.is c.requires.found) flat)

pub returns-in_err-ask_connect-in-ConnectPort-clause-unmet : goal.returns-in_err-ask_connect-in-ConnectPort-clause-unmet
returns-in_err-ask_connect-in-ConnectPort-clause-unmet g c f flat =
    let (_, is, gives) = err_from_is_err_and c.from_residual-in_err-ask_connect-in-ConnectPort.result c.from_residual-in_err-ask_connect-in-ConnectPort.ensures.1 in
    rw (is, gives, c.in-ConnectPort.is) (c.in_err-ask_connect-in-ConnectPort.ensures.unmet f (found_as c.in-ConnectPort.is c.requires.found) flat)

pub returns-in_ok-ask_connect-in-ConnectPort-clause-unmet : goal.returns-in_ok-ask_connect-in-ConnectPort-clause-unmet
returns-in_ok-ask_connect-in-ConnectPort-clause-unmet g c f flat =
    rw c.in-ConnectPort.is (c.in_ok-ask_connect-in-ConnectPort.ensures.unmet f (found_as c.in-ConnectPort.is c.requires.found) flat)

pub returns-in_err-ask_post-in-PostMessage-clause-unmet : goal.returns-in_err-ask_post-in-PostMessage-clause-unmet
returns-in_err-ask_post-in-PostMessage-clause-unmet g c f flat =
    let (_, is, gives) = err_from_is_err_and c.from_residual-in_err-ask_post-in-PostMessage.result c.from_residual-in_err-ask_post-in-PostMessage.ensures.1 in
    let unmet = c.in_err-ask_post-in-PostMessage.ensures.unmet f c.args.by c.in-PostMessage.message_type c.in-PostMessage.payload c.requires.found.calls c.requires.rows flat in
    rw (is, gives, c.in-PostMessage.is) (sym unmet)

pub returns-in_ok-ask_post-in-PostMessage-clause-unmet : goal.returns-in_ok-ask_post-in-PostMessage-clause-unmet
returns-in_ok-ask_post-in-PostMessage-clause-unmet g c f flat =
    rw c.in-PostMessage.is (sym (c.in_ok-ask_post-in-PostMessage.ensures.aimed f c.args.by c.in-PostMessage.message_type c.in-PostMessage.payload c.requires.found.calls c.requires.rows flat).0)

pub ask_delete_partition-requires : goal.ask_delete_partition-requires
ask_delete_partition-requires g c =
    few_pages c.args.tree.now c.requires.rows _ _ c.requires.found.named

pub returns-in_ok-ask_create_partition-in-CreatePartition-clause-planned : goal.returns-in_ok-ask_create_partition-in-CreatePartition-clause-planned
returns-in_ok-ask_create_partition-in-CreatePartition-clause-planned g c =
    let here = found_as c.in-CreatePartition.is c.requires.found in
    rw c.in-CreatePartition.is (record {
      value = c.in_ok-ask_create_partition-in-CreatePartition.field-0;
      is = refl;
      fits = record { creator = _; there = here.named; restricted = c.in_ok-ask_create_partition-in-CreatePartition.ensures.mask };
    })

pub returns-in_ok-ask_delete_partition-in-DeletePartition-clause-planned : goal.returns-in_ok-ask_delete_partition-in-DeletePartition-clause-planned
returns-in_ok-ask_delete_partition-in-DeletePartition-clause-planned g c =
    let here = found_as c.in-DeletePartition.is c.requires.found in
    rw c.in-DeletePartition.is (record {
      value = c.in_ok-ask_delete_partition-in-DeletePartition.field-0;
      is = refl;
      fits = record { gone = _; was = here.named; counted = c.in_ok-ask_delete_partition-in-DeletePartition.ensures.runs };
    })

pub returns-in_ok-ask_get_property-in-GetPartitionProperty-clause-planned : goal.returns-in_ok-ask_get_property-in-GetPartitionProperty-clause-planned
returns-in_ok-ask_get_property-in-GetPartitionProperty-clause-planned g c =
    let here = found_as c.in-GetPartitionProperty.is c.requires.found in
    rw c.in-GetPartitionProperty.is (record {
      value = c.in_ok-ask_get_property-in-GetPartitionProperty.field-0;
      is = refl;
      fits = λ f flat. c.in_ok-ask_get_property-in-GetPartitionProperty.ensures.value c.args.tree.now f c.args.by c.in-GetPartitionProperty.partition here flat;
    })

pub returns-in_ok-ask_set_property-in-SetPartitionProperty-clause-planned : goal.returns-in_ok-ask_set_property-in-SetPartitionProperty-clause-planned
returns-in_ok-ask_set_property-in-SetPartitionProperty-clause-planned g c =
    let here = found_as c.in-SetPartitionProperty.is c.requires.found in
    rw c.in-SetPartitionProperty.is (record {
      value = c.in_ok-ask_set_property-in-SetPartitionProperty.field-0;
      is = refl;
      fits = λ f flat. c.in_ok-ask_set_property-in-SetPartitionProperty.ensures.setting c.args.tree.now f c.args.by c.in-SetPartitionProperty.partition here flat;
    })

pub returns-in_ok-ask_withdraw-in-WithdrawMemory-clause-planned : goal.returns-in_ok-ask_withdraw-in-WithdrawMemory-clause-planned
returns-in_ok-ask_withdraw-in-WithdrawMemory-clause-planned g c =
    let here = found_as c.in-WithdrawMemory.is c.requires.found in
    rw c.in-WithdrawMemory.is (record {
      value = c.in_ok-ask_withdraw-in-WithdrawMemory.field-0;
      is = refl;
      fits = λ f flat. c.in_ok-ask_withdraw-in-WithdrawMemory.ensures.page c.args.tree.now f c.args.by c.in-WithdrawMemory.partition here flat;
    })

pub returns-in_ok-ask_get_registers-in-GetVpRegisters-clause-planned : goal.returns-in_ok-ask_get_registers-in-GetVpRegisters-clause-planned
returns-in_ok-ask_get_registers-in-GetVpRegisters-clause-planned g c =
    let here = found_as c.in-GetVpRegisters.is c.requires.found in
    rw c.in-GetVpRegisters.is (record {
      value = c.in_ok-ask_get_registers-in-GetVpRegisters.field-0;
      is = refl;
      fits = λ f flat. c.in_ok-ask_get_registers-in-GetVpRegisters.ensures.value c.args.tree.now f c.args.by c.in-GetVpRegisters.partition here flat;
    })

pub returns-in_ok-ask_connect-in-ConnectPort-clause-planned : goal.returns-in_ok-ask_connect-in-ConnectPort-clause-planned
returns-in_ok-ask_connect-in-ConnectPort-clause-planned g c =
    let here = found_as c.in-ConnectPort.is c.requires.found in
    rw c.in-ConnectPort.is (record { value = c.in_ok-ask_connect-in-ConnectPort.field-0; is = refl; fits = λ f flat. c.in_ok-ask_connect-in-ConnectPort.ensures.born f here flat })

pub returns-in_ok-ask_post-in-PostMessage-clause-planned : goal.returns-in_ok-ask_post-in-PostMessage-clause-planned
returns-in_ok-ask_post-in-PostMessage-clause-planned g c =
    rw c.in-PostMessage.is (record {
      value = c.in_ok-ask_post-in-PostMessage.field-0;
      is = refl;
      fits = λ f flat. (c.in_ok-ask_post-in-PostMessage.ensures.aimed f c.args.by c.in-PostMessage.message_type c.in-PostMessage.payload c.requires.found.calls c.requires.rows flat).1;
    })

pub returns-in_ok-ask_signal-in-SignalEvent-clause-planned : goal.returns-in_ok-ask_signal-in-SignalEvent-clause-planned
returns-in_ok-ask_signal-in-SignalEvent-clause-planned g c =
    rw c.in-SignalEvent.is (record {
      value = c.in_ok-ask_signal-in-SignalEvent.field-0;
      is = refl;
      fits = λ f flat. (c.in_ok-ask_signal-in-SignalEvent.ensures.aimed f c.args.by c.requires.found.calls flat).1;
    })

pub returns-in-GetMemoryBalance-clause-planned : goal.returns-in-GetMemoryBalance-clause-planned
returns-in-GetMemoryBalance-clause-planned g c =
    let here = found_as c.in-GetMemoryBalance.is c.requires.found in
    rw c.in-GetMemoryBalance.is (record {
      value = c.balance_of.result;
      is = refl;
      fits = record { need = _; caller = _; target = _; children = _; found = here; may_use = c.balance_of.ensures.available; uses = c.balance_of.ensures.in_use };
    })

pub returns-in-CreateVp-clause-unmet : goal.returns-in-CreateVp-clause-unmet
returns-in-CreateVp-clause-unmet g c f flat =
    let asked = c.ask_create_vp.ensures c.args.tree.now f c.args.by c.in-CreateVp.partition (found_as c.in-CreateVp.is c.requires.found) flat in
    let step = ap (unmet_further f c.args.by) c.in-CreateVp.is in
    search rules

pub returns-in-CreatePort-clause-unmet : goal.returns-in-CreatePort-clause-unmet
returns-in-CreatePort-clause-unmet g c f flat =
    let asked = c.ask_create_port.ensures f c.in-CreatePort.partition (found_as c.in-CreatePort.is c.requires.found) flat in
    let step = ap (unmet_further f c.args.by) c.in-CreatePort.is in
    search rules
