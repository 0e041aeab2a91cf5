-- The policy of each call and of each access: a file per group, with a record per call or access.
use Rattle.hv_calls.specs.declared.call.Call.{Call}
use Rattle.hv_calls.specs.declared.call.Call.TheVariants.{CreatePartition, InitializePartition}
use Rattle.hv_calls.specs.declared.call.Call.TheVariants.{FinalizePartition, DeletePartition}
use Rattle.hv_calls.specs.declared.call.Call.TheVariants.{GetPartitionProperty, SetPartitionProperty}
use Rattle.hv_calls.specs.declared.call.Call.TheVariants.{GetPartitionId, GetNextChildPartition}
use Rattle.hv_calls.specs.declared.call.Call.TheVariants.{DepositMemory, WithdrawMemory, GetMemoryBalance}
use Rattle.hv_calls.specs.declared.call.Call.TheVariants.{CreateVp, DeleteVp, GetVpRegisters, SetVpRegisters}
use Rattle.hv_calls.specs.declared.call.Call.TheVariants.{DeletePort, DisconnectPort, PostMessage}
use Rattle.hv_calls.specs.declared.call.Call.TheVariants.{SignalEvent, CreatePort, ConnectPort}
use Rattle.hv_policy.specs.Policy.{AccessPolicy, CallPolicy}
use Rattle.hv_policy.specs.calls.Accesses as accesses
use Rattle.hv_policy.specs.calls.Memory as memory
use Rattle.hv_policy.specs.calls.Messages as messages
use Rattle.hv_policy.specs.calls.Partitions as partitions
use Rattle.hv_policy.specs.calls.Ports as ports
use Rattle.hv_policy.specs.calls.Processors as processors
use Rattle.hv_policy.specs.calls.Properties as properties
use Rattle.hv_policy.specs.declared.event.Action.{Action}
use Rattle.hv_policy.specs.declared.event.Action.TheVariants.{Hypercall, ReadMsr, WriteMsr, ReadSlot}
use Rattle.hv_policy.specs.declared.event.Action.TheVariants.{ClearSlot, ReadFlags, ClearFlag, TakeInterrupt}
pub mod Accesses
pub mod Memory
pub mod Messages
pub mod Partitions
pub mod Ports
pub mod Processors
pub mod Properties

abbrev pub policy_of : Call → CallPolicy
policy_of (CreatePartition flags) = partitions.create_partition flags
policy_of (InitializePartition id) = partitions.initialize_partition id
policy_of (FinalizePartition id) = partitions.finalize_partition id
policy_of (DeletePartition id) = partitions.delete_partition id
policy_of (GetPartitionProperty id code) = properties.get_partition_property id code
policy_of (SetPartitionProperty id code value) = properties.set_partition_property id code value
policy_of GetPartitionId = partitions.get_partition_id
policy_of (GetNextChildPartition id previous) = partitions.get_next_child_partition id previous
policy_of (DepositMemory id page) = memory.deposit_memory id page
policy_of (WithdrawMemory id) = memory.withdraw_memory id
policy_of (GetMemoryBalance id) = memory.get_memory_balance id
policy_of (CreateVp id vp) = processors.create_vp id vp
policy_of (DeleteVp id vp) = processors.delete_vp id vp
policy_of (GetVpRegisters id vp name) = processors.get_vp_registers id vp name
policy_of (SetVpRegisters id vp name value) = processors.set_vp_registers id vp name value
policy_of (DeletePort id port) = ports.delete_port id port
policy_of (DisconnectPort id connection) = ports.disconnect_port id connection
policy_of (PostMessage connection message_type payload) = messages.post_message connection message_type
    payload
policy_of (SignalEvent connection flag) = messages.signal_event connection flag
policy_of (CreatePort id port peer kind sint vp base count) = ports.create_port id port peer kind sint vp base
    count
policy_of (ConnectPort id connection port_id port kind) = ports.connect_port id connection port_id port kind

abbrev pub access_policy : {A : Type 0} → Action A → AccessPolicy
access_policy (Hypercall frame) = accesses.no_access
access_policy (ReadMsr msr) = accesses.read_msr msr
access_policy (WriteMsr msr value) = accesses.write_msr_to msr value
access_policy (ReadSlot sint) = accesses.read_slot sint
access_policy (ClearSlot sint) = accesses.clear_slot sint
access_policy (ReadFlags sint) = accesses.read_flags sint
access_policy (ClearFlag sint flag) = accesses.clear_flag sint flag
access_policy TakeInterrupt = accesses.take_interrupt
