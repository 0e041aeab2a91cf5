-- The calls' rows: each call's code, whether it is a rep call, whether it may be fast, and the lengths of
-- its lists.
use Rattle.std.specs.Prelude.{ℕ, ◌+◌, ◌*◌, ◌==◌, ◌&&◌, Bool, not, nat_le, Option, find}
use Rattle.hv_abi.specs.declared.call_kind.CallRow.{CallRow}
use Rattle.hv_abi.specs.declared.call_kind.TheConstants.{CREATE_PARTITION, INITIALIZE_PARTITION}
use Rattle.hv_abi.specs.declared.call_kind.TheConstants.{FINALIZE_PARTITION, DELETE_PARTITION}
use Rattle.hv_abi.specs.declared.call_kind.TheConstants.{GET_PARTITION_PROPERTY, SET_PARTITION_PROPERTY}
use Rattle.hv_abi.specs.declared.call_kind.TheConstants.{GET_PARTITION_ID, GET_NEXT_CHILD_PARTITION}
use Rattle.hv_abi.specs.declared.call_kind.TheConstants.{DEPOSIT_MEMORY, WITHDRAW_MEMORY, GET_MEMORY_BALANCE}
use Rattle.hv_abi.specs.declared.call_kind.TheConstants.{CREATE_VP, DELETE_VP, GET_VP_REGISTERS}
use Rattle.hv_abi.specs.declared.call_kind.TheConstants.{SET_VP_REGISTERS, DELETE_PORT, DISCONNECT_PORT}
use Rattle.hv_abi.specs.declared.call_kind.TheConstants.{POST_MESSAGE, SIGNAL_EVENT, CREATE_PORT}
use Rattle.hv_abi.specs.declared.call_kind.TheConstants.{CONNECT_PORT, ALL_CALLS}
use Rattle.hv_abi.specs.declared.call_kind.CallKind.{CallKind}
use Rattle.hv_abi.specs.declared.call_kind.CallKind.TheVariants.{CreatePartition, InitializePartition}
use Rattle.hv_abi.specs.declared.call_kind.CallKind.TheVariants.{FinalizePartition, DeletePartition}
use Rattle.hv_abi.specs.declared.call_kind.CallKind.TheVariants.{GetPartitionProperty, SetPartitionProperty}
use Rattle.hv_abi.specs.declared.call_kind.CallKind.TheVariants.{GetPartitionId, GetNextChildPartition}
use Rattle.hv_abi.specs.declared.call_kind.CallKind.TheVariants.{DepositMemory, WithdrawMemory}
use Rattle.hv_abi.specs.declared.call_kind.CallKind.TheVariants.{GetMemoryBalance, CreateVp, DeleteVp}
use Rattle.hv_abi.specs.declared.call_kind.CallKind.TheVariants.{GetVpRegisters, SetVpRegisters, DeletePort}
use Rattle.hv_abi.specs.declared.call_kind.CallKind.TheVariants.{DisconnectPort, PostMessage, SignalEvent}
use Rattle.hv_abi.specs.declared.call_kind.CallKind.TheVariants.{CreatePort, ConnectPort}

-- the row of a call in the table
abbrev pub row_of : CallKind → CallRow
row_of CreatePartition = CREATE_PARTITION
row_of InitializePartition = INITIALIZE_PARTITION
row_of FinalizePartition = FINALIZE_PARTITION
row_of DeletePartition = DELETE_PARTITION
row_of GetPartitionProperty = GET_PARTITION_PROPERTY
row_of SetPartitionProperty = SET_PARTITION_PROPERTY
row_of GetPartitionId = GET_PARTITION_ID
row_of GetNextChildPartition = GET_NEXT_CHILD_PARTITION
row_of DepositMemory = DEPOSIT_MEMORY
row_of WithdrawMemory = WITHDRAW_MEMORY
row_of GetMemoryBalance = GET_MEMORY_BALANCE
row_of CreateVp = CREATE_VP
row_of DeleteVp = DELETE_VP
row_of GetVpRegisters = GET_VP_REGISTERS
row_of SetVpRegisters = SET_VP_REGISTERS
row_of DeletePort = DELETE_PORT
row_of DisconnectPort = DISCONNECT_PORT
row_of PostMessage = POST_MESSAGE
row_of SignalEvent = SIGNAL_EVENT
row_of CreatePort = CREATE_PORT
row_of ConnectPort = CONNECT_PORT

-- the call with this code, if the profile has one
abbrev pub kind_of : ℕ → Option CallKind
kind_of code = find (λ kind. (row_of kind).code == code) ALL_CALLS

-- whether a call's input fits the two registers of a fast call: it is a simple call with at most 16 bytes of
-- input and no output
abbrev pub fits_registers : CallRow → Bool
fits_registers row = not row.rep && nat_le row.input 16 && (row.output == 0)

-- the length of the input list in bytes
abbrev pub input_len : CallRow → ℕ → ℕ
input_len row reps = row.input + row.input_element * reps

-- the length of the output list in bytes
abbrev pub output_len : CallRow → ℕ → ℕ
output_len row reps = row.output + row.output_element * reps
