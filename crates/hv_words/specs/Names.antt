-- The TLFS's names of calls and registers.
use Rattle.std.specs.Prelude.{ℕ, ◌==◌, List, [], ◌∷◌, Option, find, option_map, codes}
use Rattle.hv_abi.specs.declared.call_kind.CallKind.{CallKind}
use Rattle.hv_abi.specs.declared.call_kind.CallKind.TheVariants.{CreatePartition, InitializePartition}
use Rattle.hv_abi.specs.declared.call_kind.CallKind.TheVariants.{FinalizePartition, DeletePartition}
use Rattle.hv_abi.specs.declared.call_kind.CallKind.TheVariants.{GetPartitionProperty, SetPartitionProperty}
use Rattle.hv_abi.specs.declared.call_kind.CallKind.TheVariants.{GetPartitionId, GetNextChildPartition}
use Rattle.hv_abi.specs.declared.call_kind.CallKind.TheVariants.{DepositMemory, WithdrawMemory}
use Rattle.hv_abi.specs.declared.call_kind.CallKind.TheVariants.{GetMemoryBalance, CreateVp, DeleteVp}
use Rattle.hv_abi.specs.declared.call_kind.CallKind.TheVariants.{GetVpRegisters, SetVpRegisters, DeletePort}
use Rattle.hv_abi.specs.declared.call_kind.CallKind.TheVariants.{DisconnectPort, PostMessage, SignalEvent}
use Rattle.hv_abi.specs.declared.call_kind.CallKind.TheVariants.{CreatePort, ConnectPort}

-- the name of a call
abbrev pub call_name : CallKind → List ℕ
call_name CreatePartition = codes "HvCreatePartition"
call_name InitializePartition = codes "HvInitializePartition"
call_name FinalizePartition = codes "HvFinalizePartition"
call_name DeletePartition = codes "HvDeletePartition"
call_name GetPartitionProperty = codes "HvGetPartitionProperty"
call_name SetPartitionProperty = codes "HvSetPartitionProperty"
call_name GetPartitionId = codes "HvGetPartitionId"
call_name GetNextChildPartition = codes "HvGetNextChildPartition"
call_name DepositMemory = codes "HvDepositMemory"
call_name WithdrawMemory = codes "HvWithdrawMemory"
call_name GetMemoryBalance = codes "HvGetMemoryBalance"
call_name CreateVp = codes "HvCreateVp"
call_name DeleteVp = codes "HvDeleteVp"
call_name GetVpRegisters = codes "HvGetVpRegisters"
call_name SetVpRegisters = codes "HvSetVpRegisters"
call_name DeletePort = codes "HvDeletePort"
call_name DisconnectPort = codes "HvDisconnectPort"
call_name PostMessage = codes "HvPostMessage"
call_name SignalEvent = codes "HvSignalEvent"
call_name CreatePort = codes "HvCreatePort"
call_name ConnectPort = codes "HvConnectPort"

-- the registers by their numbers in a call, each with its name
abbrev pub register_names : List (ℕ × List ℕ)
register_names =
    (0x00090003, codes "VP_INDEX") ∷
    (0x000A0010, codes "SCONTROL") ∷
    (0x000A0011, codes "SVERSION") ∷
    (0x000A0012, codes "SIEFP") ∷
    (0x000A0013, codes "SIMP") ∷
    (0x000A0014, codes "EOM") ∷
    (0x00020000, codes "RAX") ∷
    (0x00020001, codes "RCX") ∷
    (0x00020002, codes "RDX") ∷
    (0x00020003, codes "RBX") ∷
    (0x00020004, codes "RSP") ∷
    (0x00020005, codes "RBP") ∷
    (0x00020006, codes "RSI") ∷
    (0x00020007, codes "RDI") ∷
    (0x00020008, codes "R8") ∷
    (0x00020009, codes "R9") ∷
    (0x0002000A, codes "R10") ∷
    (0x0002000B, codes "R11") ∷
    (0x0002000C, codes "R12") ∷
    (0x0002000D, codes "R13") ∷
    (0x0002000E, codes "R14") ∷
    (0x0002000F, codes "R15") ∷
    (0x00020010, codes "RIP") ∷
    (0x00020011, codes "RFLAGS") ∷
    (0x000A0000, codes "SINT0") ∷
    (0x000A0001, codes "SINT1") ∷
    (0x000A0002, codes "SINT2") ∷
    (0x000A0003, codes "SINT3") ∷
    (0x000A0004, codes "SINT4") ∷
    (0x000A0005, codes "SINT5") ∷
    (0x000A0006, codes "SINT6") ∷
    (0x000A0007, codes "SINT7") ∷
    (0x000A0008, codes "SINT8") ∷
    (0x000A0009, codes "SINT9") ∷
    (0x000A000A, codes "SINT10") ∷
    (0x000A000B, codes "SINT11") ∷
    (0x000A000C, codes "SINT12") ∷
    (0x000A000D, codes "SINT13") ∷
    (0x000A000E, codes "SINT14") ∷
    (0x000A000F, codes "SINT15") ∷
    []

-- the name of the register with this number in a call, if there is one
unfoldable pub register_name : ℕ → Option (List ℕ)
register_name number = option_map (λ row. row.1) (find (λ row. row.0 == number) register_names)
