-- The calls with their parameters: where each parameter is in the call's block, and which are malformed by
-- themselves. A field is written as its offset and its size in bytes, little-endian; `element` is the offset
-- of a rep call's element. Bytes that no field covers are not read.
use Rattle.std.specs.Prelude.{ℕ, ◌+◌, ◌==◌, ◌&&◌, nat_le, nat_lt, Bool, true, if◌then◌else◌, List}
use Rattle.hv_abi.specs.declared.call_kind.CallKind.{CallKind}
use Rattle.hv_abi.specs.declared.call_kind.CallKind.TheVariants as kind
use Rattle.hv_defs.specs.Field.{field}
use Rattle.hv_defs.specs.declared.aim.Aim.{Aim}
use Rattle.hv_defs.specs.declared.aim.Aim.TheVariants.{One, Any}
use Rattle.hv_defs.specs.declared.port_kind.PortKind.{PortKind}
use Rattle.hv_defs.specs.declared.port_kind.PortKind.TheVariants.{Message, Event}
use Rattle.hv_defs.specs.declared.sizes.TheConstants.{ANY_VP, MAX_PAYLOAD, SINTS}
use Rattle.hv_calls.specs.Bytes.{bytes_at}
use Rattle.hv_calls.specs.Fields.{are_flags, is_id, is_message_type, is_port_type}
use Rattle.hv_calls.specs.declared.call.Call.{Call}
use Rattle.hv_calls.specs.declared.call.Call.TheVariants.{CreatePartition, InitializePartition}
use Rattle.hv_calls.specs.declared.call.Call.TheVariants.{FinalizePartition, DeletePartition}
use Rattle.hv_calls.specs.declared.call.Call.TheVariants.{GetPartitionProperty, SetPartitionProperty}
use Rattle.hv_calls.specs.declared.call.Call.TheVariants.{GetPartitionId, GetNextChildPartition}
use Rattle.hv_calls.specs.declared.call.Call.TheVariants.{DepositMemory, WithdrawMemory, GetMemoryBalance}
use Rattle.hv_calls.specs.declared.call.Call.TheVariants.{CreateVp, DeleteVp, GetVpRegisters, SetVpRegisters}
use Rattle.hv_calls.specs.declared.call.Call.TheVariants.{DeletePort, DisconnectPort, PostMessage}
use Rattle.hv_calls.specs.declared.call.Call.TheVariants.{SignalEvent, CreatePort, ConnectPort}

-- what a port of this PortType takes: 1 is messages, 2 event flags, and every other number is malformed
abbrev pub port_kind : ℕ → PortKind
port_kind type = if type == 2 then Event else Message

-- the aim of a port with this TargetVp: all ones is any processor, every other number the index of one
abbrev pub port_aim : ℕ → Aim
port_aim target = if target == ANY_VP then Any else One target

-- a call's block: the call with the parameters in a block, and whether each is well formed by itself
pub record Block : Type 0 where
  pub call : List ℕ → ℕ → Call
  pub fits : List ℕ → ℕ → Bool

-- a block in which no parameter is malformed by itself
abbrev unchecked : (List ℕ → ℕ → Call) → Block
unchecked call = record { call = call; fits = λ block element. true }

-- a block in which some may be
abbrev checked : (List ℕ → ℕ → Call) → (List ℕ → ℕ → Bool) → Block
checked call fits = record { call = call; fits = fits }

abbrev pub block_of : CallKind → Block
-- Flags
block_of kind.CreatePartition = unchecked (λ block element. CreatePartition (field block 0 8))
-- PartitionId
block_of kind.InitializePartition = unchecked (λ block element. InitializePartition (field block 0 8))
block_of kind.FinalizePartition = unchecked (λ block element. FinalizePartition (field block 0 8))
block_of kind.DeletePartition = unchecked (λ block element. DeletePartition (field block 0 8))
-- PartitionId, PropertyCode, and PropertyValue
block_of kind.GetPartitionProperty = unchecked (λ block element. GetPartitionProperty (field block 0 8)
    (field block 8 4))
block_of kind.SetPartitionProperty = unchecked (λ block element. SetPartitionProperty (field block 0 8)
    (field block 8 4) (field block 16 8))
-- no input
block_of kind.GetPartitionId = unchecked (λ block element. GetPartitionId)
-- ParentId, PreviousChildId
block_of kind.GetNextChildPartition = unchecked (λ block element. GetNextChildPartition (field block 0 8)
    (field block 8 8))
-- PartitionId; in the element the page number
block_of kind.DepositMemory = unchecked (λ block element. DepositMemory (field block 0 8)
    (field block element 8))
-- PartitionId
block_of kind.WithdrawMemory = unchecked (λ block element. WithdrawMemory (field block 0 8))
block_of kind.GetMemoryBalance = unchecked (λ block element. GetMemoryBalance (field block 0 8))
-- PartitionId, VpIndex
block_of kind.CreateVp = unchecked (λ block element. CreateVp (field block 0 8) (field block 8 4))
block_of kind.DeleteVp = unchecked (λ block element. DeleteVp (field block 0 8) (field block 8 4))
-- PartitionId, VpIndex; in the element the register's name, and the lower half of its value, whose upper half
-- is zero
block_of kind.GetVpRegisters = unchecked (λ block element. GetVpRegisters (field block 0 8) (field block 8 4)
    (field block element 4))
block_of kind.SetVpRegisters = checked
    (λ block element. SetVpRegisters (field block 0 8) (field block 8 4) (field block element 4)
    (field block (element + 16) 8))
    (λ block element. field block (element + 24) 8 == 0)
-- PartitionId, PortId
block_of kind.DeletePort = checked
    (λ block element. DeletePort (field block 0 8) (field block 8 4))
    (λ block element. is_id (field block 8 4))
-- PartitionId, ConnectionId
block_of kind.DisconnectPort = checked
    (λ block element. DisconnectPort (field block 0 8) (field block 8 4))
    (λ block element. is_id (field block 8 4))
-- ConnectionId, MessageType; PayloadSize bytes of the payload
block_of kind.PostMessage = checked
    (λ block element. PostMessage (field block 0 4) (field block 8 4) (bytes_at block 16 (field block 12 4)))
    (λ block element. is_id (field block 0 4) && is_message_type (field block 8 4) && nat_le
    (field block 12 4) MAX_PAYLOAD)
-- ConnectionId, FlagNumber
block_of kind.SignalEvent = checked
    (λ block element. SignalEvent (field block 0 4) (field block 4 2))
    (λ block element. is_id (field block 0 4))
-- PortPartition, PortId, ConnectionPartition, PortType, TargetSint, TargetVp, BaseFlagNumber, FlagCount
block_of kind.CreatePort = checked
    (λ block element. CreatePort (field block 0 8) (field block 8 4) (field block 16 8)
    (port_kind (field block 24 4))
    (field block 32 4) (port_aim (field block 36 4)) (field block 40 2) (field block 42 2))
    (λ block element. is_id (field block 8 4) && is_port_type (field block 24 4) && nat_lt (field block 32 4)
    SINTS
    && are_flags (field block 24 4) (field block 40 2) (field block 42 2))
-- ConnectionPartition, ConnectionId, PortPartition, PortId, PortType
block_of kind.ConnectPort = checked
    (λ block element. ConnectPort (field block 0 8) (field block 8 4) (field block 16 8) (field block 24 4)
    (port_kind (field block 32 4)))
    (λ block element. is_id (field block 8 4) && is_id (field block 24 4) && is_port_type (field block 32 4))

abbrev pub call_in : CallKind → List ℕ → ℕ → Call
call_in kind block element = (block_of kind).call block element

-- whether no parameter of a call is malformed by itself
abbrev pub are_well_formed : CallKind → List ℕ → ℕ → Bool
are_well_formed kind block element = (block_of kind).fits block element

-- a call without its parameters
abbrev pub kind_of_call : Call → CallKind
kind_of_call (CreatePartition flags) = kind.CreatePartition
kind_of_call (InitializePartition partition) = kind.InitializePartition
kind_of_call (FinalizePartition partition) = kind.FinalizePartition
kind_of_call (DeletePartition partition) = kind.DeletePartition
kind_of_call (GetPartitionProperty partition code) = kind.GetPartitionProperty
kind_of_call (SetPartitionProperty partition code value) = kind.SetPartitionProperty
kind_of_call GetPartitionId = kind.GetPartitionId
kind_of_call (GetNextChildPartition partition previous) = kind.GetNextChildPartition
kind_of_call (DepositMemory partition page) = kind.DepositMemory
kind_of_call (WithdrawMemory partition) = kind.WithdrawMemory
kind_of_call (GetMemoryBalance partition) = kind.GetMemoryBalance
kind_of_call (CreateVp partition vp) = kind.CreateVp
kind_of_call (DeleteVp partition vp) = kind.DeleteVp
kind_of_call (GetVpRegisters partition vp name) = kind.GetVpRegisters
kind_of_call (SetVpRegisters partition vp name value) = kind.SetVpRegisters
kind_of_call (DeletePort partition port) = kind.DeletePort
kind_of_call (DisconnectPort partition connection) = kind.DisconnectPort
kind_of_call (PostMessage connection message_type payload) = kind.PostMessage
kind_of_call (SignalEvent connection flag) = kind.SignalEvent
kind_of_call (CreatePort partition port peer port_kind sint vp base count) = kind.CreatePort
kind_of_call (ConnectPort partition connection port_partition port port_kind) = kind.ConnectPort
