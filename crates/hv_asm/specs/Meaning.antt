-- What a line by names asks for: the call of `hv_calls` with the fields that the line gives.
use Rattle.std.specs.Prelude.{◌≡◌, ℕ, List, [], ◌∷◌, codes, Bool, false, Result, Ok, Err, Some, if◌then◌else◌}
use Rattle.std.specs.Str.{bytes_eq}
use Rattle.hv_abi.specs.Check.{is_fast}
use Rattle.hv_abi.specs.declared.call_kind.CallKind.{CallKind}
use Rattle.hv_abi.specs.declared.call_kind.CallKind.TheVariants as kind
use Rattle.hv_abi.specs.declared.frame.Frame.{Frame}
use Rattle.hv_calls.specs.Bytes.{bytes_at}
use Rattle.hv_calls.specs.Call.{port_aim, port_kind}
use Rattle.hv_calls.specs.declared.call.Call.{Call}
use Rattle.hv_calls.specs.declared.call.Call.TheVariants.{CreatePartition, InitializePartition}
use Rattle.hv_calls.specs.declared.call.Call.TheVariants.{FinalizePartition, DeletePartition}
use Rattle.hv_calls.specs.declared.call.Call.TheVariants.{GetPartitionProperty, SetPartitionProperty}
use Rattle.hv_calls.specs.declared.call.Call.TheVariants.{GetPartitionId, GetNextChildPartition}
use Rattle.hv_calls.specs.declared.call.Call.TheVariants.{DepositMemory, WithdrawMemory, GetMemoryBalance}
use Rattle.hv_calls.specs.declared.call.Call.TheVariants.{CreateVp, DeleteVp, GetVpRegisters, SetVpRegisters}
use Rattle.hv_calls.specs.declared.call.Call.TheVariants.{DeletePort, DisconnectPort, PostMessage}
use Rattle.hv_calls.specs.declared.call.Call.TheVariants.{SignalEvent, CreatePort, ConnectPort}
use Rattle.hv_policy.specs.Call.{called}
use Rattle.hv_script.specs.Words.{word_at}
use Rattle.hv_asm.specs.List.{elements_of, part_bytes}
use Rattle.hv_asm.specs.Names.{register_of}
use Rattle.hv_asm.specs.Values.{field_value, name_in, numeral, option_value, value_in}
use Rattle.hv_asm.specs.declared.fault.AsmFault.{AsmFault}
use Rattle.hv_asm.specs.declared.field.Field.{Field}
use Rattle.hv_asm.specs.declared.field.Field.TheVariants.{PartitionId, Flags, PropertyCode, PropertyValue}
use Rattle.hv_asm.specs.declared.field.Field.TheVariants.{ParentId, PreviousChildId, VpIndex, PortId}
use Rattle.hv_asm.specs.declared.field.Field.TheVariants.{ConnectionId, MessageType, PayloadSize, FlagNumber}
use Rattle.hv_asm.specs.declared.field.Field.TheVariants.{PortPartition, ConnectionPartition, PortType}
use Rattle.hv_asm.specs.declared.field.Field.TheVariants.{TargetSint, TargetVp, BaseFlagNumber, FlagCount}
use Rattle.hv_asm.specs.declared.field.Part.TheVariants.{Payload}

-- a number that is read, 0 where it isn't
abbrev pub or_zero : Result ℕ AsmFault → ℕ
or_zero (Ok number) = number
or_zero (Err fault) = 0

-- bytes that are read, none where they aren't
abbrev pub or_none : Result (List ℕ) AsmFault → List ℕ
or_none (Ok bytes) = bytes
or_none (Err fault) = []

-- the value that words give to a field
abbrev pub the : List (List ℕ) → Field → ℕ
the words field = or_zero (field_value field words)

-- the call with the fields that words give, and with this word for its element
abbrev pub call_with : CallKind → List (List ℕ) → List ℕ → Call
call_with kind.CreatePartition words element = CreatePartition (the words Flags)
call_with kind.InitializePartition words element = InitializePartition (the words PartitionId)
call_with kind.FinalizePartition words element = FinalizePartition (the words PartitionId)
call_with kind.DeletePartition words element = DeletePartition (the words PartitionId)
call_with kind.GetPartitionProperty words element = GetPartitionProperty (the words PartitionId)
    (the words PropertyCode)
call_with kind.SetPartitionProperty words element = SetPartitionProperty (the words PartitionId)
    (the words PropertyCode) (the words PropertyValue)
call_with kind.GetPartitionId words element = GetPartitionId
call_with kind.GetNextChildPartition words element = GetNextChildPartition (the words ParentId)
    (the words PreviousChildId)
call_with kind.DepositMemory words element = DepositMemory (the words PartitionId)
    (or_zero (numeral 64 element))
call_with kind.WithdrawMemory words element = WithdrawMemory (the words PartitionId)
call_with kind.GetMemoryBalance words element = GetMemoryBalance (the words PartitionId)
call_with kind.CreateVp words element = CreateVp (the words PartitionId) (the words VpIndex)
call_with kind.DeleteVp words element = DeleteVp (the words PartitionId) (the words VpIndex)
call_with kind.GetVpRegisters words element = GetVpRegisters (the words PartitionId) (the words VpIndex)
    (or_zero (register_of element))
call_with kind.SetVpRegisters words element = SetVpRegisters (the words PartitionId) (the words VpIndex)
    (or_zero (register_of (name_in element))) (or_zero (numeral 64 (value_in element)))
call_with kind.DeletePort words element = DeletePort (the words PartitionId) (the words PortId)
call_with kind.DisconnectPort words element = DisconnectPort (the words PartitionId) (the words ConnectionId)
call_with kind.PostMessage words element = PostMessage (the words ConnectionId) (the words MessageType)
    (bytes_at (or_none (part_bytes words Payload)) 0 (the words PayloadSize))
call_with kind.SignalEvent words element = SignalEvent (the words ConnectionId) (the words FlagNumber)
call_with kind.CreatePort words element = CreatePort (the words PortPartition) (the words PortId)
    (the words ConnectionPartition) (port_kind (the words PortType)) (the words TargetSint)
    (port_aim (the words TargetVp)) (the words BaseFlagNumber) (the words FlagCount)
call_with kind.ConnectPort words element = ConnectPort (the words ConnectionPartition)
    (the words ConnectionId) (the words PortPartition) (the words PortId) (port_kind (the words PortType))

-- whether the words behind a call's name begin with `fast`, and the words behind that
abbrev pub begins_fast : List (List ℕ) → Bool
begins_fast [] = false
begins_fast (word ∷ words) = bytes_eq word (codes "fast")

abbrev pub fields_in : List (List ℕ) → List (List ℕ)
fields_in [] = []
fields_in (word ∷ words) = if bytes_eq word (codes "fast") then words else word ∷ words

-- the element at the start index that words give
abbrev pub element_in : CallKind → Bool → List (List ℕ) → List ℕ
element_in call fast words = word_at (elements_of call fast words)
    (or_zero (option_value (codes "start") 0 words))

-- a frame holds the call that the words behind a name ask for
pub record Holds {A : Type 0} (frame : Frame A) (kind : CallKind) (words : List (List ℕ)) : Type 0 where
  pub fast : is_fast frame.rcx ≡ begins_fast words
  pub call : called frame ≡ Some (call_with kind (fields_in words) (element_in kind (begins_fast words)
      (fields_in words)))
