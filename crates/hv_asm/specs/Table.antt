-- The fields of the calls' input lists: their names, their sizes, and the parts of each list.
use Rattle.std.specs.Prelude.{ℕ, List, [], ◌∷◌, codes}
use Rattle.hv_abi.specs.declared.call_kind.CallKind.{CallKind}
use Rattle.hv_abi.specs.declared.call_kind.CallKind.TheVariants as kind
use Rattle.hv_asm.specs.declared.field.Field.{Field as TheField}
use Rattle.hv_asm.specs.declared.field.Field.TheVariants as field
use Rattle.hv_asm.specs.declared.field.Part.{Part}
use Rattle.hv_asm.specs.declared.field.Part.TheVariants.{Field, Unused, Payload}

-- the TLFS's name of a field
abbrev pub field_name : TheField → List ℕ
field_name field.PartitionId = codes "PartitionId"
field_name field.Flags = codes "Flags"
field_name field.PropertyCode = codes "PropertyCode"
field_name field.PropertyValue = codes "PropertyValue"
field_name field.ParentId = codes "ParentId"
field_name field.PreviousChildId = codes "PreviousChildId"
field_name field.VpIndex = codes "VpIndex"
field_name field.PortId = codes "PortId"
field_name field.ConnectionId = codes "ConnectionId"
field_name field.MessageType = codes "MessageType"
field_name field.PayloadSize = codes "PayloadSize"
field_name field.FlagNumber = codes "FlagNumber"
field_name field.PortPartition = codes "PortPartition"
field_name field.ConnectionPartition = codes "ConnectionPartition"
field_name field.PortType = codes "PortType"
field_name field.TargetSint = codes "TargetSint"
field_name field.TargetVp = codes "TargetVp"
field_name field.BaseFlagNumber = codes "BaseFlagNumber"
field_name field.FlagCount = codes "FlagCount"

-- the size of a field in bytes
abbrev pub size_of : TheField → ℕ
size_of field.PartitionId = 8
size_of field.Flags = 8
size_of field.PropertyCode = 4
size_of field.PropertyValue = 8
size_of field.ParentId = 8
size_of field.PreviousChildId = 8
size_of field.VpIndex = 4
size_of field.PortId = 4
size_of field.ConnectionId = 4
size_of field.MessageType = 4
size_of field.PayloadSize = 4
size_of field.FlagNumber = 2
size_of field.PortPartition = 8
size_of field.ConnectionPartition = 8
size_of field.PortType = 4
size_of field.TargetSint = 4
size_of field.TargetVp = 4
size_of field.BaseFlagNumber = 2
size_of field.FlagCount = 2

-- the parts of a call's input list without its elements, in order
abbrev pub parts_of : CallKind → List Part
parts_of kind.CreatePartition = Field field.Flags ∷ []
parts_of kind.InitializePartition = Field field.PartitionId ∷ []
parts_of kind.FinalizePartition = Field field.PartitionId ∷ []
parts_of kind.DeletePartition = Field field.PartitionId ∷ []
parts_of kind.GetPartitionProperty = Field field.PartitionId ∷ Field field.PropertyCode ∷ Unused 4 ∷ []
parts_of kind.SetPartitionProperty = Field field.PartitionId ∷ Field field.PropertyCode ∷ Unused 4 ∷
    Field field.PropertyValue ∷ []
parts_of kind.GetPartitionId = []
parts_of kind.GetNextChildPartition = Field field.ParentId ∷ Field field.PreviousChildId ∷ []
parts_of kind.DepositMemory = Field field.PartitionId ∷ []
parts_of kind.WithdrawMemory = Field field.PartitionId ∷ []
parts_of kind.GetMemoryBalance = Field field.PartitionId ∷ []
parts_of kind.CreateVp = Field field.PartitionId ∷ Field field.VpIndex ∷ Unused 4 ∷ []
parts_of kind.DeleteVp = Field field.PartitionId ∷ Field field.VpIndex ∷ Unused 4 ∷ []
parts_of kind.GetVpRegisters = Field field.PartitionId ∷ Field field.VpIndex ∷ Unused 4 ∷ []
parts_of kind.SetVpRegisters = Field field.PartitionId ∷ Field field.VpIndex ∷ Unused 4 ∷ []
parts_of kind.DeletePort = Field field.PartitionId ∷ Field field.PortId ∷ Unused 4 ∷ []
parts_of kind.DisconnectPort = Field field.PartitionId ∷ Field field.ConnectionId ∷ Unused 4 ∷ []
parts_of kind.PostMessage = Field field.ConnectionId ∷ Unused 4 ∷ Field field.MessageType ∷
    Field field.PayloadSize ∷ Payload ∷ []
parts_of kind.SignalEvent = Field field.ConnectionId ∷ Field field.FlagNumber ∷ Unused 2 ∷ []
parts_of kind.CreatePort = Field field.PortPartition ∷ Field field.PortId ∷ Unused 4 ∷
    Field field.ConnectionPartition ∷ Field field.PortType ∷ Unused 4 ∷ Field field.TargetSint ∷
    Field field.TargetVp ∷ Field field.BaseFlagNumber ∷ Field field.FlagCount ∷ Unused 4 ∷ []
parts_of kind.ConnectPort = Field field.ConnectionPartition ∷ Field field.ConnectionId ∷ Unused 4 ∷
    Field field.PortPartition ∷ Field field.PortId ∷ Unused 4 ∷ Field field.PortType ∷ Unused 12 ∷ []
