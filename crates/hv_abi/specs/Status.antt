-- The status values, HV_STATUS.
use Rattle.std.specs.Prelude.{ℕ, List, codes}
use Rattle.hv_abi.specs.declared.status.Status.{Status}
use Rattle.hv_abi.specs.declared.status.Status.TheVariants.{Success, InvalidHypercallCode}
use Rattle.hv_abi.specs.declared.status.Status.TheVariants.{InvalidHypercallInput, InvalidAlignment}
use Rattle.hv_abi.specs.declared.status.Status.TheVariants.{InvalidParameter, AccessDenied}
use Rattle.hv_abi.specs.declared.status.Status.TheVariants.{InvalidPartitionState, UnknownProperty}
use Rattle.hv_abi.specs.declared.status.Status.TheVariants.{PropertyValueOutOfRange, InsufficientMemory}
use Rattle.hv_abi.specs.declared.status.Status.TheVariants.{PartitionTooDeep, InvalidPartitionId}
use Rattle.hv_abi.specs.declared.status.Status.TheVariants.{InvalidVpIndex, InvalidPortId}
use Rattle.hv_abi.specs.declared.status.Status.TheVariants.{InvalidConnectionId, InsufficientBuffers}
use Rattle.hv_abi.specs.declared.status.Status.TheVariants.{InvalidSynicState, ObjectInUse, NoResources}

-- the number of a status in a result value
abbrev pub status_code : Status → ℕ
status_code Success = 0x0
status_code InvalidHypercallCode = 0x2
status_code InvalidHypercallInput = 0x3
status_code InvalidAlignment = 0x4
status_code InvalidParameter = 0x5
status_code AccessDenied = 0x6
status_code InvalidPartitionState = 0x7
status_code UnknownProperty = 0x9
status_code PropertyValueOutOfRange = 0xA
status_code InsufficientMemory = 0xB
status_code PartitionTooDeep = 0xC
status_code InvalidPartitionId = 0xD
status_code InvalidVpIndex = 0xE
status_code InvalidPortId = 0x11
status_code InvalidConnectionId = 0x12
status_code InsufficientBuffers = 0x13
status_code InvalidSynicState = 0x18
status_code ObjectInUse = 0x19
status_code NoResources = 0x1D

-- its name without the prefix HV_STATUS_
abbrev pub status_name : Status → List ℕ
status_name Success = codes "SUCCESS"
status_name InvalidHypercallCode = codes "INVALID_HYPERCALL_CODE"
status_name InvalidHypercallInput = codes "INVALID_HYPERCALL_INPUT"
status_name InvalidAlignment = codes "INVALID_ALIGNMENT"
status_name InvalidParameter = codes "INVALID_PARAMETER"
status_name AccessDenied = codes "ACCESS_DENIED"
status_name InvalidPartitionState = codes "INVALID_PARTITION_STATE"
status_name UnknownProperty = codes "UNKNOWN_PROPERTY"
status_name PropertyValueOutOfRange = codes "PROPERTY_VALUE_OUT_OF_RANGE"
status_name InsufficientMemory = codes "INSUFFICIENT_MEMORY"
status_name PartitionTooDeep = codes "PARTITION_TOO_DEEP"
status_name InvalidPartitionId = codes "INVALID_PARTITION_ID"
status_name InvalidVpIndex = codes "INVALID_VP_INDEX"
status_name InvalidPortId = codes "INVALID_PORT_ID"
status_name InvalidConnectionId = codes "INVALID_CONNECTION_ID"
status_name InsufficientBuffers = codes "INSUFFICIENT_BUFFERS"
status_name InvalidSynicState = codes "INVALID_SYNIC_STATE"
status_name ObjectInUse = codes "OBJECT_IN_USE"
status_name NoResources = codes "NO_RESOURCES"
