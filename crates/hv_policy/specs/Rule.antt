-- The rules' numbers, names and statuses.
use Rattle.std.specs.Prelude.{ℕ, List, codes, Option, Some, None}
use Rattle.hv_abi.specs.declared.call_kind.CallKind.{CallKind}
use Rattle.hv_abi.specs.declared.call_kind.CallKind.TheVariants.{WithdrawMemory}
use Rattle.hv_abi.specs.declared.status.Status.{Status}
use Rattle.hv_abi.specs.declared.status.Status.TheVariants.{AccessDenied, InsufficientBuffers}
use Rattle.hv_abi.specs.declared.status.Status.TheVariants.{InsufficientMemory, InvalidAlignment}
use Rattle.hv_abi.specs.declared.status.Status.TheVariants.{InvalidConnectionId, InvalidHypercallCode}
use Rattle.hv_abi.specs.declared.status.Status.TheVariants.{InvalidHypercallInput, InvalidParameter}
use Rattle.hv_abi.specs.declared.status.Status.TheVariants.{InvalidPartitionId, InvalidPartitionState}
use Rattle.hv_abi.specs.declared.status.Status.TheVariants.{InvalidPortId, InvalidSynicState, InvalidVpIndex}
use Rattle.hv_abi.specs.declared.status.Status.TheVariants.{NoResources, ObjectInUse, PartitionTooDeep}
use Rattle.hv_abi.specs.declared.status.Status.TheVariants.{PropertyValueOutOfRange, UnknownProperty}
use Rattle.hv_policy.specs.declared.rule.Rule.{Rule}
use Rattle.hv_policy.specs.declared.rule.Rule.TheVariants.{CallerExists, CallerActive, CallerVpExists}
use Rattle.hv_policy.specs.declared.rule.Rule.TheVariants.{CallCode, InputValue, Alignment, Parameters}
use Rattle.hv_policy.specs.declared.rule.Rule.TheVariants.{Privilege, TargetExists, TargetScope}
use Rattle.hv_policy.specs.declared.rule.Rule.TheVariants.{PropertyKnown, TargetState, NoChildren, Depth}
use Rattle.hv_policy.specs.declared.rule.Rule.TheVariants.{PeerExists, Connection, Port, Entitlement}
use Rattle.hv_policy.specs.declared.rule.Rule.TheVariants.{VpExists, PropertyRange, Operand, VpReady}
use Rattle.hv_policy.specs.declared.rule.Rule.TheVariants.{PortRoom, Pages, MsrKnown, MsrPrivilege, MsrWrite}

-- a rule's number and name, and the status of a call that it refuses, if it applies to calls
pub record RuleRow : Type 0 where
  pub number : ℕ
  pub name : List ℕ
  pub status : Option Status

abbrev row : ℕ → List ℕ → Option Status → RuleRow
row number name status = record { number = number; name = name; status = status }

-- the table of rules
abbrev pub rule_row : Rule → RuleRow
rule_row CallerExists = row 1 (codes "P1") (Some InvalidPartitionId)
rule_row CallerActive = row 2 (codes "P2") (Some InvalidPartitionState)
rule_row CallerVpExists = row 3 (codes "P3") (Some InvalidVpIndex)
rule_row CallCode = row 4 (codes "P4") (Some InvalidHypercallCode)
rule_row InputValue = row 5 (codes "P5") (Some InvalidHypercallInput)
rule_row Alignment = row 6 (codes "P6") (Some InvalidAlignment)
rule_row Parameters = row 7 (codes "P7") (Some InvalidParameter)
rule_row Privilege = row 8 (codes "P8") (Some AccessDenied)
rule_row TargetExists = row 9 (codes "P9") (Some InvalidPartitionId)
rule_row TargetScope = row 10 (codes "P10") (Some AccessDenied)
rule_row PropertyKnown = row 11 (codes "P11") (Some UnknownProperty)
rule_row TargetState = row 12 (codes "P12") (Some InvalidPartitionState)
rule_row NoChildren = row 13 (codes "P13") (Some ObjectInUse)
rule_row Depth = row 14 (codes "P14") (Some PartitionTooDeep)
rule_row PeerExists = row 15 (codes "P15") (Some InvalidPartitionId)
rule_row Connection = row 16 (codes "P16") (Some InvalidConnectionId)
rule_row Port = row 17 (codes "P17") (Some InvalidPortId)
rule_row Entitlement = row 18 (codes "P18") (Some AccessDenied)
rule_row VpExists = row 19 (codes "P19") (Some InvalidVpIndex)
rule_row PropertyRange = row 20 (codes "P20") (Some PropertyValueOutOfRange)
rule_row Operand = row 21 (codes "P21") (Some InvalidParameter)
rule_row VpReady = row 22 (codes "P22") (Some InvalidSynicState)
rule_row PortRoom = row 23 (codes "P23") (Some InsufficientBuffers)
rule_row Pages = row 24 (codes "P24") (Some InsufficientMemory)
rule_row MsrKnown = row 25 (codes "P25") None
rule_row MsrPrivilege = row 26 (codes "P26") None
rule_row MsrWrite = row 27 (codes "P27") None

abbrev pub rule_number : Rule → ℕ
rule_number rule = (rule_row rule).number

abbrev pub rule_name : Rule → List ℕ
rule_name rule = (rule_row rule).name

-- the status of this call if the rule refuses it: the table's, except for a withdrawal that lacks pages
abbrev pub pages_status : Option CallKind → Status
pages_status (Some WithdrawMemory) = NoResources
pages_status call = InsufficientMemory

abbrev pub rule_status : Rule → Option CallKind → Option Status
rule_status Pages call = Some (pages_status call)
rule_status rule call = (rule_row rule).status
