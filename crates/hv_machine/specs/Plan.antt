-- What the question of a call leaves for its deed.
use Rattle.std.specs.Prelude.{◌≡◌, ℕ, ◌+◌, ⊤, Some}
use Rattle.std.specs.FinMap.{get}
use Rattle.hv_calls.specs.declared.call.Call.{Call}
use Rattle.hv_calls.specs.declared.call.Call.TheVariants as call
use Rattle.hv_defs.specs.declared.port_kind.PortKind.TheVariants as port_type
use Rattle.hv_messages.specs.ResolvedPort.{IsAimed}
use Rattle.hv_pages.specs.PageSet.{runs_of}
use Rattle.hv_partition.specs.Partition.{PartitionState, available, in_use}
use Rattle.hv_partition_calls.specs.MaySet.{MaySet}
use Rattle.hv_policy.specs.Answer.{register_of, value_of}
use Rattle.hv_policy.specs.Count.{lowest_pooled}
use Rattle.hv_policy.specs.Flat.{Flat}
use Rattle.hv_policy.specs.Needs.{target_of}
use Rattle.hv_policy.specs.Property.{property_of}
use Rattle.hv_policy.specs.declared.need.Need.{Need}
use Rattle.hv_port_calls.specs.Calls.{port_birth}
use Rattle.hv_privs.specs.Privileges.{restrict}
use Rattle.hv_privs.specs.declared.Privileges.{Privileges}
use Rattle.hv_privs.specs.declared.TheConstants.Privileges as privilege
use Rattle.hv_admit.specs.Asked.{AreFound}
use Rattle.hv_admit.specs.Tie.{Refines}
use Rattle.hv_admit.specs.declared.rules.Balance.{Balance}
use Rattle.hv_tree.specs.Rows.{Rows, content}
use Rattle.hv_machine.specs.declared.dispatch.Plan.{Plan}
use Rattle.hv_machine.specs.declared.dispatch.Plan.TheVariants as plan

-- the plan is this kind of one, of a value with this property
pub record Leaves {X : Type 0} (made : X → Plan) (Fits : X → Type 0) (left : Plan) : Type 0 where
  pub value : X
  pub is : left ≡ made value
  pub fits : Fits value

-- the mask of a new partition below this one
pub record IsStartMask (tree : Rows PartitionState) (by : ℕ) (mask : Privileges) : Type 0 where
  pub creator : PartitionState
  pub there : content tree by ≡ Some creator
  pub restricted : mask ≡ restrict creator.mask privilege.NEW_PARTITION

-- the number of runs of a partition's pages
pub record HasRuns (tree : Rows PartitionState) (id runs : ℕ) : Type 0 where
  pub gone : PartitionState
  pub was : content tree id ≡ Some gone
  pub counted : runs ≡ runs_of gone.loose.pages + runs_of gone.pooled.pages

-- the balance of the target of this call
pub record HasBalance (tree : Rows PartitionState) (by : ℕ) (call : Call) (balance : Balance) : Type 0 where
  pub need : Need
  pub caller : PartitionState
  pub target : PartitionState
  pub children : ℕ
  pub found : AreFound tree by call need caller target children
  pub may_use : balance.available ≡ available children target
  pub uses : balance.in_use ≡ in_use children target

-- what the question of a call by this partition leaves
abbrev pub IsPlanned : Rows PartitionState → ℕ → Call → Plan → Type 0
IsPlanned tree by (call.CreatePartition flags) = Leaves plan.Mask (IsStartMask tree by)
IsPlanned tree by (call.DeletePartition partition) = Leaves plan.Runs (HasRuns tree (target_of
    (call.DeletePartition partition) by))
IsPlanned tree by (call.GetPartitionProperty partition code) = Leaves plan.Value (λ value. (f : Flat)
    → Refines tree f → value ≡ value_of (property_of code)
    (get f.part (target_of (call.GetPartitionProperty partition code) by)))
IsPlanned tree by (call.SetPartitionProperty partition code value) = Leaves plan.Setting (λ setting.
    (f : Flat) → Refines tree f → MaySet f by partition code value setting)
IsPlanned tree by (call.WithdrawMemory partition) = Leaves plan.Page (λ page. (f : Flat) → Refines tree f
    → lowest_pooled f (target_of (call.WithdrawMemory partition) by) ≡ Some page)
IsPlanned tree by (call.GetMemoryBalance partition) = Leaves plan.Balance (HasBalance tree by
    (call.GetMemoryBalance partition))
IsPlanned tree by (call.GetVpRegisters partition vp name) = Leaves plan.Value (λ value. (f : Flat)
    → Refines tree f
    → value ≡ register_of (get f.vp (target_of (call.GetVpRegisters partition vp name) by, vp)) name)
IsPlanned tree by (call.ConnectPort partition connection home port kind) = Leaves plan.Value (λ born.
    (f : Flat) → Refines tree f → born ≡ port_birth f by (record {
      connection = connection;
      port_partition = home;
      port = port;
      kind = kind;
    }))
IsPlanned tree by (call.PostMessage connection message_type payload) = Leaves plan.Aim (λ aimed. (f : Flat)
    → Refines tree f → IsAimed f (by, connection) port_type.Message aimed)
IsPlanned tree by (call.SignalEvent connection flag) = Leaves plan.Aim (λ aimed. (f : Flat) → Refines tree f
    → IsAimed f (by, connection) port_type.Event aimed)
IsPlanned tree by _ = λ _. ⊤
