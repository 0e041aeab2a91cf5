-- What a caller without the privileges to look things up looks at.
use Rattle.std.proofs.Common.{◌≡◌, ℕ, Bool, true, false, Some, refl, sym, ap, ◌∙◌}
use Rattle.std.specs.FinMap.{get}
use Rattle.hv_calls.specs.declared.call.Call.{Call}
use Rattle.hv_calls.specs.declared.call.Call.TheVariants.{GetPartitionId, DepositMemory, WithdrawMemory, GetMemoryBalance, DeletePort, DisconnectPort, PostMessage, SignalEvent, CreatePort}
use Rattle.hv_calls.specs.declared.call.Call.TheVariants.{ConnectPort}
use Rattle.hv_policy.specs.Flat.{Flat, PartRow}
use Rattle.hv_policy.specs.Met.{has_privilege, test_row}
use Rattle.hv_privs.proofs.PrivilegesLemmas.{contains-IsSubset}
use Rattle.hv_privs.specs.Privileges.{IsSubset, contains}
use Rattle.hv_privs.specs.declared.Privileges.{Privileges}
use Rattle.hv_privs.specs.declared.TheConstants.Privileges as privilege
use Rattle.hv_security.specs.Looks.{CallLooksAlike, LooksUpNothing}
use Rattle.hv_security.specs.Tenant.{SeesAlike}

-- a mask within another has no privilege that the other lacks
pub lacks : (old new : Privileges) (p : Privileges) → IsSubset new old → contains old p ≡ false → contains new p ≡ false
lacks old new p less none = by (contains new p) refl
  where
    by : (b : Bool) → contains new p ≡ b → b ≡ false
    by true has =
        let all : IsSubset p new = (contains-IsSubset new p).0 has in
        let held : contains old p ≡ true = (contains-IsSubset old p).1 (λ k set. less k (all k set)) in
        let clash = sym none ∙ held in cc
    by false is = refl

-- a mask within the start mask has none of the privileges by which others can be looked up
pub starts_plain : (f : Flat) (id : ℕ) (row : PartRow) → get f.part id ≡ Some row → IsSubset row.mask privilege.NEW_PARTITION → LooksUpNothing f id
starts_plain f id row is less = record {
  partitions = lacking privilege.CREATE_PARTITIONS refl;
  pools = lacking privilege.ACCESS_MEMORY_POOL refl;
  ports = lacking privilege.CREATE_PORT refl;
  connections = lacking privilege.CONNECT_PORT refl;
}
  where
    lacking : (p : Privileges) → contains privilege.NEW_PARTITION p ≡ false → has_privilege f id p ≡ false
    lacking p none = ap (test_row (λ row. contains row.mask p)) is ∙ lacks privilege.NEW_PARTITION row.mask p less none

pub looks_through : (members : ℕ → Bool) (f g : Flat) (caller : ℕ) → members caller ≡ true → LooksUpNothing f caller → (call : Call) → SeesAlike members call caller f g → CallLooksAlike members
    (Some call) caller f g
looks_through members f g caller own none GetPartitionId sees has = λ off. (let clash = sym off ∙ own in cc)
looks_through members f g caller own none (DepositMemory partition page) sees has = let clash = sym none.pools ∙ has in cc
looks_through members f g caller own none (WithdrawMemory partition) sees has = let clash = sym none.pools ∙ has in cc
looks_through members f g caller own none (GetMemoryBalance partition) sees has = let clash = sym none.pools ∙ has in cc
looks_through members f g caller own none (DeletePort partition port) sees has = let clash = sym none.ports ∙ has in cc
looks_through members f g caller own none (DisconnectPort partition connection) sees has = let clash = sym none.connections ∙ has in cc
looks_through members f g caller own none (PostMessage connection message_type payload) sees has = sees
looks_through members f g caller own none (SignalEvent connection flag) sees has = sees
looks_through members f g caller own none (CreatePort partition port peer port_kind sint vp base count) sees has = let clash = sym none.ports ∙ has in cc
looks_through members f g caller own none (ConnectPort partition connection port_partition port port_kind) sees has = let clash = sym none.connections ∙ has in cc
looks_through members f g caller own none call sees has = let clash = sym none.partitions ∙ has in cc
