-- Creating and ending partitions, and reading their ids.
use Rattle.std.specs.Prelude.{ℕ, ◌+◌, ◌==◌, ◌||◌, true, false, [], ◌∷◌, map, None, Some}
use Rattle.std.specs.FinMap.{entries, from_entries, get, insert, remove}
use Rattle.std.specs.Int.{w64, to_le_bytes}
use Rattle.hv_abi.specs.declared.call_kind.TheConstants.{CREATE_PARTITION, INITIALIZE_PARTITION}
use Rattle.hv_abi.specs.declared.call_kind.TheConstants.{FINALIZE_PARTITION, DELETE_PARTITION}
use Rattle.hv_abi.specs.declared.call_kind.TheConstants.{GET_PARTITION_ID, GET_NEXT_CHILD_PARTITION}
use Rattle.hv_defs.specs.declared.life.Life.TheVariants.{Active, Finalized}
use Rattle.hv_defs.specs.declared.sizes.TheConstants.{PARTITION_CHARGE}
use Rattle.hv_policy.specs.Change.{inherited, mask_of, new_row, rows_but, with_row}
use Rattle.hv_policy.specs.Mail.{mail_but}
use Rattle.hv_policy.specs.Met.{has_available, is_child, is_childless, is_depth_left, is_in}
use Rattle.hv_policy.specs.Policy.{CallPolicy, needs}
use Rattle.hv_policy.specs.Reading.{next_child}
use Rattle.hv_policy.specs.declared.need.Kin.TheVariants as kin
use Rattle.hv_policy.specs.declared.need.States.TheVariants as states
use Rattle.hv_policy.specs.declared.rule.Rule.TheVariants.{Depth, NoChildren, PeerExists, Pages, TargetState}
use Rattle.hv_privs.specs.declared.TheConstants.Privileges as privilege

-- HvCreatePartition: creates a child of the caller, with the next id.
abbrev pub create_partition : ℕ → CallPolicy
create_partition flags = record {
  row = CREATE_PARTITION;
  need = needs privilege.CREATE_PARTITIONS kin.Caller None states.Any PARTITION_CHARGE;
  memory = true;
  asks = λ f caller target states charge. (Depth, is_depth_left f caller) ∷
      (Pages, has_available f target charge) ∷ [];
  output = λ f caller target. to_le_bytes w64 f.next;
  effect = Some (λ f caller target.
      record f {
        part = insert f.part f.next (new_row caller (mask_of (get f.part caller)));
        next = f.next + 1;
      });
}

-- HvInitializePartition: makes the target Active.
abbrev pub initialize_partition : ℕ → CallPolicy
initialize_partition partition = record {
  row = INITIALIZE_PARTITION;
  need = needs privilege.CREATE_PARTITIONS kin.Child (Some partition) states.Created 0;
  memory = false;
  asks = λ f caller target states charge. (TargetState, is_in f target states) ∷ [];
  output = λ f caller target. [];
  effect = Some (λ f caller target. record f {
    part = with_row f.part target (λ row. record row { life = Active });
  });
}

-- HvFinalizePartition: makes the target Finalized, and removes its processors, ports, connections and
-- messages.
abbrev pub finalize_partition : ℕ → CallPolicy
finalize_partition partition = record {
  row = FINALIZE_PARTITION;
  need = needs privilege.CREATE_PARTITIONS kin.Child (Some partition) states.CreatedOrActive 0;
  memory = false;
  asks = λ f caller target states charge. (TargetState, is_in f target states) ∷
      (NoChildren, is_childless f target) ∷ [];
  output = λ f caller target. [];
  effect = Some (λ f caller target. record f {
    part = with_row f.part target (λ row. record row { life = Finalized });
    vp = rows_but target f.vp;
    port = rows_but target f.port;
    conn = rows_but target f.conn;
    mail = mail_but target f.mail;
  });
}

-- HvDeletePartition: removes the target, and gives its pages to the caller.
abbrev pub delete_partition : ℕ → CallPolicy
delete_partition partition = record {
  row = DELETE_PARTITION;
  need = needs privilege.CREATE_PARTITIONS kin.Child (Some partition) states.CreatedOrFinalized 0;
  memory = true;
  asks = λ f caller target states charge. (TargetState, is_in f target states) ∷ [];
  output = λ f caller target. [];
  effect = Some (λ f caller target. record f {
    part = remove f.part target;
    page = from_entries (map (λ e. (e.0, inherited target caller e.1)) (entries f.page));
  });
}

-- HvGetPartitionId: returns the caller's own id.
abbrev pub get_partition_id : CallPolicy
get_partition_id = record {
  row = GET_PARTITION_ID;
  need = needs privilege.ACCESS_PARTITION_ID kin.Caller None states.Any 0;
  memory = false;
  asks = λ f caller target states charge. [];
  output = λ f caller target. to_le_bytes w64 caller;
  effect = None;
}

-- HvGetNextChildPartition: returns the lowest id above another among the target's children, or 0 if there is
-- none.
abbrev pub get_next_child_partition : ℕ → ℕ → CallPolicy
get_next_child_partition partition previous = record {
  row = GET_NEXT_CHILD_PARTITION;
  need = needs privilege.CREATE_PARTITIONS kin.CallerOrChild (Some partition) states.Any 0;
  memory = false;
  asks = λ f caller target states charge. (PeerExists, (previous == 0) || is_child f target previous) ∷ [];
  output = λ f caller target. to_le_bytes w64 (next_child f target previous);
  effect = None;
}
