-- What the calls of this call group need of the rows, once all their rules are met.
use Rattle.std.proofs.Common.{ℕ, ◌<◌, ◌^◌, true, false, sym, ap, ◌∙◌, arith, option_map}
use Rattle.hv_calls.specs.declared.call.Call.TheVariants.{DepositMemory, WithdrawMemory}
use Rattle.hv_partition.specs.Partition.{pages_in, PartitionState}
use Rattle.hv_partition.specs.declared.kind.PageKind.TheVariants.{Loose, Pooled}
use Rattle.hv_policy.specs.Needs.{target_of}
use Rattle.hv_admit.proofs.MetRules.{admitted_allowed, caller_row, state_row, target_row}
use Rattle.hv_admit.proofs.PageHolders.{apart_sets}
use Rattle.hv_admit.proofs.StateInvariant.{page_below}
use Rattle.hv_admit.specs.Asked.{IsGranted}
use Rattle.hv_admit.specs.Tie.{holds}
use Rattle.hv_tree.specs.Rows.{Rows}
use Rattle.hv_partition_calls.proofs.PoolLookups.{loose_held, lowest_held}
use Rattle.hv_partition_calls.specs.PoolChange.{MayMove, MayWithdraw}

module _ (rows : Rows PartitionState) (caller partition page : ℕ) where
  pub deposit_needs : IsGranted rows caller (DepositMemory partition page) → MayMove rows caller (target_of (DepositMemory partition page) caller) page false × (page < 2 ^ 32)
  deposit_needs g =
      let i = g.admitted in
      let f = i.rows.flat in
      let flat = i.rows.tied in
      let a = admitted_allowed rows caller (DepositMemory partition page) i g.met in
      let (owner, there, active) = caller_row rows f flat caller (DepositMemory partition page) a in
      let (row, was, state) = state_row rows f flat caller (DepositMemory partition page) a a.further.0 in
      let one = sym (loose_held rows f flat caller page) ∙ a.further.1.0 in
      let bounded = i.rows.bounded in
      let below = page_below rows f flat i.rows.pages i.rows.lawful caller page false one in (
        record {
          source = owner.1.loose;
          had = ap (option_map (pages_in Loose)) (ap (option_map (λ r. r.1)) there);
          held = sym (ap (holds false page) there) ∙ one;
          target = row.1.pooled;
          there = ap (option_map (pages_in Pooled)) (ap (option_map (λ r. r.1)) was);
          new = sym (ap (holds true page) was) ∙ apart_sets rows f flat caller (target_of (DepositMemory partition page) caller) false true (λ e. let no = e.1 in cc) page one;
        },
        omega arith,
      )

  pub withdraw_needs : MayWithdraw rows caller (WithdrawMemory partition) page → MayMove rows (target_of (WithdrawMemory partition) caller) caller page true
  withdraw_needs may =
      let i = may.granted.admitted in
      let f = i.rows.flat in
      let flat = i.rows.tied in
      let a = admitted_allowed rows caller (WithdrawMemory partition) i may.granted.met in
      let (owner, there, active) = caller_row rows f flat caller (WithdrawMemory partition) a in
      let (row, was) = target_row rows f flat caller (WithdrawMemory partition) a in
      let one = lowest_held rows f flat (target_of (WithdrawMemory partition) caller) page (may.lowest f flat) in
      record {
        source = row.1.pooled;
        had = ap (option_map (pages_in Pooled)) (ap (option_map (λ r. r.1)) was);
        held = sym (ap (holds true page) was) ∙ one;
        target = owner.1.loose;
        there = ap (option_map (pages_in Loose)) (ap (option_map (λ r. r.1)) there);
        new = sym (ap (holds false page) there) ∙ apart_sets rows f flat (target_of (WithdrawMemory partition) caller) caller true false (λ e. let no = e.1 in cc) page one;
      }
