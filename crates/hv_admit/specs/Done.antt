-- The possible outcomes of a call whose rules hold.
use Rattle.std.specs.Prelude.{◌≡◌, ℕ, true, ◌++◌, List, Option, None, Some, Result, Ok, Err}
use Rattle.hv_calls.specs.Call.{kind_of_call}
use Rattle.hv_calls.specs.declared.call.Call.{Call}
use Rattle.hv_admit.specs.Effect.{Tells}
use Rattle.hv_admit.specs.declared.effect.Effect.{Effect}
use Rattle.hv_partition.specs.Partition.{PartitionState}
use Rattle.hv_policy.specs.Answer.{output}
use Rattle.hv_policy.specs.Effect.{call_effect}
use Rattle.hv_policy.specs.Flat.{Flat}
use Rattle.hv_policy.specs.Needs.{takes_memory, target_of}
use Rattle.hv_policy.specs.Rules.{Ask, caller_asks, first_unmet, further_asks, target_asks}
use Rattle.hv_policy.specs.declared.event.Caller.{Caller}
use Rattle.hv_policy.specs.declared.rule.Rule.{Rule}
use Rattle.hv_tree.specs.Rows.{Rows}
use Rattle.hv_admit.specs.Room.{IsSameButRoom}
use Rattle.hv_admit.specs.Tie.{Refines}
use Rattle.hv_admit.specs.declared.refused.CallError.{CallError}
use Rattle.hv_admit.specs.declared.refused.CallError.TheVariants.{Unmet, Memory}

-- the call was served: its output bytes and the new rows are the policy's, and the effect describes the
-- change
pub record HasServed (f : Flat) (caller : ℕ) (call : Call) (bytes : List ℕ) (effect : Effect)
    (new : Rows PartitionState) : Type 0 where
  pub output : bytes ≡ output call f caller (target_of call caller)
  pub rows : Refines new (call_effect call f caller (target_of call caller))
  pub told : Tells effect f (call_effect call f caller (target_of call caller))

-- the host was out of memory: the call may need memory, and only room changed
pub record IsWanting (call : Call) (old new : Rows PartitionState) : Type 0 where
  pub memory : takes_memory (kind_of_call call) ≡ true
  pub rows : IsSameButRoom old new

-- the outcome of a call whose rules hold, in a flat state that the old rows refine: it was served, or the
-- host was out of memory
abbrev pub IsDone : {E : Type 0} → Flat → ℕ → Call → Rows PartitionState → Result (List ℕ × Effect) E →
    Rows PartitionState → Type 0
IsDone f caller call old (Ok done) new = HasServed f caller call done.0 done.1 new
IsDone f caller call old (Err refused) new = IsWanting call old new

-- the rules of a call that look at the tree: P1 to P3, and all from P8 on
abbrev pub tree_asks : Flat → Caller → Call → List Ask
tree_asks f by call = caller_asks f by ++ (target_asks f by.part call ++ further_asks f by.part call)

-- the first of them that fails, if one does
unfoldable pub unmet_in_tree : Flat → Caller → Call → Option Rule
unmet_in_tree f by call = first_unmet (tree_asks f by call)

-- a call is refused by the first of its rules that fails, and never for lack of memory
abbrev pub IsRefused : Flat → Caller → Call → CallError → Type 0
IsRefused f by call (Unmet rule) = unmet_in_tree f by call ≡ Some rule
IsRefused f by call Memory = ⊥

-- the outcome of a call, in a flat state that the old rows refine: it was served, or it failed with the first
-- rule that does not hold and the rows are unchanged, or the host was out of memory
abbrev pub IsCalled : Flat → Caller → Call → Rows PartitionState → Result (List ℕ × Effect) CallError →
    Rows PartitionState → Type 0
IsCalled f by call old (Ok done) new = (unmet_in_tree f by call ≡ None) × HasServed f by.part call
    done.0 done.1 new
IsCalled f by call old (Err (Unmet rule)) new = (unmet_in_tree f by call ≡ Some rule) × (new ≡ old)
IsCalled f by call old (Err Memory) new = (unmet_in_tree f by call ≡ None) × IsWanting call old new
