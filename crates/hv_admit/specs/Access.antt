-- How a call group answers an access.
use Rattle.std.specs.Prelude.{◌≡◌, ℕ, List, None, Some, Result, Ok, Err}
use Rattle.hv_admit.specs.Effect.{Tells}
use Rattle.hv_admit.specs.declared.effect.Effect.{Effect}
use Rattle.hv_partition.specs.Partition.{PartitionState}
use Rattle.hv_policy.specs.Answer.{action_answer}
use Rattle.hv_policy.specs.Effect.{action_effect}
use Rattle.hv_policy.specs.Flat.{Flat}
use Rattle.hv_policy.specs.Rules.{action_asks, caller_asks, first_unmet, unmet}
use Rattle.hv_policy.specs.declared.event.Action.{Action}
use Rattle.hv_policy.specs.declared.event.Caller.{Caller}
use Rattle.hv_policy.specs.declared.reply.Reply.TheVariants.{Served}
use Rattle.hv_policy.specs.declared.rule.Rule.{Rule}
use Rattle.hv_admit.specs.Tie.{Refines}
use Rattle.hv_tree.specs.Rows.{Rows}

-- the access was served: its own rules hold, its output bytes and the new rows are the policy's, and the
-- effect describes the change
pub record IsAccessed {A : Type 0} (f : Flat) (by : Caller) (what : Action A) (bytes : List ℕ)
    (effect : Effect) (new : Rows PartitionState) : Type 0 where
  pub met : first_unmet (action_asks f by.part what) ≡ None
  pub reply : Served bytes ≡ action_answer f by what
  pub rows : Refines new (action_effect f by what)
  pub told : Tells effect f (action_effect f by what)

-- the outcome of an access, in a flat state that the old rows refine: it was served, or it failed with the
-- first rule that does not hold and the rows are unchanged. An access never needs memory
abbrev pub IsAnswered : {A : Type 0} → Flat → Caller → Action A → Rows PartitionState →
    Result (List ℕ × Effect) Rule → Rows PartitionState → Type 0
IsAnswered f by what old (Ok done) new = (first_unmet (caller_asks f by) ≡ None) × IsAccessed f by what done.0
    done.1 new
IsAnswered f by what old (Err rule) new = (unmet f (record { by = by; what = what }) ≡ Some rule) ×
    (new ≡ old)
