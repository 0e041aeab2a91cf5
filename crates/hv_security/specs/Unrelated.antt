-- When an event is unrelated to a partition.
use Rattle.std.specs.Prelude.{◌≡◌, ℕ, true, false, List, [], ◌∷◌}
use Rattle.std.specs.FinMap.{get}
use Rattle.hv_policy.specs.Flat.{Flat}
use Rattle.hv_policy.specs.Subtree.{is_in_subtree}
use Rattle.hv_policy.specs.Step.{step}
use Rattle.hv_policy.specs.declared.event.Event.{Event}
use Rattle.hv_security.specs.Agreed.{lineage}
use Rattle.hv_security.specs.Integrity.{IsNoRelative, Reach, CallerAndChildren, AndPlace, AndMasks, reach_of}
use Rattle.hv_security.specs.Same.{is_relative}

-- the reach of an event, beyond its caller's relatives, does not include a partition
abbrev pub ReachesPast : Reach → ℕ → Flat → Type 0
ReachesPast CallerAndChildren id f = Unit {0}
ReachesPast (AndPlace at gain) id f = (id ≡ at.part) → ⊥
ReachesPast (AndMasks top value) id f = is_in_subtree f top id ≡ false

-- an event that leads from `f` to `g` is unrelated to a partition: none of the partition's relatives is a
-- relative of the event's caller, before or after, or within the event's reach, and the event creates and
-- deletes no partition
pub record IsUnrelated {A : Type 0} (event : Event A) (other : ℕ) (f g : Flat) : Type 0 where
  pub apart : (id : ℕ) → is_relative f other id ≡ true → IsNoRelative event.by.part id f g
  pub past : (id : ℕ) → is_relative f other id ≡ true → ReachesPast (reach_of f event.by.part event.what) id f
  pub next : f.next ≡ g.next
  pub parents : (id : ℕ) → lineage (get f.part id) ≡ lineage (get g.part id)

-- each event of a list, in its turn, is unrelated to a partition
abbrev pub AreUnrelated : {A : Type 0} → List (Event A) → ℕ → Flat → Type 0
AreUnrelated [] other f = Unit {0}
AreUnrelated (event ∷ events) other f =
    IsUnrelated event other f (step f event).0 × AreUnrelated events other (step f event).0
