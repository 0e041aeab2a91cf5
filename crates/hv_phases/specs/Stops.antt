-- Which of several processors that the host stopped is told. Only contracts of private functions cite these
-- words.
use Rattle.std.specs.Prelude.{ℕ, ◌≡◌, ◌⊎◌, ◌<◌, All, None, Some, List, length, slice_index_or}
use Rattle.hv_history.specs.declared.kept.HostRefused.{HostRefused}
use Rattle.hv_history.specs.declared.kept.HostRefused.TheVariants.{Memory}
use Rattle.hv_phases.specs.PassMap.{RunnerMap, stop_at}
use Rattle.hv_policy.specs.declared.event.Caller.{Caller}

module _ {L S : Type 0} where
  -- the host stopped none of these processors
  abbrev pub AreAllGoing : RunnerMap L S → List Caller → Type 0
  AreAllGoing runners order = All (λ by. stop_at runners by ≡ None) order

  -- the host stopped the processor at this place for this reason, and none before it
  pub record IsFirstStop (runners : RunnerMap L S) (order : List Caller) (why : HostRefused) : Type 0 where
    pub place : ℕ
    pub within : place < length order
    pub here : (by : Caller) → stop_at runners (slice_index_or order place by) ≡ Some why
    pub before : (k : ℕ) (by : Caller) → k < place → stop_at runners (slice_index_or order k by) ≡ None

  -- why the host stopped the first processor that it stopped; or it stopped none, and had no memory for a
  -- phase
  abbrev pub IsToldOf : RunnerMap L S → List Caller → HostRefused → Type 0
  IsToldOf runners order why = IsFirstStop runners order why ⊎ ((why ≡ Memory) × AreAllGoing runners order)
