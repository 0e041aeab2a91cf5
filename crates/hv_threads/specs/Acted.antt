-- The outcome of one action on a machine that one thread owns.
use Rattle.std.specs.Prelude.{ℕ, ◌≡◌, ◌<◌, ◌≤◌, ◌⊎◌, ◌↔◌, ◌++◌, List, length, All, Result, Ok, Err}
use Rattle.std.specs.declared.alloc.Global.{Global}
use Rattle.hv_defs.specs.declared.sizes.TheConstants.{REPS_END}
use Rattle.hv_history.specs.Kept.{IsRun, Kept}
use Rattle.hv_history.specs.declared.entry.Entry.{Entry}
use Rattle.hv_history.specs.declared.kept.HostRefused.{HostRefused}
use Rattle.hv_history.specs.declared.kept.HostRefused.TheVariants.{HistoryFull}
use Rattle.hv_policy.specs.declared.event.Action.{Action}
use Rattle.hv_policy.specs.declared.event.Caller.{Caller}
use Rattle.hv_shared.specs.ByCaller.{receipts_by}
use Rattle.hv_threads.specs.Perform.{IsStopped, IsWhole}

-- the entries of an action that came to its end, or its first `most` entries, after which it would go on
abbrev pub AreUpTo : Caller → Action Global → ℕ → List (Entry Global) → Type 0
AreUpTo by what most own =
    ((n : ℕ) → IsWhole by what (receipts_by by n own))
    ⊎ ((length own ≡ most) × ((n : ℕ) → IsStopped by what (receipts_by by n own)))

-- the history gains the entries of what this processor asked for, to its end or up to `most`
pub record HasActed (by : Caller) (what : Action Global) (most : ℕ) (old new : Kept Global) : Type 0 where
  pub own : List (Entry Global)
  pub history : new.history ≡ old.history ++ own
  pub by_it : All (λ e. e.event.by ≡ by) own
  pub ended : AreUpTo by what most own
  pub within : length own ≤ most
  pub few : length own ≤ REPS_END
  pub config : new.config ≡ old.config
  pub limit : new.limit ≡ old.limit
  pub run : IsRun new

-- the host stopped the action: the history gains the entries of a part of it, fewer than `most`, or none
pub record WasStopped (by : Caller) (what : Action Global) (most : ℕ) (why : HostRefused)
    (old new : Kept Global) : Type 0 where
  pub own : List (Entry Global)
  pub history : new.history ≡ old.history ++ own
  pub by_it : All (λ e. e.event.by ≡ by) own
  pub part : (n : ℕ) → IsStopped by what (receipts_by by n own)
  pub within : length own < most
  pub full : (why ≡ HistoryFull) ↔ (length new.history ≡ new.limit)
  pub config : new.config ≡ old.config
  pub limit : new.limit ≡ old.limit
  pub run : IsRun new

-- the action was done, or the host stopped it
abbrev pub HasTried : {T : Type 0} → Caller → Action Global → ℕ → Kept Global → Kept Global → Result T
    HostRefused → Type 0
HasTried by what most old new (Ok done) = HasActed by what most old new
HasTried by what most old new (Err why) = WasStopped by what most why old new
