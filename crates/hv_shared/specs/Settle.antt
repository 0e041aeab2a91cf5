-- The result of a settlement.
use Rattle.std.specs.Prelude.{ℕ, ◌≡◌, ◌≢◌, ◌⊎◌, Some, List, Result, Ok, Err}
use Rattle.std.specs.declared.alloc.Global.{Global}
use Rattle.hv_history.specs.Kept.{Kept}
use Rattle.hv_policy.specs.declared.config.Config.{Config}
use Rattle.hv_shared.specs.Merge.{IsMerge, SettlesAs}
use Rattle.hv_shared.specs.declared.receipts.Receipt.{Receipt}
use Rattle.hv_shared.specs.declared.fault.SettleRefused.{SettleRefused}
use Rattle.hv_shared.specs.declared.fault.SettleFault.{SettleFault}
use Rattle.hv_shared.specs.declared.fault.SettleFault.TheVariants.{Differs}

-- the history has this configuration and limit, and is a merge of the lists
pub record IsMadeOf (config : Config) (limit : ℕ) (kept : Kept Global) (lists : List (List Receipt)) : Type 0
  where
    pub same_config : kept.config ≡ config
    pub same_limit : kept.limit ≡ limit
    pub merge : IsMerge kept.history lists

-- the history has another configuration or limit, or has this first fault against the lists
abbrev pub IsFault : Config → ℕ → Kept Global → List (List Receipt) → SettleFault → Type 0
IsFault config limit kept lists fault =
    (((kept.config ≢ config) ⊎ (kept.limit ≢ limit)) × (fault ≡ Differs))
    ⊎ ((kept.config ≡ config) × (kept.limit ≡ limit) × SettlesAs 1 kept.history lists (Some fault))

-- the history that is handed back
abbrev pub kept_of : Result (Kept Global) SettleRefused → Kept Global
kept_of (Ok kept) = kept
kept_of (Err refused) = refused.kept
