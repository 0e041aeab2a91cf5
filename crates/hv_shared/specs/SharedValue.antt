-- The model of a lock with its terms.
use Rattle.std.specs.Prelude.{ℕ}
use Rattle.hv_policy.specs.declared.config.Config.{Config}

-- the number of passes, and the configuration and limit with which the history was begun
pub record SharedValue : Type 0 where
  pub passes : ℕ
  pub config : Config
  pub limit : ℕ
