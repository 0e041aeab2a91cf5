-- The model of what the lock protects.
use Rattle.std.specs.Prelude.{ℕ}
use Rattle.std.specs.declared.alloc.Global.{Global}
use Rattle.hv_history.specs.Kept.{Kept}

pub record HeldValue : Type 0 where
  pub kept : Kept Global
  pub count : ℕ
