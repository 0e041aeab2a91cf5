-- What an end of a message does: the SINTs that begin to show another one, and their vectors.
use Rattle.std.specs.Prelude.{ℕ, ◌==◌, cond}
use Rattle.hv_defs.specs.Vectors.{VectorSet}
use Rattle.hv_admit.specs.Effect.{quiet}
use Rattle.hv_admit.specs.declared.effect.Effect.{Effect}
use Rattle.hv_admit.specs.declared.effect.Effect.TheVariants as effect
pub use Rattle.hv_admit.specs.Raised.{became_shown, shows}
unfoldable pub use Rattle.hv_admit.specs.Raised.{vectors_of}

-- the effect of an end of a message at a processor: these SINTs, as bits, began to show a message and raised
-- these vectors
abbrev pub ended_effect : ℕ → ℕ → ℕ → VectorSet → Effect
ended_effect part vp mask vectors = cond (mask == 0) effect.Nothing
    (effect.Synic (record (quiet part vp) { shown = mask; raised = vectors }))
