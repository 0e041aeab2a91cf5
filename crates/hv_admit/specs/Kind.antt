-- The kinds of effects.
use Rattle.std.specs.Prelude.{ℕ}
use Rattle.hv_admit.specs.declared.effect.Effect.{Effect}
use Rattle.hv_admit.specs.declared.effect.Effect.TheVariants as effect

-- the kind of an effect, as a number
abbrev pub kind_of : Effect → ℕ
kind_of effect.Nothing = 0
kind_of (effect.Synic s) = 1
kind_of (effect.Page page owner pooled) = 2
kind_of (effect.Pages from to) = 3
kind_of (effect.Processor part vp) = 4
kind_of (effect.Partition part) = 5
