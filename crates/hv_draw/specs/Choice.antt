-- Which events a sequence chart shows.
use Rattle.std.specs.Prelude.{ℕ, ◌==◌, ◌&&◌, ◌||◌, Bool, true, false, Option, None, Some, nat_le}
use Rattle.hv_admit.specs.declared.effect.Effect.{Effect}
use Rattle.hv_admit.specs.declared.effect.Effect.TheVariants as effect
use Rattle.hv_policy.specs.declared.event.Caller.{Caller}
use Rattle.hv_draw.specs.declared.choice.Choice.{Choice}
use Rattle.hv_draw.specs.declared.choice.Only.{Only}

-- whether this index is the chosen one, or any is
abbrev pub is_index : Option ℕ → ℕ → Bool
is_index None vp = true
is_index (Some own) vp = own == vp

-- whether this is the chosen processor, or one of the chosen partition
abbrev pub is_at : Only → ℕ → ℕ → Bool
is_at only part vp = (only.part == part) && is_index only.vp vp

-- whether an effect is at the chosen processor, or at one of the chosen partition. A partition that ends
-- takes all its processors with it
abbrev pub reaches : Only → Effect → Bool
reaches only effect.Nothing = false
reaches only (effect.Synic s) = is_at only s.part s.vp
reaches only (effect.Page page owner pooled) = false
reaches only (effect.Pages from to) = only.part == from
reaches only (effect.Processor part vp) = is_at only part vp
reaches only (effect.Partition part) = only.part == part

-- whether an event is the chosen processor's, or changed something there
abbrev pub concerns : Option Only → Caller → Effect → Bool
concerns None by effect = true
concerns (Some only) by effect = is_at only by.part by.vp || reaches only effect

-- whether a chart shows the event with this number, by this processor, with this effect
abbrev pub is_chosen : Choice → ℕ → Caller → Effect → Bool
is_chosen choice number by effect = nat_le choice.from number && nat_le number choice.to && concerns
    choice.only by effect
