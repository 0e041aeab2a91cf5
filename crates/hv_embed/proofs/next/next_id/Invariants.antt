-- The ids before `low` don't come after `previous`, and those from `high` on do.
use Rattle.std.proofs.Common.{◌≡◌, ℕ, ◌-◌, ◌<◌, ◌≤◌, true, false, length, Some, slice_get}
use Rattle.hv_embed.specs.Held.{ids_of}
use Rattle.hv_embed.specs.Next.{is_after}
use Rattle.hv_embed.proofs.next.next_id.Given as goal

abbrev pub invariant-loop-low : goal.invariant-loop-low
invariant-loop-low l = record {
  order : l.low ≤ l.high;
  within : l.high ≤ length (ids_of l.links l.partition);
  before : (place id : ℕ) → place < l.low → slice_get (ids_of l.links l.partition) place ≡ Some id → is_after l.previous id ≡ false;
  from : (place id : ℕ) → l.high ≤ place → slice_get (ids_of l.links l.partition) place ≡ Some id → is_after l.previous id ≡ true;
}

abbrev pub decreases-loop-low : goal.decreases-loop-low
decreases-loop-low l = l.high - l.low
