-- None before this index comes after `previous`, and so many processors are left.
use Rattle.std.proofs.Common.{◌≡◌, ℕ, ◌<◌, true, false}
use Rattle.std.specs.FinMap as map
use Rattle.hv_embed.specs.Next.{is_after}
use Rattle.hv_embed.proofs.Following.{HasLeft}
use Rattle.hv_embed.proofs.next.next_vp.Given as goal

abbrev pub invariant-loop-index : goal.invariant-loop-index
invariant-loop-index l = record {
  before : (q : ℕ) → q < l.index → map.contains_key l.partition.vps.vps q ≡ true → is_after l.previous q ≡ false;
  left : HasLeft l.partition.vps.vps l.index l.left;
}
