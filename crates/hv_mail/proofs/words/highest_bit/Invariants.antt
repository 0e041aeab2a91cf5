use Rattle.std.proofs.Common.{◌*◌, ◌≤◌, length}
use Rattle.hv_mail.proofs.WordBits.{IsClearFrom}
use Rattle.hv_mail.proofs.words.highest_bit.Given as goal

abbrev pub invariant-loop-place : goal.invariant-loop-place
invariant-loop-place l = (l.place ≤ length l.words) × IsClearFrom l.words (64 * l.place)

abbrev pub decreases-loop-place : goal.decreases-loop-place
decreases-loop-place l = l.place
