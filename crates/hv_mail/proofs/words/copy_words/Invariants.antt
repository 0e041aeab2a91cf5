use Rattle.std.proofs.Common.{◌≡◌, ◌*◌, take}
use Rattle.hv_mail.proofs.WordBytes.{bytes_from}
use Rattle.hv_mail.proofs.words.copy_words.Given as goal

abbrev pub invariant-loop-i : goal.invariant-loop-i
invariant-loop-i l = take (8 * l.i) l.bytes ≡ bytes_from l.words l.first 0 (8 * l.i)
