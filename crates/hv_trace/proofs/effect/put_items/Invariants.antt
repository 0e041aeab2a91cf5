use Rattle.hv_mail.specs.Words.{has_bit}
use Rattle.hv_trace.proofs.JoinedNumbers.{AreWritten}
use Rattle.hv_trace.proofs.effect.put_items.Given as goal

abbrev pub invariant-loop-at : goal.invariant-loop-at
invariant-loop-at g l = AreWritten (has_bit l.words) l.at l.comma (g.W.Write.contents l.initial.out) (g.W.Write.contents l.out)
