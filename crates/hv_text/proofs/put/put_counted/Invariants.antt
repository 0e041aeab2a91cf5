-- Some of the first bytes went out, were counted, and the others are left.
use Rattle.std.proofs.Common.{◌≡◌, ℕ, ◌+◌, List, ◌++◌, length, Option}
use Rattle.hv_text.specs.Fault.{HasSent}
use Rattle.hv_text.proofs.put.put_counted.Given as goal

abbrev pub invariant-loop : goal.invariant-loop
invariant-loop g l = record {
  sent : (start : Option (List ℕ)) (text more : List ℕ) → HasSent start (g.W.Write.contents l.initial.out) text (l.bytes ++ more) l.initial.written
      → HasSent start (g.W.Write.contents l.out) text (l.rest ++ more) l.written;
  count : l.written + length l.rest ≡ l.initial.written + length l.bytes;
}
