use Rattle.std.proofs.Common.{ℕ, Option, subst}
use Rattle.hv_serve.proofs.ReadLines.{reading_more}
use Rattle.hv_serve.specs.Input.{IsNext}
use Rattle.hv_serve.proofs.input.read_line.Goals as goal

pub loop-preserved : goal.loop-preserved
loop-preserved g c =
    let old = g.R.Read.remaining c.args.reader.now in
    let mid = g.R.Read.remaining c.loop.reader in
    let new = g.R.Read.remaining c.next_byte.new.reader in
    reading_more c.loop.line.items c.keep_byte-lost.new.line.items c.loop.lost c.keep_byte-lost.result old mid new c.in-Some.byte c.loop.invariant c.in-Some.byte-test.1
    (subst (λ (next : Option ℕ). IsNext next mid new) c.in-Some.is c.in_ok-next_byte.ensures) c.keep_byte-lost.ensures
