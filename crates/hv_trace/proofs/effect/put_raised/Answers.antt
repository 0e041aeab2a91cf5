use Rattle.std.proofs.Common.{ℕ, List, ◌++◌, subst, codes, OnOk}
use Rattle.std.specs.Io.KnownBytes.{Appends}
use Rattle.hv_trace.specs.Effect.{array_text}
use Rattle.hv_trace.proofs.JoinedNumbers.{picked_raised}
use Rattle.hv_trace.proofs.effect.put_raised.Goals as goal

pub returns : goal.returns
returns g c =
    subst (λ (ns : List ℕ). OnOk c.put_bits.result (Appends (g.W.Write.contents c.args.out.now) (g.W.Write.contents c.put_bits.new.out) (codes ",\"raised\":" ++ array_text ns)))
    (picked_raised c.words-words.result c.args.raised.now c.words-words.ensures) c.put_bits.ensures
