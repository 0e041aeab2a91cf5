use Rattle.std.proofs.Common.{ℕ, List, [], ◌∷◌, ◌++◌, ap, ◌∙◌, subst, codes, OnOk}
use Rattle.std.specs.Io.KnownBytes.{Appends}
use Rattle.hv_mail.specs.Words.{has_bit}
use Rattle.hv_trace.specs.Effect.{array_text, picked}
use Rattle.hv_trace.proofs.JoinedNumbers.{picked_shown}
use Rattle.hv_trace.proofs.effect.put_shown.Goals as goal

pub returns : goal.returns
returns g c =
    subst (λ (ns : List ℕ). OnOk c.put_bits.result (Appends (g.W.Write.contents c.args.out.now) (g.W.Write.contents c.put_bits.new.out) (codes ",\"shown\":" ++ array_text ns)))
    (ap (λ (n : ℕ). picked (has_bit (n ∷ [])) 16) c.from.ensures ∙ picked_shown c.args.shown) c.put_bits.ensures
