use Rattle.std.proofs.Common.{◌++◌, codes, decimal, ℕ, subst}
use Rattle.std.specs.Io.KnownBytes.{Appends}
use Rattle.hv_draw.proofs.Parts.{three}
use Rattle.hv_draw.specs.Shapes.{cross_text}
use Rattle.hv_draw.proofs.shapes.put_cross.Goals as goal

pub returns : goal.returns
unfolding cross_text
returns g c =
    three _ _ _ _ _ _ _ _
    (subst (λ (n : ℕ). Appends (g.W.Write.contents c.args.out.now) (g.W.Write.contents c.put_number.new.out) (codes "<path class=\"cross\" d=\"M" ++ decimal n)) c.saturating_sub.ensures
    c.in_ok-put_number.ensures)
    (subst (λ (n : ℕ). Appends (g.W.Write.contents c.put_number.new.out) (g.W.Write.contents c.put_number-2.new.out) (codes " " ++ decimal n)) c.saturating_sub-2.ensures
    c.in_ok-put_number-2.ensures) c.write_all.ensures.bytes
