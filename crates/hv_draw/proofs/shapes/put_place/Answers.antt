use Rattle.std.proofs.Common.{◌++◌, codes, List, ℕ, subst}
use Rattle.std.specs.Io.KnownBytes.{Appends}
use Rattle.hv_draw.proofs.Parts.{four}
use Rattle.hv_draw.specs.Shapes.{place_text}
use Rattle.hv_draw.proofs.shapes.put_place.Goals as goal

pub returns : goal.returns
unfolding place_text
returns g c =
    four _ _ _ _ _ _ _ _ _ _
    (subst (λ (l : List ℕ). Appends (g.W.Write.contents c.args.out.now) (g.W.Write.contents c.put_text.new.out) (codes "<text class=\"" ++ l ++ codes "\"")) c.class_of.ensures
    c.in_ok-put_text.ensures) c.in_ok-put_number.ensures c.in_ok-put_number-2.ensures c.write_all.ensures.bytes
