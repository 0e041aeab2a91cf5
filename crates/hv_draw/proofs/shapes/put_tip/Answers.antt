use Rattle.std.proofs.Common.{◌≡◌, ◌==◌, ◌++◌, arith, codes, decimal, Bool, false, OnOk, if◌then◌else◌, subst, sym}
use Rattle.std.proofs.lemmas.Bool.Decides.{nat_tests}
use Rattle.std.specs.Io.KnownBytes.{Appends}
use Rattle.hv_draw.proofs.Parts.{two}
use Rattle.hv_draw.specs.Shapes.{tip_text}
use Rattle.hv_draw.proofs.shapes.put_tip.Goals as goal

pub returns-in_ok-put_number : goal.returns-in_ok-put_number
unfolding tip_text
returns-in_ok-put_number g c =
    let apart : (c.args.place.from == c.args.place.to) ≡ false = grind (arith, nat_tests, c.if-place.false) in
    subst (λ (same : Bool). OnOk c.write_all-else-place.result (Appends (g.W.Write.contents c.args.out.now) (g.W.Write.contents c.write_all-else-place.new.self)
    (if same then codes "h24v8h-20\"/>" else (codes "H" ++ decimal c.args.place.to ++ codes "\"/>")))) (sym apart)
    (two _ _ _ _ _ _ c.in_ok-put_number.ensures c.write_all-else-place.ensures.bytes)
