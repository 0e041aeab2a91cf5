use Rattle.std.proofs.Common.{◌∷◌, ℕ, [], get_or, map, subst, sym, take}
use Rattle.std.specs.Io.KnownBytes.{Appends}
use Rattle.std.proofs.KnownBytes.{Appends-trans}
use Rattle.hv_serve.specs.Json.{separated}
use Rattle.hv_serve.proofs.Strings.{separated_more}
use Rattle.hv_serve.proofs.json.put_separated.Goals as goal

pub loop-at-preserved : goal.loop-at-preserved
loop-at-preserved g c =
    let text = c.args.text.now in
    let at = c.loop-at.at in
    let first = g.W.Write.contents c.args.out.now in
    let second = g.W.Write.contents c.loop-at.out in
    let third = g.W.Write.contents c.put_bytes.new.out in
    subst (Appends first third) (sym (separated_more text at c.loop-at-test.true))
    (Appends-trans first second third (map separated (take at text)) (separated (get_or text at 0) ∷ []) c.loop-at.invariant
    (subst (λ (b : ℕ). Appends second third (b ∷ [])) c.separated.ensures c.in_ok-put_bytes.ensures))
