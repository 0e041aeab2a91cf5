use Rattle.std.proofs.Common.{ℕ, List, ap, codes, map, subst, take}
use Rattle.std.specs.Io.KnownBytes.{Appends}
use Rattle.std.proofs.KnownBytes.{Appends-trans}
use Rattle.std.proofs.lemmas.Result.{on_ok_weaker}
use Rattle.hv_serve.specs.Json.{elements, separated}
use Rattle.hv_serve.proofs.json.put_trace.Goals as goal

pub returns : goal.returns
returns g c =
    let objects = c.args.objects.now in
    let first = g.W.Write.contents c.args.out.now in
    let second = g.W.Write.contents c.put_bytes.new.out in
    let third = g.W.Write.contents c.put_separated.new.out in
    let head : List ℕ = codes "],\"trace\":[" in
    on_ok_weaker c.put_separated.result
    (λ went. Appends-trans first second third head (elements objects) c.in_ok-put_bytes.ensures
    (subst (Appends second third) (ap (λ (n : ℕ). map separated (take n objects)) c.saturating_sub.ensures) went))
    c.put_separated.ensures
