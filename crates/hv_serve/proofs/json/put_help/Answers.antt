use Rattle.std.proofs.Common.{◌≡◌, ℕ, List, codes, subst}
use Rattle.std.specs.Io.KnownBytes.{Appends}
use Rattle.std.proofs.KnownBytes.{Appends-trans}
use Rattle.std.proofs.lemmas.Result.{on_ok_weaker}
use Rattle.hv_serve.specs.Json.{string_of}
use Rattle.hv_serve.specs.declared.help.TheConstants.{HELP}
use Rattle.hv_serve.proofs.json.put_help.Goals as goal

pub returns : goal.returns
returns g c =
    let first = g.W.Write.contents c.args.out.now in
    let second = g.W.Write.contents c.put_bytes.new.out in
    let third = g.W.Write.contents c.put_string.new.out in
    on_ok_weaker c.put_string.result
    (λ wrote. Appends-trans first second third (codes ",\"help\":") (string_of HELP.now) c.in_ok-put_bytes.ensures
    (subst (λ (text : List ℕ). Appends second third (string_of text)) c.as_bytes.ensures.value wrote))
    c.put_string.ensures
