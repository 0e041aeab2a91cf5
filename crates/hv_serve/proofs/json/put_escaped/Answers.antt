use Rattle.std.proofs.Common.{get_or, subst, sym, take}
use Rattle.std.specs.Io.KnownBytes.{Appends}
use Rattle.std.proofs.KnownBytes.{Appends-trans}
use Rattle.hv_serve.specs.Json.{all_escaped, escaped}
use Rattle.hv_serve.proofs.Strings.{escaped_more}
use Rattle.hv_serve.proofs.json.put_escaped.Goals as goal

pub loop-at-preserved : goal.loop-at-preserved
loop-at-preserved g c =
    let text = c.args.text.now in
    let at = c.loop-at.at in
    let first = g.W.Write.contents c.args.out.now in
    let second = g.W.Write.contents c.loop-at.out in
    let third = g.W.Write.contents c.put_byte.new.out in
    subst (Appends first third) (sym (escaped_more text at c.loop-at-test.true))
    (Appends-trans first second third (all_escaped (take at text)) (escaped (get_or text at 0)) c.loop-at.invariant c.in_ok-put_byte.ensures)
