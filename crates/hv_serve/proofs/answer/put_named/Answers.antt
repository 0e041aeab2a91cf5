use Rattle.std.proofs.Common.{◌++◌, codes, decimal}
use Rattle.std.proofs.KnownBytes.{Appends-trans}
use Rattle.std.proofs.lemmas.Result.{on_ok_weaker}
use Rattle.hv_serve.specs.Outcome.{named_fault_text}
use Rattle.hv_serve.proofs.answer.put_named.Goals as goal

pub returns : goal.returns
unfolding named_fault_text
returns g c =
    let first = g.W.Write.contents c.args.out.now in
    let second = g.W.Write.contents c.put_number.new.out in
    let third = g.W.Write.contents c.put_shown.new.out in
    on_ok_weaker c.put_bytes.result
    (Appends-trans first third (g.W.Write.contents c.put_bytes.new.out) _ (codes "\n")
    (Appends-trans first second third (codes "fault: line " ++ decimal c.args.number ++ codes ": ") _ c.in_ok-put_number.ensures c.in_ok-put_shown.ensures))
    c.put_bytes.ensures
