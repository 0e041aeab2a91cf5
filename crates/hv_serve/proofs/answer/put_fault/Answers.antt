use Rattle.std.proofs.Common.{◌≡◌, ◌∙◌, ◌++◌, codes, decimal, subst}
use Rattle.std.specs.Io.KnownBytes.{Appends}
use Rattle.std.proofs.KnownBytes.{Appends-trans}
use Rattle.std.proofs.lemmas.Result.{on_ok_weaker}
use Rattle.hv_serve.specs.Outcome.{fault_text, why_text}
use Rattle.hv_serve.proofs.answer.put_fault.Goals as goal

pub returns : goal.returns
unfolding fault_text
returns g c =
    let first = g.W.Write.contents c.args.out.now in
    let second = g.W.Write.contents c.put_number.new.out in
    let third = g.W.Write.contents c.put_bytes.new.out in
    let why : c.as_bytes.result.now ≡ why_text c.args.outcome = c.as_bytes.ensures.value ∙ c.text.ensures in
    let head = codes "fault: line " ++ decimal c.args.number ++ codes ": " in
    on_ok_weaker c.put_bytes-2.result
    (Appends-trans first third (g.W.Write.contents c.put_bytes-2.new.out) (head ++ why_text c.args.outcome) (codes "\n")
    (Appends-trans first second third head (why_text c.args.outcome) c.in_ok-put_number.ensures (subst (Appends second third) why c.in_ok-put_bytes.ensures)))
    c.put_bytes-2.ensures
