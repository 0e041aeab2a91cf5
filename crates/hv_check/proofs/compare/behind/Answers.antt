use Rattle.std.proofs.Common.{◌≢◌, ◌-◌, length, take, drop, sym, ◌∙◌, true, false}
use Rattle.std.proofs.Common.{length-take-le, take-append-drop}
use Rattle.std.proofs.lemmas.Bool.{false≢true}
use Rattle.hv_check.proofs.Compared.{begins_not, same_bytes}
use Rattle.hv_check.proofs.compare.behind.Goals as goal

pub returns-else-eq-clause-none : goal.returns-else-eq-clause-none
returns-else-eq-clause-none c rest is =
    let text = c.args.text.now in
    let bytes = c.args.bytes.now in
    begins_not text (take (length bytes) text) (drop (length bytes) text) bytes rest (sym (take-append-drop (length bytes) text)) (length-take-le (length bytes) text c.if-bytes-text.false)
    (λ same. false≢true (sym c.if-eq.false ∙ c.eq.ensures ∙ same_bytes c.split_at.result.0.now bytes (c.split_at.ensures.front ∙ same))) is
