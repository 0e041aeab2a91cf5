use Rattle.std.proofs.Common.{sym, ◌∙◌, refl}
use Rattle.std.proofs.lemmas.Result.{err_from_is_err_and}
use Rattle.hv_vp.proofs.Tables.{kept_unknown, kept_known, written}
use Rattle.hv_vp.proofs.registers.Registers.write.Goals as goal

pub returns-in_default-clause-answer : goal.returns-in_default-clause-answer
returns-in_default-clause-answer c = rw (kept_unknown c.args.name c.args.value (sym c.place_of.ensures.place ∙ c.in_default.is)) refl

pub returns-in_default-clause-registers : goal.returns-in_default-clause-registers
returns-in_default-clause-registers c = rw (kept_unknown c.args.name c.args.value (sym c.place_of.ensures.place ∙ c.in_default.is)) refl

pub returns-in_err-kept-clause-answer : goal.returns-in_err-kept-clause-answer
returns-in_err-kept-clause-answer c =
    let known = kept_known c.args.name c.args.value c.in-Some.place (sym c.place_of.ensures.place ∙ c.in-Some.is) in
    let p = err_from_is_err_and c.from_residual.result c.from_residual.ensures.1 in
    rw (p.1, p.2, known, ← c.takes_at.ensures, ← c.take.ensures, c.in_err-kept.was) refl

pub returns-in_err-kept-clause-registers : goal.returns-in_err-kept-clause-registers
returns-in_err-kept-clause-registers c =
    let known = kept_known c.args.name c.args.value c.in-Some.place (sym c.place_of.ensures.place ∙ c.in-Some.is) in
    rw (known, ← c.takes_at.ensures, ← c.take.ensures, c.in_err-kept.was) refl

pub returns-clause-answer : goal.returns-clause-answer
returns-clause-answer c =
    let known = kept_known c.args.name c.args.value c.in-Some.place (sym c.place_of.ensures.place ∙ c.in-Some.is) in
    rw (known, ← c.takes_at.ensures, ← c.take.ensures, c.in_ok-kept.was) refl

pub returns-clause-registers : goal.returns-clause-registers
returns-clause-registers c =
    let scan = sym c.place_of.ensures.place ∙ c.in-Some.is in
    let known = kept_known c.args.name c.args.value c.in-Some.place scan in
    rw (known, ← c.takes_at.ensures, ← c.take.ensures, c.in_ok-kept.was, ← c.self.view_is) (written c.args.name c.self.inside.values c.in-Some.place c.in_ok-kept.kept c.self.told scan)
