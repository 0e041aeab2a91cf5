use Rattle.std.proofs.Common.{◌≡◌, ◌≢◌, [], ◌∷◌, ◌==◌, Bool, true, false, not, length, refl, sym, ap, ◌∙◌, subst, arith}
use Rattle.std.proofs.lemmas.Bool.{false≢true}
use Rattle.std.proofs.lemmas.Bool.Decides.{nat_tests}
use Rattle.hv_check.proofs.LineTexts.{Bytes, no_end, no_line_end, no_line_none}
use Rattle.hv_check.proofs.audit.is_event.Goals as goal
use Rattle.hv_check.specs.From.{IsNoLine}

not_empty : (text : Bytes) (b : Bool) → b ≡ (length text == 0) → not b ≡ true → text ≢ []
not_empty [] b is some none = false≢true (sym (ap not is) ∙ some)
not_empty (c ∷ more) b is some none = absurd (cc)

empty : (text : Bytes) (b : Bool) → b ≡ (length text == 0) → not b ≡ false → text ≡ []
empty [] b is none = refl
empty (c ∷ more) b is none =
    let no : (length (c ∷ more) == 0) ≡ false = grind (arith, nat_tests) in
    absurd (false≢true (sym none ∙ ap not (is ∙ no)))

pub returns-in-Some-clause-none : goal.returns-in-Some-clause-none
returns-in-Some-clause-none c same = no_line_end c.args.text.now _ c.in-Some.ensures.some

pub returns-in-None-clause-event : goal.returns-in-None-clause-event
returns-in-None-clause-event c some = no_end c.args.text.now (not_empty c.args.text.now c.is_empty.result c.is_empty.ensures some) c.in-None.ensures.none

pub returns-in-None-clause-none : goal.returns-in-None-clause-none
returns-in-None-clause-none c none = subst IsNoLine (sym (empty c.args.text.now c.is_empty.result c.is_empty.ensures none)) no_line_none
