use Rattle.std.proofs.Common.{◌≡◌, ℕ, ◌+◌, ◌-◌, List, ◌++◌, length, sym, ap, ◌∙◌, subst, inl, inr, Some}
use Rattle.std.proofs.Common.{codes}
use Rattle.hv_policy.specs.Rule.{rule_name}
use Rattle.hv_check.specs.Legal.{bare_text}
use Rattle.hv_check.specs.Tail.{IsBehindName, name_in}
use Rattle.hv_check.proofs.Compared.{bare_line, name_length, named_none, named_some, none_map, plain_none, plain_some, same_mid, some_map}
use Rattle.hv_check.proofs.compare.behind_line.Goals as goal

pub returns-then-rules-clause-none : goal.returns-then-rules-clause-none
returns-then-rules-clause-none c number entry output is reply =
    none_map c.behind.result _ _ (λ none rest line. plain_none c.args.rules number entry c.args.answer output c.args.text.now c.args.line.now (inl c.if-rules.true) is reply none rest line)
    c.behind.ensures.none

pub returns-in-None-clause-some : goal.returns-in-None-clause-some
returns-in-None-clause-some c number entry output is reply =
    some_map c.behind-in-None.result _ _ (λ rest all. plain_some c.args.rules number entry c.args.answer output c.args.text.now c.args.line.now rest.now (inr (sym c.name_in.ensures ∙ c.in-None.is)) is
    reply all) c.behind-in-None.ensures.some

pub returns-in-None-clause-none : goal.returns-in-None-clause-none
returns-in-None-clause-none c number entry output is reply =
    none_map c.behind-in-None.result _ _ (λ none rest line. plain_none c.args.rules number entry c.args.answer output c.args.text.now c.args.line.now (inr (sym c.name_in.ensures ∙ c.in-None.is)) is
    reply none rest line) c.behind-in-None.ensures.none

pub returns-in-Some-behind-clause-some : goal.returns-in-Some-behind-clause-some
returns-in-Some-behind-clause-some c number entry output is reply =
    let some : name_in c.args.answer ≡ Some c.in-Some.rule = sym c.name_in.ensures ∙ c.in-Some.is in
    let bare : c.without_end.result.now ≡ bare_text number entry = c.without_end.ensures (bare_text number entry) (codes " " ++ rule_name c.in-Some.rule ++ codes "\n")
    (bare_line number entry c.args.answer c.in-Some.rule output c.args.line.now some is reply) (name_length (rule_name c.in-Some.rule) ∙ ap (λ (l : List ℕ). length l + 2) (sym c.name.ensures)) in
    some_map c.behind_name.result _ _
    (λ rest name.
    named_some c.args.rules number entry c.args.answer c.in-Some.rule output c.args.text.now c.without_end.result.now c.in-Some-behind.rest.now rest.now c.if-rules.false some reply bare
    c.in-Some-behind.ensures.some name)
    c.behind_name.ensures.some

pub returns-in-Some-behind-clause-none : goal.returns-in-Some-behind-clause-none
returns-in-Some-behind-clause-none c number entry output is reply =
    let some : name_in c.args.answer ≡ Some c.in-Some.rule = sym c.name_in.ensures ∙ c.in-Some.is in
    let bare : c.without_end.result.now ≡ bare_text number entry = c.without_end.ensures (bare_text number entry) (codes " " ++ rule_name c.in-Some.rule ++ codes "\n")
    (bare_line number entry c.args.answer c.in-Some.rule output c.args.line.now some is reply) (name_length (rule_name c.in-Some.rule) ∙ ap (λ (l : List ℕ). length l + 2) (sym c.name.ensures)) in
    none_map c.behind_name.result _ _
    (λ none rest line.
    named_none c.args.rules number entry c.args.answer c.in-Some.rule output c.args.text.now c.without_end.result.now c.if-rules.false some reply bare
    (λ mid behind all name.
    none behind (subst (λ (l : List ℕ). IsBehindName l behind) (same_mid c.args.text.now c.without_end.result.now c.in-Some-behind.rest.now mid c.in-Some-behind.ensures.some all) name))
    rest line)
    c.behind_name.ensures.none

pub returns-in-None-behind-clause-none : goal.returns-in-None-behind-clause-none
returns-in-None-behind-clause-none c number entry output is reply rest line =
    let some : name_in c.args.answer ≡ Some c.in-Some.rule = sym c.name_in.ensures ∙ c.in-Some.is in
    let bare : c.without_end.result.now ≡ bare_text number entry = c.without_end.ensures (bare_text number entry) (codes " " ++ rule_name c.in-Some.rule ++ codes "\n")
    (bare_line number entry c.args.answer c.in-Some.rule output c.args.line.now some is reply) (name_length (rule_name c.in-Some.rule) ∙ ap (λ (l : List ℕ). length l + 2) (sym c.name.ensures)) in
    named_none c.args.rules number entry c.args.answer c.in-Some.rule output c.args.text.now c.without_end.result.now c.if-rules.false some reply bare
    (λ mid behind all name. c.in-None-behind.ensures.none mid all) rest line
