use Rattle.std.proofs.Common.{◌≡◌, ◌∙◌, true, false, ap, sym, rules}
use Rattle.clap.specs.Words.{kind_of}
use Rattle.hv_options.specs.Options.{is_request}
use Rattle.hv_options.proofs.OptionsLemmas.{explains_mistake, explains_request}
use Rattle.hv_options.proofs.command_line.refusal.Goals as goal

pub returns-in-Ok-clause-explains : goal.returns-in-Ok-clause-explains
returns-in-Ok-clause-explains c =
    let asked : is_request (kind_of c.args.error.now) ≡ true =
    ap is_request (sym c.kind-kind.ensures) ∙ sym c.is_request.ensures ∙ c.if-is_request.true in
    λ kinds has. explains_request c.args.error.now kinds has asked

pub returns-in-Ok-2-clause-explains : goal.returns-in-Ok-2-clause-explains
returns-in-Ok-2-clause-explains c =
    let mistaken : is_request (kind_of c.args.error.now) ≡ false =
    ap is_request (sym c.kind-kind.ensures) ∙ sym c.is_request.ensures ∙ c.if-is_request.false in
    λ kinds has. explains_mistake c.args.error.now kinds has (search rules) mistaken
