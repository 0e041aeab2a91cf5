use Rattle.std.proofs.Common.{◌∙◌, ap, sym, arith, option_and_then}
use Rattle.hv_script.specs.Number.{fitting}
use Rattle.hv_script.proofs.NumberLemmas.{narrower_number}
use Rattle.hv_script.proofs.number.number_in.Goals as goal

pub returns-clause-number : goal.returns-clause-number
returns-clause-number c =
    c.fitting.ensures.number ∙ ap (option_and_then (fitting c.args.bits)) c.number_64.ensures ∙ sym (narrower_number c.args.bits c.args.word.now (omega (arith, c.requires)))
