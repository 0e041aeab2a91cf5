use Rattle.std.proofs.Common.{◌∙◌, sym, ap}
use Rattle.hv_defs.specs.Registers.{take}
use Rattle.hv_vp.proofs.Tables.{kept_known, kept_unknown}
use Rattle.hv_vp.proofs.table.kept.Goals as goal

pub returns-in-Some : goal.returns-in-Some
returns-in-Some c = c.take.ensures ∙ ap (λ takes. take takes c.args.value) c.takes_at.ensures ∙ sym (kept_known c.args.name c.args.value c.in-Some.place (sym c.place_of.ensures.place ∙ c.in-Some.is))

pub returns-in-None : goal.returns-in-None
returns-in-None c = sym (kept_unknown c.args.name c.args.value (sym c.place_of.ensures.place ∙ c.in-None.is))
