use Rattle.std.proofs.Common.{◌∙◌, sym, ap, option_map}
use Rattle.hv_defs.specs.declared.registers.RegisterRow.{RegisterRow}
use Rattle.hv_vp.proofs.Tables.{row_known, row_unknown}
use Rattle.hv_vp.proofs.table.privilege_of.Goals as goal

pub returns-in-Some : goal.returns-in-Some
returns-in-Some c = sym (ap (option_map (λ (row : RegisterRow). row.privilege)) (row_known c.args.name c.in-Some.place _ (sym c.place_of.ensures.place ∙ c.in-Some.is)))

pub returns-in-None : goal.returns-in-None
returns-in-None c = sym (ap (option_map (λ (row : RegisterRow). row.privilege)) (row_unknown c.args.name (sym c.place_of.ensures.place ∙ c.in-None.is)))
