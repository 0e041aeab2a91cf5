use Rattle.std.proofs.Common.{◌∙◌, sym}
use Rattle.hv_vp.proofs.ShownMessages.{unchanged, written-refused}
use Rattle.hv_vp.proofs.vp.Vp.write_reg.Goals as goal

pub returns-in_err-write-clause-state : goal.returns-in_err-write-clause-state
returns-in_err-write-clause-state g c =
    rw (← c.self.view_is, c.write.ensures.registers) (written-refused c.args.name c.args.value _ _ (sym c.write.ensures.answer ∙ c.in_err-write.was))

pub returns-in_err-write-clause-unchanged : goal.returns-in_err-write-clause-unchanged
returns-in_err-write-clause-unchanged g c =
    rw (← c.self.view_is, c.write.ensures.registers) (unchanged c.args.name c.args.value _ _ _ (sym c.write.ensures.answer ∙ c.in_err-write.was))
