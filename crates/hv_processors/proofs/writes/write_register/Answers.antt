use Rattle.std.proofs.Common.{◌≡◌, ap, ◌∙◌, ne_eqb}
use Rattle.hv_defs.specs.declared.registers.TheConstants.{EOM}
use Rattle.hv_defs.specs.declared.sizes.TheConstants.{SINTS}
use Rattle.hv_admit.specs.Effect.{has_bit}
use Rattle.hv_admit.specs.Ended.{ended_effect, vectors_of}
use Rattle.hv_vp.specs.Vp.{VpState, written}
use Rattle.hv_processors.proofs.WrittenRegister.{end_told, write_told}
use Rattle.hv_processors.proofs.writes.write_register.Goals.{then-name-eq-EOM, else-name-eq-EOM}
use Rattle.hv_processors.proofs.writes.write_register.Goals as goal

pub returns-in-Ok-clause-told : goal.returns-in-Ok-clause-told
returns-in-Ok-clause-told g c rows f at flat =
    let part = c.args.part in
    let index = c.args.index in
    let due = c.if-name-eq-EOM.due in
    let vectors = λ (v : VpState). vectors_of (has_bit due) v.registers SINTS in
    elim c.if-name-eq-EOM.branch [
      | then-name-eq-EOM w ↦
          let is : c.args.name ≡ EOM = w.if-name-eq-EOM.true in
          let told = end_told rows f flat part index c.args.vp.now at c.args.value due (λ k. ap (λ due. has_bit due k) w.due-is ∙ w.due-due.ensures k) in
          let effect = ◌∙◌ {b = ended_effect part index due (vectors c.write_reg.new.self)} c.ended.ensures
          (ap (λ v. ended_effect part index due (vectors v)) (c.write_reg.ensures.state ∙ ap (λ name. written name c.args.value c.args.vp.now) is)) in
          rw effect (rw is told)
      | else-name-eq-EOM w ↦
          rw (c.ended.ensures ∙ ap (λ due. ended_effect part index due (vectors c.write_reg.new.self)) w.due-is)
          (write_told rows f flat part index c.args.name c.args.value (ne_eqb c.args.name EOM w.if-name-eq-EOM.false))
    ]
