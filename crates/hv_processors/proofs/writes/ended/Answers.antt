use Rattle.std.proofs.Common.{◌≡◌, cond, sym, ap, ◌∙◌, ne_eqb}
use Rattle.hv_defs.specs.Vectors.{VectorSet}
use Rattle.hv_defs.specs.declared.sizes.TheConstants.{SINTS}
use Rattle.hv_admit.specs.Effect.{has_bit, quiet}
use Rattle.hv_admit.specs.Ended.{vectors_of}
use Rattle.hv_admit.specs.declared.effect.Effect.{Effect}
use Rattle.hv_admit.specs.declared.effect.Effect.TheVariants as variant
use Rattle.hv_processors.proofs.writes.ended.Goals as goal

pub returns : goal.returns
returns g c =
    let effect : VectorSet → Effect = λ vectors. variant.Synic (record (quiet c.args.part c.args.index) { shown = c.args.due; raised = vectors }) in
    ap effect c.raised_by.ensures
    ∙ sym (ap (λ none. cond none variant.Nothing (effect (vectors_of (has_bit c.args.due) c.args.vp.now.registers SINTS))) (ne_eqb c.args.due 0 c.if-due-eq0.false))
