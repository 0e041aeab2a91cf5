use Rattle.std.proofs.Common.{◌≡◌, ◌-◌, ◌==◌, true, false, sym, ap, ◌∙◌, arith, ne_eqb}
use Rattle.std.proofs.lemmas.Nat.Bits.{shr_and_one}
use Rattle.std.specs.Int.{bit_at}
use Rattle.hv_defs.specs.Vectors.{raised}
use Rattle.hv_admit.specs.Effect.{has_bit}
use Rattle.hv_admit.specs.Ended.{vectors_of}
use Rattle.hv_mail.proofs.PartitionRelation.{no_bits_from}
use Rattle.hv_processors.proofs.WrittenRegister.{vectors_next, vectors_none_from}
use Rattle.hv_processors.proofs.writes.raised_by.Goals.{then-due-sint-eq1, else-due-sint-eq1}
use Rattle.hv_processors.proofs.writes.raised_by.Goals as goal

pub loop-sint-init : goal.loop-sint-init
unfolding vectors_of
loop-sint-init g c = c.new-raised.ensures

pub loop-sint-preserved : goal.loop-sint-preserved
loop-sint-preserved g c =
    let due = c.args.due in
    let sint = c.loop-sint.sint in
    let next = vectors_next (has_bit due) c.args.vp.now.registers sint c.loop-sint.raised in
    elim c.if-due-sint-eq1.branch [
      | then-due-sint-eq1 w ↦
          let set : has_bit due sint ≡ true = ap (λ b. b == 1) (sym (shr_and_one due sint) ∙ w.if-due-sint-eq1.true) in
          next _ c.loop-sint.invariant true set (◌∙◌ {c = raised c.args.vp.now.registers sint c.loop-sint.raised} w.raised-is w.add_vector.ensures)
      | else-due-sint-eq1 w ↦
          let clear : has_bit due sint ≡ false = ne_eqb (bit_at due sint) 1 (λ e. w.if-due-sint-eq1.false (shr_and_one due sint ∙ e)) in
          next _ c.loop-sint.invariant false clear w.raised-is
    ]

pub returns : goal.returns
returns g c = c.loop-sint.invariant ∙ ap (vectors_of (has_bit c.args.due) c.args.vp.now.registers) (omega arith)

pub returns-then-due-sint-eq0 : goal.returns-then-due-sint-eq0
returns-then-due-sint-eq0 g c =
    let due = c.args.due in
    let sint = c.loop-sint.sint in
    vectors_none_from (has_bit due) c.args.vp.now.registers (16 - sint) sint c.loop-sint.raised c.loop-sint.invariant
    (λ k from. ap (λ b. b == 1) (no_bits_from due sint k c.if-due-sint-eq0.true from))
    ∙ ap (vectors_of (has_bit due) c.args.vp.now.registers) (omega arith)
