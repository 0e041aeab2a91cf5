use Rattle.std.proofs.Common.{sym, ◌∙◌}
use Rattle.hv_mail.specs.Words.{has_bit}
use Rattle.hv_trace.proofs.JoinedNumbers.{none_more, none_written, one_written}
use Rattle.hv_trace.proofs.effect.put_items.Goals as goal

pub loop-at-init : goal.loop-at-init
loop-at-init g c = none_written (has_bit c.args.words.now) (g.W.Write.contents c.args.out.now)

pub loop-at-preserved-then-not-is_bit_set : goal.loop-at-preserved-then-not-is_bit_set
loop-at-preserved-then-not-is_bit_set g c =
    none_more (has_bit c.args.words.now) (g.W.Write.contents c.args.out.now) c.loop-at.at _ _ (sym c.is_bit_set.ensures ∙ c.if-not-is_bit_set.true) c.loop-at.invariant

pub loop-at-preserved : goal.loop-at-preserved
loop-at-preserved g c =
    one_written (has_bit c.args.words.now) (g.W.Write.contents c.args.out.now) c.loop-at.at _ _ _ (sym c.is_bit_set.ensures ∙ c.if-not-is_bit_set.false) c.loop-at.invariant
    c.in_ok-put_number.ensures
