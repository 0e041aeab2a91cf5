use Rattle.std.proofs.Common.{OnOk, subst, sym}
use Rattle.std.specs.Io.KnownBytes.{Appends}
use Rattle.hv_admit.specs.declared.effect.Effect.{Effect}
use Rattle.hv_trace.proofs.PartsInOrder.{four, three, two}
use Rattle.hv_trace.specs.Effect.{effect_text}
use Rattle.hv_trace.proofs.effect.put_effect.Goals as goal

pub returns-in_ok-put_bool-in-Page : goal.returns-in_ok-put_bool-in-Page
unfolding effect_text
returns-in_ok-put_bool-in-Page g c =
    subst (λ (effect : Effect). OnOk c.write_all-in-Page.result (Appends (g.W.Write.contents c.args.out.now) (g.W.Write.contents c.write_all-in-Page.new.self) (effect_text effect))) (sym c.in-Page.is)
    (four _ _ _ _ _ _ _ _ _ _ c.in_ok-put_number-in-Page.ensures c.in_ok-put_number-in-Page-2.ensures c.in_ok-put_bool-in-Page.ensures c.write_all-in-Page.ensures.bytes)

pub returns-in_ok-put_number-in-Pages-2 : goal.returns-in_ok-put_number-in-Pages-2
unfolding effect_text
returns-in_ok-put_number-in-Pages-2 g c =
    subst (λ (effect : Effect). OnOk c.write_all-in-Pages.result (Appends (g.W.Write.contents c.args.out.now) (g.W.Write.contents c.write_all-in-Pages.new.self) (effect_text effect)))
    (sym c.in-Pages.is)
    (three _ _ _ _ _ _ _ _ c.in_ok-put_number-in-Pages.ensures c.in_ok-put_number-in-Pages-2.ensures c.write_all-in-Pages.ensures.bytes)

pub returns-in_ok-put_processor-in-Processor : goal.returns-in_ok-put_processor-in-Processor
unfolding effect_text
returns-in_ok-put_processor-in-Processor g c =
    subst (λ (effect : Effect). OnOk c.write_all-in-Processor.result (Appends (g.W.Write.contents c.args.out.now) (g.W.Write.contents c.write_all-in-Processor.new.self) (effect_text effect)))
    (sym c.in-Processor.is)
    (two _ _ _ _ _ _ c.in_ok-put_processor-in-Processor.ensures c.write_all-in-Processor.ensures.bytes)

pub returns-in_ok-put_number-in-Partition : goal.returns-in_ok-put_number-in-Partition
unfolding effect_text
returns-in_ok-put_number-in-Partition g c =
    subst (λ (effect : Effect). OnOk c.write_all-in-Partition.result (Appends (g.W.Write.contents c.args.out.now) (g.W.Write.contents c.write_all-in-Partition.new.self) (effect_text effect)))
    (sym c.in-Partition.is)
    (two _ _ _ _ _ _ c.in_ok-put_number-in-Partition.ensures c.write_all-in-Partition.ensures.bytes)
