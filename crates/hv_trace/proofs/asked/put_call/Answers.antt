use Rattle.std.proofs.Common.{subst, OnOk}
use Rattle.std.specs.Io.KnownBytes.{Appends}
use Rattle.hv_abi.specs.CallRow.{kind_of}
use Rattle.hv_abi.specs.declared.input_value.InputValue.{InputValue}
use Rattle.hv_trace.proofs.PartsInOrder.{two}
use Rattle.hv_trace.specs.Trace.{call_text, name_text}
use Rattle.hv_trace.proofs.asked.put_call.Goals as goal

pub returns : goal.returns
unfolding call_text
returns g c =
    two _ _ _ _ _ _ c.in_ok-write_all.ensures.bytes
    (subst (λ (input : InputValue). OnOk c.put_name.result (Appends (g.W.Write.contents c.write_all.new.self) (g.W.Write.contents c.put_name.new.out) (name_text (kind_of input.call)))) c.read.ensures
    c.put_name.ensures)
