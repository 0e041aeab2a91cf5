use Rattle.std.proofs.Common.{◌∙◌, arith}
use Rattle.hv_calls.proofs.Copies.{copied, copied-ended}
use Rattle.hv_calls.proofs.payload.Payload.to_array.Goals as goal

pub returns-then-self-rest : goal.returns-then-self-rest
returns-then-self-rest c = copied c.self.inside.rest.now c.new-bytes.result.items _ c.self.inside.len c.new-bytes.ensures c.in-Ok.ensures.ok c.if-self-rest.true ∙ c.self.view_is

pub returns : goal.returns
returns c =
    copied-ended c.self.inside.rest.now c.new-bytes.result.items c.try_extend_from_slice-2.new.self.items _ c.self.inside.len c.new-bytes.ensures c.in-Ok-try_extend_from_slice.ensures.ok
    c.in-Ok-try_extend_from_slice-2.ensures.ok (omega (arith, c.if-self-rest.false)) c.self.invariant
    ∙ c.self.view_is
