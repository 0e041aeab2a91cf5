use Rattle.hv_check.proofs.NamedProcessor.{by_read, no_number, no_part, no_vp, part_read, vp_read}
use Rattle.std.proofs.Common.{None, Some, ◌≡◌}
use Rattle.hv_check.proofs.reader.processor.Goals as goal

pub returns-in_err-behind : goal.returns-in_err-behind
returns-in_err-behind c = λ by named. absurd (no_number c.args.text.now by named c.in_err-behind.ensures.none)

pub returns-in_err-part : goal.returns-in_err-part
returns-in_err-part c = λ by named. absurd (no_part c.args.text.now by named _ _ c.in_ok-behind.ensures.some c.in_err-part.ensures.none)

pub returns-in_err-vp : goal.returns-in_err-vp
returns-in_err-vp c = λ by named. absurd (no_vp c.args.text.now by named _ _ c.in_ok-behind.ensures.some _ _ c.in_ok-part.ensures.some c.in_err-vp.ensures.none)

pub returns-in_err-decimal : goal.returns-in_err-decimal
returns-in_err-decimal c = λ by named.
    absurd (let same : None ≡ Some by.part = part_read c.args.text.now by named _ _ c.in_ok-behind.ensures.some _ _ c.in_ok-part.ensures.some None c.in_err-decimal.ensures in cc)

pub returns-in_err-decimal-2 : goal.returns-in_err-decimal-2
returns-in_err-decimal-2 c = λ by named.
    absurd (let same : None ≡ Some by.vp = vp_read c.args.text.now by named _ _ c.in_ok-behind.ensures.some _ _ c.in_ok-part.ensures.some _ _ c.in_ok-vp.ensures.some None c.in_err-decimal-2.ensures in
    cc)

pub returns : goal.returns
returns c = λ by named.
    by_read c.args.text.now by named _ _ c.in_ok-behind.ensures.some _ _ c.in_ok-part.ensures.some _ _ c.in_ok-vp.ensures.some _ _ c.caller_of.result c.in_ok-decimal.ensures c.in_ok-decimal-2.ensures
    c.caller_of.ensures
