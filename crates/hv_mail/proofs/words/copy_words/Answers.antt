use Rattle.std.proofs.Common.{◌≡◌, ◌*◌, length, ◌∙◌, sym, arith, take_all}
use Rattle.hv_mail.proofs.WordBytes.{word_more}
use Rattle.hv_mail.proofs.words.copy_words.Goals as goal

pub loop-i-preserved : goal.loop-i-preserved
loop-i-preserved c =
    word_more c.args.words.now c.loop-i.bytes c.copy_from_slice.new.self c.args.first c.loop-i.i _ c.loop-i.invariant (omega arith) (c.copy_from_slice.ensures.after ∙ c.to_le_bytes.ensures)

pub returns : goal.returns
returns c =
    let all : 8 * c.loop-i.i ≡ length c.args.bytes.now = omega arith in
    sym (take_all (length c.args.bytes.now) c.loop-i.bytes (omega arith)) ∙ rw all at c.loop-i.invariant
