use Rattle.std.proofs.Common.{Ok, List, ℕ, ◌++◌, ◌∙◌, ap, sym}
use Rattle.hv_script.specs.Words.{words_of}
use Rattle.hv_asm.proofs.Words.{all_words, seen, word_added, word_pushed}
use Rattle.hv_asm.proofs.line.words_of.Goals as goal

pub loop-left-preserved : goal.loop-left-preserved
loop-left-preserved c =
    let done = c.loop-left.words.items in
    let more = c.push_word.new.words.items in
    let pushed = word_pushed done more c.around.result.0.now _ c.in_ok-push_word.ensures c.around.ensures.before in
    ap (λ (l : List ℕ). seen more ++ words_of l) c.around.ensures.after ∙ word_added done more c.args.line.now c.loop-left.left.now c.loop-left.invariant pushed

pub returns : goal.returns
returns c = ap Ok (all_words c.loop-left.words.items c.loop-left.left.now c.args.line.now c.loop-left.invariant (sym c.is_empty.ensures ∙ c.loop-left-test.false))
