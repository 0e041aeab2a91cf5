use Rattle.std.proofs.lemmas.Result.{err_from_is_err_and}
use Rattle.hv_serve.proofs.TakenLines.{cut_faulty, cut_taken}
use Rattle.hv_serve.proofs.bench.do_line.Goals as goal

pub returns-in_err-cut-clause-taken : goal.returns-in_err-cut-clause-taken
returns-in_err-cut-clause-taken c =
    let p = err_from_is_err_and c.from_residual.result c.from_residual.ensures.1 in
    rw (p.1, p.2) (λ before stands most. cut_faulty c.args.bench.now before c.args.text.now _ stands most c.in_err-cut.ensures.words)

pub returns-clause-taken : goal.returns-clause-taken
returns-clause-taken c =
    λ before stands most. cut_taken c.do_words.new.bench before c.args.text.now c.cut.new.self c.do_words.result most c.in_ok-cut.ensures.words (c.do_words.ensures.taken before stands)
