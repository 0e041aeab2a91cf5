use Rattle.std.proofs.Common.{ap, rules, ◌∙◌}
use Rattle.std.proofs.lemmas.Result.{err_from_is_err_and}
use Rattle.hv_script.specs.Cursor.{line_of, read_cut}
use Rattle.hv_script.specs.Line.{◌>>=◌}
use Rattle.hv_script.specs.Reading.{read_by}
use Rattle.hv_script.proofs.LineLemmas.{cut_and_read, fails_by, reads_to}
use Rattle.hv_script.proofs.script.read_next.Goals as goal

pub returns-in_err-rest-clause-fault : goal.returns-in_err-rest-clause-fault
returns-in_err-rest-clause-fault g c =
    let before = read_by c.args.reading.now in
    let p = err_from_is_err_and c.from_residual.result c.from_residual.ensures.1 in
    rw (p.1, p.2) (λ named. fails_by c.args.text.now before _ (cut_and_read before (line_of c.args.text.now) ∙ ap (λ read. read >>= (λ words. read_cut before words))
    (c.in_err-rest.ensures.words named)))

pub returns-in_err-read_line-clause-fault : goal.returns-in_err-read_line-clause-fault
returns-in_err-read_line-clause-fault g c =
    let before = read_by c.args.reading.now in
    let p = err_from_is_err_and c.from_residual-in_err-read_line.result c.from_residual-in_err-read_line.ensures.1 in
    rw (p.1, p.2) (λ named. fails_by c.args.text.now before _ (cut_and_read before (line_of c.args.text.now) ∙ ap (λ read. read >>= (λ words. read_cut before words)) c.in_ok-rest.ensures.words
    ∙ c.in_err-read_line.ensures.read named))

pub returns-clause-read : goal.returns-clause-read
returns-clause-read g c =
    let before = read_by c.args.reading.now in
    reads_to c.args.text.now c.in_ok-rest.rest.now before (read_by c.read_line.new.reading) c.in_ok-rest.ensures.rest
    (cut_and_read before (line_of c.args.text.now) ∙ ap (λ read. read >>= (λ words. read_cut before words)) c.in_ok-rest.ensures.words ∙ search rules)
