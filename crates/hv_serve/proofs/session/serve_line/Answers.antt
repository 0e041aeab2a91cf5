use Rattle.std.proofs.Common.{◌≡◌, ℕ, ◌≢◌, ◌∙◌, true, false, List, [], inl, inr, refl, subst, sym}
use Rattle.std.proofs.lemmas.List.Elements.{All-nil}
use Rattle.std.proofs.KnownBytes.{Appends-nil, Keeps-refl}
use Rattle.std.proofs.lemmas.Result.{err_from_is_err_and}
use Rattle.hv_serve.specs.Input.{AreKept}
use Rattle.hv_serve.specs.Traced.{IsTracedIn}
use Rattle.hv_serve.specs.declared.form.Form.TheVariants.{Json}
use Rattle.hv_serve.proofs.TakenLines.{turned, turned_part}
use Rattle.hv_serve.proofs.Tracing.{objects_by}
use Rattle.hv_serve.proofs.session.serve_line.Goals as goal

pub returns-then-is_silent-clause-turned : goal.returns-then-is_silent-clause-turned
returns-then-is_silent-clause-turned g c =
    let came = c.in_ok-end.ensures in
    let lost = c.in_ok-end.end.lost in
    let kept = subst (λ (line : List ℕ). AreKept came.bytes line lost) (sym c.deref.ensures.value) came.kept_are in
    let kept-2 = subst (λ (line : List ℕ). AreKept came.bytes line lost) (sym c.deref-2.ensures.value) came.kept_are in
    let out = g.W.Write.contents c.args.out.now in
    let objects = objects_by c.args.form c.events_of-before.result c.take_line-outcome.new.bench
    (λ json. subst (λ (n : ℕ). IsTracedIn n c.take_line-outcome.new.bench) (sym c.events_of-before.ensures) (c.take_line-outcome.ensures.traced json)) in
    λ before stands. turned c.args.form c.args.names c.args.number c.events_of-before.result before c.args.bench.now c.take_line-outcome.new.bench c.read_line.new.line.items c.in_ok-end.end
    (g.R.Read.remaining c.args.reader.now) (g.R.Read.remaining c.read_line.new.reader) out out
    c.take_line-outcome.result c.take_line-outcome.result objects.0 [] true stands came (sym c.if-is_silent.true ∙ c.is_silent.ensures came.bytes kept-2)
    (c.take_line-outcome.ensures.comes before came.bytes stands came.one kept)
    c.events_of-before.ensures (inl refl) objects.1 (All-nil (λ byte. byte ≢ 10)) (Appends-nil out)

pub returns-clause-turned : goal.returns-clause-turned
returns-clause-turned g c =
    let came = c.in_ok-end.ensures in
    let lost = c.in_ok-end.end.lost in
    let kept = subst (λ (line : List ℕ). AreKept came.bytes line lost) (sym c.deref.ensures.value) came.kept_are in
    let kept-2 = subst (λ (line : List ℕ). AreKept came.bytes line lost) (sym c.deref-2.ensures.value) came.kept_are in
    let told = c.in_ok-put_answer.ensures.told
    (λ json. subst (λ (n : ℕ). IsTracedIn n c.take_line-outcome.new.bench) (sym c.events_of-before.ensures) (c.take_line-outcome.ensures.traced json)) in
    λ before stands. turned c.args.form c.args.names c.args.number c.events_of-before.result before c.args.bench.now c.take_line-outcome.new.bench c.read_line.new.line.items c.in_ok-end.end
    (g.R.Read.remaining c.args.reader.now) (g.R.Read.remaining c.read_line.new.reader) (g.W.Write.contents c.args.out.now) (g.W.Write.contents c.put_answer.new.out)
    c.take_line-outcome.result c.in_ok-put_answer.field-0 told.objects told.words false stands came (sym c.if-is_silent.false ∙ c.is_silent.ensures came.bytes kept-2)
    (c.take_line-outcome.ensures.comes before came.bytes stands came.one kept) c.events_of-before.ensures told.told_as told.traced told.plain told.wrote

pub returns-in_err-end-clause-failed : goal.returns-in_err-end-clause-failed
returns-in_err-end-clause-failed g c =
    let p = err_from_is_err_and c.from_residual.result c.from_residual.ensures.1 in
    rw (p.1, p.2) (λ before stands. inl (Keeps-refl (g.W.Write.contents c.args.out.now)))

pub returns-in_err-put_answer-clause-failed : goal.returns-in_err-put_answer-clause-failed
returns-in_err-put_answer-clause-failed g c =
    let p = err_from_is_err_and c.from_residual-in_err-put_answer.result c.from_residual-in_err-put_answer.ensures.1 in
    let came = c.in_ok-end.ensures in
    let lost = c.in_ok-end.end.lost in
    let kept = subst (λ (line : List ℕ). AreKept came.bytes line lost) (sym c.deref.ensures.value) came.kept_are in
    let kept-2 = subst (λ (line : List ℕ). AreKept came.bytes line lost) (sym c.deref-2.ensures.value) came.kept_are in
    let part = c.in_err-put_answer.ensures.part
    (λ json. subst (λ (n : ℕ). IsTracedIn n c.take_line-outcome.new.bench) (sym c.events_of-before.ensures) (c.take_line-outcome.ensures.traced json)) in
    rw (p.1, p.2)
    (λ before stands. inr (
      c.in_err-put_answer.ensures.host,
      turned_part c.args.form c.args.names c.args.number c.events_of-before.result before c.args.bench.now c.take_line-outcome.new.bench c.read_line.new.line.items c.in_ok-end.end
          (g.R.Read.remaining c.args.reader.now) (g.R.Read.remaining c.read_line.new.reader) (g.W.Write.contents c.args.out.now) (g.W.Write.contents c.put_answer.new.out)
          c.take_line-outcome.result stands came (sym c.if-is_silent.false ∙ c.is_silent.ensures came.bytes kept-2) (c.take_line-outcome.ensures.comes before came.bytes stands came.one kept)
          c.events_of-before.ensures part,
    ))
