use Rattle.std.proofs.Common.{◌≡◌, ◌≤◌, [], ◌∷◌, ◌++◌, refl, sym, ap, ◌∙◌, arith, rules}
use Rattle.std.proofs.lemmas.List.Elements.{All-push}
use Rattle.hv_script.specs.Callers.{callers_of, with_caller}
use Rattle.hv_script.specs.declared.line.Line.{Line}
use Rattle.hv_script.proofs.CallerLemmas.{one_more_caller}
use Rattle.hv_script.proofs.reading.Reading.take_line.Goals as goal

pub invariant_of-self-2 : goal.invariant_of-self-2
invariant_of-self-2 g c =
    let self = c.args.self.now in
    let line : Line g.row.A.Denot = record { phase = self.phase; by = c.args.by; action = c.args.action } in
    let pushed : c.push_reserved.new.self.items ≡ self.lines.items ++ line ∷ [] = search rules in
    let callers : callers_of self.phase (self.lines.items ++ line ∷ []) ≡ with_caller self.callers.items c.args.by =
    one_more_caller self.phase self.lines.items line refl ∙ ap (λ callers. with_caller callers c.args.by) (sym self.named) in
    record {
      named = rw (pushed, callers) c.in_ok-admit.ensures.counted;
      phases = rw pushed (All-push (λ line. line.phase ≤ self.phase) self.lines.items line self.phases (omega arith));
    }
