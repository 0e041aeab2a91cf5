use Rattle.std.proofs.Common.{◌≡◌, ◌∙◌, ℕ, List, ap, length, subst, OnOk}
use Rattle.std.specs.Io.KnownBytes.{Appends}
use Rattle.std.proofs.KnownBytes.{Keeps-refl}
use Rattle.hv_run.proofs.Parts.{part_none}
use Rattle.hv_run.specs.Written.{HasPart}
use Rattle.hv_serve.specs.Bench.{kept_in}
use Rattle.hv_serve.specs.Session.{history_of}
use Rattle.hv_serve.specs.Turned.{closing}
use Rattle.hv_serve.proofs.WrittenParts.{built}
use Rattle.hv_serve.proofs.answer.put_end.Goals as goal

pub returns-in-Ok-clause-told : goal.returns-in-Ok-clause-told
returns-in-Ok-clause-told g c =
    let form = c.args.form in
    let text : c.deref.result.now ≡ closing form (length (history_of (kept_in c.args.bench.now))) =
    c.deref.ensures.value ∙ built _ _ _ c.new-text.ensures.items c.in-Ok.ensures ∙ ap (closing form) c.events_of.ensures in
    subst (λ (t : List ℕ). OnOk c.put_out.result (Appends (g.W.Write.contents c.args.out.now) (g.W.Write.contents c.put_out.new.out) t)) text c.put_out.ensures.told

pub returns-in-Ok-clause-part : goal.returns-in-Ok-clause-part
returns-in-Ok-clause-part g c =
    let form = c.args.form in
    let text : c.deref.result.now ≡ closing form (length (history_of (kept_in c.args.bench.now))) =
    c.deref.ensures.value ∙ built _ _ _ c.new-text.ensures.items c.in-Ok.ensures ∙ ap (closing form) c.events_of.ensures in
    subst (λ (t : List ℕ). HasPart t (g.W.Write.contents c.args.out.now) (g.W.Write.contents c.put_out.new.out)) text c.put_out.ensures.part

pub returns-clause-part : goal.returns-clause-part
returns-clause-part g c = part_none _ _ _ (Keeps-refl _)
