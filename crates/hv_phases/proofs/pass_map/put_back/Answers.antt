use Rattle.std.proofs.Common.{◌≡◌, ◌++◌, ◌∷◌, ◌∙◌, All, List, [], ap, append-nil, append_assoc, map, rules, subst, sym}
use Rattle.hv_phases.proofs.AskedOfProcessor.{All-second}
use Rattle.std.proofs.lemmas.List.Elements.{All-head}
use Rattle.hv_phases.proofs.RunnerMaps.{back_more, back_none}
use Rattle.hv_phases.specs.PassMap.{HasBack, HasKey, back_of_work}
use Rattle.hv_threads.specs.declared.phase.Work.{Work}
use Rattle.hv_phases.proofs.pass_map.put_back.Goals as goal

pub loop-work-init : goal.loop-work-init
loop-work-init g c = ([], append-nil c.args.works.items, back_none c.args.runners.now)

pub put_pass-requires : goal.put_pass-requires
put_pass-requires g c =
    let was = c.loop-work.invariant in
    let work = c.in-Some.work in
    let P = λ (w : Work g.row.L.Denot). HasKey c.args.runners.now w.pass.caller in
    let rest = c.pop.new.self.items in
    let all : rest ++ work ∷ was.0 ≡ c.args.works.items = sym (append_assoc rest (work ∷ []) was.0)
    ∙ ap (λ (l : List (Work g.row.L.Denot)). l ++ was.0) (sym c.in-Some.ensures.items) ∙ was.1 in
    was.2.keys work.pass.caller (All-head P work was.0 (All-second P rest (work ∷ was.0) (subst (All P) (sym all) c.requires)))

pub loop-work-preserved : goal.loop-work-preserved
loop-work-preserved g c =
    let was = c.loop-work.invariant in
    let work = c.in-Some.work in
    let rest = c.pop.new.self.items in
    let all : rest ++ work ∷ was.0 ≡ c.args.works.items = sym (append_assoc rest (work ∷ []) was.0)
    ∙ ap (λ (l : List (Work g.row.L.Denot)). l ++ was.0) (sym c.in-Some.ensures.items) ∙ was.1 in (
      work ∷ was.0,
      all,
      back_more (back_of_work work) (map back_of_work was.0) c.args.runners.now c.loop-work.runners c.put_pass.new.runners was.2 c.put_pass.ensures.own
          c.put_pass.ensures.others
          c.put_pass.ensures.keys,
    )

pub returns : goal.returns
returns g c =
    let was = c.loop-work.invariant in
    let none : c.loop-work.left.items ≡ [] = search rules in
    subst (λ (l : List (Work g.row.L.Denot)). HasBack (map back_of_work l) c.args.runners.now c.loop-work.runners)
    (ap (λ (l : List (Work g.row.L.Denot)). l ++ was.0) (sym none) ∙ was.1) was.2
