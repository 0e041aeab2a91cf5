use Rattle.std.proofs.Common.{◌≡◌, ◌++◌, ◌∷◌, ◌∙◌, List, [], All, ap, append-nil, append_assoc, arith, length, length-append, refl, rules, sym}
use Rattle.std.proofs.Common.{subst}
use Rattle.std.proofs.lemmas.List.Elements.{All-cons, All-head, All-nil, All-weaker}
use Rattle.std.proofs.lemmas.Option.{none-some}
use Rattle.hv_phases.proofs.AskedOfProcessor.{All-second}
use Rattle.hv_phases.proofs.RunnerMaps.{fresh_added, going_added, no_pass, no_stop, pass_stays, pass_written}
use Rattle.hv_phases.specs.PassMap.{HasPass, fresh_of, key_of}
use Rattle.hv_phases.specs.declared.pass_map.Runner.{Runner}
use Rattle.hv_shared.specs.PassValue.{PassValue}
use Rattle.hv_phases.proofs.pass_map.pass_map_of.Goals as goal

pub loop-pass-init : goal.loop-pass-init
loop-pass-init g c =
    let empty = c.in_ok-runners.ensures.empty in
    let runners = c.in_ok-runners.runners in
    let spare = c.in_ok-runners.ensures.spare in
    let len = c.len.ensures in
    record {
      moved = ([], append-nil c.args.passes.now.items, All-nil (λ (pass : PassValue). HasPass runners pass.caller));
      fresh = λ by pass at. absurd (none-some pass (sym (no_pass runners empty by) ∙ at));
      going = no_stop runners empty;
      room = omega (arith, spare, len);
      capacity = refl;
    }

pub add-requires : goal.add-requires
add-requires g c = let room = c.loop-pass.invariant.room in let many = ap length c.in-Some.ensures.items
    ∙ length-append c.pop.new.self.items (c.in-Some.pass ∷ []) in omega (arith, room, many)

pub loop-pass-preserved : goal.loop-pass-preserved
loop-pass-preserved g c =
    let pass = c.in-Some.pass in
    let was = c.loop-pass.invariant in
    let popped = c.in-Some.ensures.items in
    let rest = c.pop.new.self.items in
    let old = c.loop-pass.runners in
    let new = c.add.new.runners in
    let runner : Runner g.row.L.Denot = fresh_of pass in
    let did = c.add.ensures.added in
    let key = key_of pass.caller in
    let all : rest ++ pass ∷ was.moved.0 ≡ c.args.passes.now.items = sym (append_assoc rest (pass ∷ []) was.moved.0)
    ∙ ap (λ (l : List PassValue). l ++ was.moved.0) (sym popped) ∙ was.moved.1 in
    let of : (P : PassValue → Type 0) → All P c.args.passes.now.items → P pass = λ P each. All-head P pass was.moved.0 (All-second P rest (pass ∷ was.moved.0)
    (subst (All P) (sym all) each)) in
    record {
      moved = (
        pass ∷ was.moved.0,
        all,
        All-cons (λ (p : PassValue). HasPass new p.caller) pass was.moved.0 (pass, pass_written pass.caller key refl old new runner did)
            (All-weaker (λ (p : PassValue). HasPass old p.caller) (λ (p : PassValue). HasPass new p.caller)
            (λ p has. pass_stays pass key refl old new did p.caller has) was.moved.0 was.moved.2),
      );
      fresh = fresh_added pass key refl old new did (of (λ (p : PassValue). p.receipts ≡ []) c.requires.empty)
          (of (λ (p : PassValue). p.share ≡ 0) c.requires.none) was.fresh;
      going = going_added pass.caller key refl old new runner did refl was.going;
      room = let room = was.room in let spare = c.add.ensures.room in let many = ap length popped
          ∙ length-append rest (pass ∷ []) in omega (arith, room, spare, many);
      capacity = c.pop.ensures.capacity ∙ was.capacity;
    }

pub returns-clause-all : goal.returns-clause-all
returns-clause-all g c =
    let was = c.loop-pass.invariant.moved in
    let none : c.loop-pass.passes.items ≡ [] = search rules in
    subst (All (λ (p : PassValue). HasPass c.loop-pass.runners p.caller)) (ap (λ (l : List PassValue). l ++ was.0) (sym none) ∙ was.1) was.2
