use Rattle.std.proofs.Common.{◌≡◌, ◌++◌, ◌∷◌, ◌∙◌, List, [], ap, sym, subst, append-nil, append_assoc, arith, drop, length, length-append, reverse, rules}
use Rattle.std.proofs.lemmas.List.{length-reverse, reverse-append, reverse-reverse}
use Rattle.std.proofs.lemmas.List.Elements.{All-head}
use Rattle.hv_phases.proofs.AskedOfProcessor.{All-second}
use Rattle.hv_phases.proofs.PhasesTaken.{AreOut, back_as, out_all, out_as, out_keys, out_more, out_none}
use Rattle.hv_phases.proofs.RunnerMaps.{none_taken}
use Rattle.hv_phases.proofs.in_threads.works_of.Goals as goal
use Rattle.hv_phases.specs.Turns.{AreNew}
use Rattle.hv_phases.specs.declared.turn.Turn.{Turn}
use Rattle.hv_threads.specs.declared.phase.Work.{Work}

pub loop-turn-init : goal.loop-turn-init
loop-turn-init g c =
    let items = c.reverse.ensures.items in
    let many = ap length items ∙ length-reverse c.args.turns.items in
    record {
      out = ([], ap reverse items ∙ reverse-reverse c.args.turns.items, out_none c.in_ok-works.works.items c.args.runners.now c.in_ok-works.ensures.items);
      room = let len = c.in_ok-works.ensures.len in let exact = c.in_ok-works.ensures.exact in let count = c.len.ensures in omega
          (arith, many, len, exact, count);
    }

pub loop-turn-preserved : goal.loop-turn-preserved
loop-turn-preserved g c =
    let turn = c.in-Some.turn in
    let pass = c.in-Some-take_pass.pass in
    let work : Work g.row.L.Denot = record { pass = pass; actions = turn.actions } in
    let was = c.loop-turn.invariant.out in
    let popped = c.in-Some.ensures.items in
    let order : was.0 ++ turn ∷ reverse c.pop.new.self.items ≡ c.args.turns.items =
    ap (λ (l : List Turn). was.0 ++ l) (sym (ap reverse popped ∙ reverse-append c.pop.new.self.items (turn ∷ []))) ∙ was.1 in
    let fresh : turn.done ≡ 0 = All-head (λ (t : Turn). t.done ≡ 0) turn (reverse c.pop.new.self.items)
    (All-second (λ (t : Turn). t.done ≡ 0) was.0 (turn ∷ reverse c.pop.new.self.items) (subst AreNew (sym order) c.requires.new)) in
    let took = c.take_pass.ensures in
    record {
      out = (
        was.0 ++ turn ∷ [],
        append_assoc was.0 (turn ∷ []) (reverse c.pop.new.self.items) ∙ order,
        subst (λ (works : List (Work g.row.L.Denot)). AreOut (was.0 ++ turn ∷ []) works c.args.runners.now c.take_pass.new.runners)
            (sym c.push_reserved.ensures.items)
            (out_more turn work was.0 c.loop-turn.works.items c.args.runners.now c.loop-turn.runners c.take_pass.new.runners c.requires.own was.2
            c.in-Some-take_pass.ensures.value took.out
            took.others took.stops took.keys (ap (λ n. drop n turn.actions.items) (sym fresh))),
      );
      room = let room = c.loop-turn.invariant.room in let len = c.push_reserved.ensures.len in let cap = c.push_reserved.ensures.capacity in
          let many = ap length popped ∙ length-append c.pop.new.self.items (turn ∷ []) in omega (arith, room, len, cap, many);
    }

pub push_reserved-requires : goal.push_reserved-requires
push_reserved-requires g c =
    let room = c.loop-turn.invariant.room in
    let many = ap length c.in-Some.ensures.items ∙ length-append c.pop.new.self.items (c.in-Some.turn ∷ []) in
    omega (arith, room, many)

pub put_back-requires : goal.put_back-requires
put_back-requires g c =
    let was = c.loop-turn.invariant.out in
    let P = c.take_pass.ensures in
    λ k d less. P.keys _ (out_keys was.0 c.loop-turn.works.items c.args.runners.now c.loop-turn.runners was.2 k d less)

pub returns-clause-handed : goal.returns-clause-handed
returns-clause-handed g c =
    let was = c.loop-turn.invariant.out in
    let none : c.loop-turn.left.items ≡ [] = search rules in
    let all : was.0 ≡ c.args.turns.items = sym (append-nil was.0) ∙ ap (λ (l : List Turn). was.0 ++ reverse l) (sym none) ∙ was.1 in
    out_all c.args.turns.items c.loop-turn.works.items c.args.runners.now c.loop-turn.runners
    (subst (λ (done : List Turn). AreOut done c.loop-turn.works.items c.args.runners.now c.loop-turn.runners) all was.2)

-- a processor has no pass, so the others go back
pub returns-in_default-take_pass-clause-back : goal.returns-in_default-take_pass-clause-back
returns-in_default-take_pass-clause-back g c =
    let was = c.loop-turn.invariant.out in
    let took = c.take_pass.ensures in
    let works = c.loop-turn.works.items in
    let old = c.args.runners.now in
    let mid = c.loop-turn.runners in
    let now = c.take_pass.new.runners in
    let same = none_taken c.in-Some.turn.by mid now c.in_default-take_pass.ensures.value took.out took.others took.stops in
    back_as was.0 works old now c.put_back.new.runners c.requires.going c.requires.own
    (out_all was.0 works old now (out_as was.0 works old mid now was.2 same took.keys)) c.put_back.ensures
