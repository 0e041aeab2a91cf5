use Rattle.std.proofs.Common.{◌≡◌, List, [], ℕ, ◌+◌, arith, ap, subst, sym, take, ◌∙◌, All, map, Contains, take_all, Global}
use Rattle.hv_phases.specs.PassMap.{is_key, key_of}
use Rattle.hv_phases.specs.Lines.{callers_in}
use Rattle.hv_phases.proofs.NamedProcessors.{all_callers, caller_of, in_order_more, one_more}
use Rattle.hv_phases.proofs.callers.callers_of.Goals as goal
use Rattle.hv_script.specs.declared.line.Line.{Line}
use Rattle.indexmap.specs.IndexSet.{insert_key}

pub loop-at-preserved : goal.loop-at-preserved
loop-at-preserved c =
    let lines = c.args.lines.now in
    let keys = c.loop-at.seen.keys in
    let is = sym (c.in_ok-insert.ensures.keys ∙ ap (insert_key is_key keys) c.key_of.ensures) in
    record {
      named = subst (λ (ks : List (ℕ × ℕ)). All (λ (line : Line Global). Contains ks (key_of line.by)) (take (c.loop-at.at + 1) lines)) is
          (one_more lines c.loop-at.at c.index-lines-at.result keys (omega (arith, c.loop-at-test.true)) c.loop-at.invariant.named);
      order = subst (λ (ks : List (ℕ × ℕ)). map caller_of ks ≡ callers_in [] (take (c.loop-at.at + 1) lines)) is
          (in_order_more lines c.loop-at.at c.index-lines-at.result keys (omega (arith, c.loop-at-test.true)) c.loop-at.invariant.order);
    }

pub returns : goal.returns
returns c =
    let seen = c.loop-at.seen.keys in
    let all : take c.loop-at.at c.args.lines.now ≡ c.args.lines.now = take_all c.loop-at.at c.args.lines.now (omega (arith, c.loop-at-test.false)) in
    let are = c.loop-place.invariant ∙ ap (map caller_of) (take_all c.loop-place.place c.in_ok-keys.keys.items (omega (arith, c.loop-place-test.false))
    ∙ c.in_ok-keys.ensures.all) in
    record {
      all = all_callers c.args.lines.now seen c.loop-place.callers.items c.keys_in.ensures.unique
          (subst (All (λ (line : Line Global). Contains seen (key_of line.by))) all c.loop-at.invariant.named) are;
      order = are ∙ c.loop-at.invariant.order ∙ ap (callers_in []) all;
    }
