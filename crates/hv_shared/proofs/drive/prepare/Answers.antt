use Rattle.std.proofs.Common.{rules, ◌≡◌, ◌+◌, ◌<◌, ◌++◌, ◌∷◌, [], ◌∙◌, ℕ, ap, sym, subst, arith, length, take, Global}
use Rattle.std.proofs.lemmas.List.{length-take, take_all, take_more_set}
use Rattle.hv_abi.specs.CallRow.{kind_of}
use Rattle.hv_abi.specs.declared.input_value.InputValue.{InputValue}
use Rattle.hv_defs.specs.Bits.{bits}
use Rattle.hv_history.specs.Run.{element, restart, start_of}
use Rattle.hv_policy.specs.declared.event.Caller.{Caller}
use Rattle.hv_policy.specs.declared.event.Event.{Event}
use Rattle.hv_shared.specs.Copies.{AreAsking}
use Rattle.hv_shared.proofs.Copies.{asking_more, capped, few_of}
use Rattle.hv_shared.proofs.drive.prepare.Goals as goal

pub loop-i-preserved : goal.loop-i-preserved
loop-i-preserved g c =
    let l = c.loop-i in
    let frame = c.args.frame.now in
    let by = c.args.pass.now.caller in
    let n = c.read-start.result.start + l.i in
    let start : c.read-start.result.start ≡ start_of frame = ap (λ (v : InputValue). v.start) c.read-start.ensures in
    let there : l.i < length l.copies.items = let test = c.loop-i-test.true in let count = l.invariant.count in let ok = l.copies.ok.0 in omega arith in
    let so_far = take l.i l.copies.items in
    let len : length so_far ≡ l.i = let e = length-take l.i l.copies.items in omega (arith, e, there) in
    let at : n ≡ start_of frame + length so_far = ap (λ (s : ℕ). s + l.i) start ∙ ap (λ (k : ℕ). start_of frame + k) (sym len) in
    let few = few_of (kind_of (bits frame.rcx 0 16)) frame.rcx 4095 in
    let less : n < 4096 = search rules in
    let caller : c.caller-by.result ≡ by = search rules in
    let event : c.set_copy.new.event ≡ element by (restart frame n) = c.in_ok-set_copy.ensures ∙ ap (λ (b : Caller). element b (restart frame n)) caller in
    let asking = asking_more by frame so_far n l.invariant.asking at less in
    record {
      asking = subst (AreAsking by frame) (ap (λ (e : Event Global). so_far ++ e ∷ []) (sym event) ∙ sym (take_more_set l.copies.items l.i c.set_copy.new.event there)) asking;
      count = search rules;
    }

pub returns-then-elements-le-MOST_IN_A_HOLD-clause-copies : goal.returns-then-elements-le-MOST_IN_A_HOLD-clause-copies
returns-then-elements-le-MOST_IN_A_HOLD-clause-copies g c =
    let frame = c.args.frame.now in
    let l = c.loop-i in
    let whole : take l.i l.copies.items ≡ l.copies.items = take_all l.i l.copies.items (let test = c.loop-i-test.false in let count = l.invariant.count in let ok = l.copies.ok.0 in omega arith) in
    let few = capped (kind_of (bits frame.rcx 0 16)) frame.rcx 4095 16 (omega arith) (omega arith) in
    record {
      count = search rules;
      asking = subst (AreAsking c.args.pass.now.caller frame) whole l.invariant.asking;
    }

pub returns-in_ok-copy-clause-copies : goal.returns-in_ok-copy-clause-copies
returns-in_ok-copy-clause-copies g c =
    let frame = c.args.frame.now in
    let l = c.loop-i in
    let whole : take l.i l.copies.items ≡ l.copies.items = take_all l.i l.copies.items (let test = c.loop-i-test.false in let count = l.invariant.count in let ok = l.copies.ok.0 in omega arith) in
    let few = capped (kind_of (bits frame.rcx 0 16)) frame.rcx 4095 16 (omega arith) (omega arith) in
    record {
      count = search rules;
      asking = subst (AreAsking c.args.pass.now.caller frame) whole l.invariant.asking;
    }
