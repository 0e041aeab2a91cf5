use Rattle.std.proofs.Common.{rules, ◌≡◌, List, [], ◌∷◌, ◌++◌, ◌+◌, ap, sym, ◌∙◌, append_assoc, arith, reverse, sum}
use Rattle.std.proofs.lemmas.List.{map-append, reverse-append}
use Rattle.std.proofs.lemmas.List.Elements.{All-push}
use Rattle.std.proofs.lemmas.List.Sums.{sum_by_push}
use Rattle.hv_shared.specs.Due.{IsDueAfter, left_of, lefts_of}
use Rattle.hv_shared.specs.Merge.{receipts_of, shares_of}
use Rattle.hv_shared.specs.PassValue.{PassValue}
use Rattle.hv_shared.specs.declared.held.settlement.Unsettled.{Unsettled}
use Rattle.hv_shared.specs.declared.receipts.Receipt.{Receipt}
use Rattle.hv_shared.proofs.held.settlement.take_apart.Goals as goal

-- one pass more
one_more : (ps : List PassValue) (p : PassValue) (rs : List Unsettled) (r : Unsettled) (all : List (List Receipt)) → left_of r ≡ p.receipts → receipts_of (ps ++ p ∷ []) ++ lefts_of (reverse rs) ≡ all
    → receipts_of ps ++ lefts_of (reverse (rs ++ r ∷ [])) ≡ all
one_more ps p rs r all same so_far =
    rw (reverse-append rs (r ∷ []), same)
    (sym (append_assoc (receipts_of ps) (p.receipts ∷ []) (lefts_of (reverse rs)))
    ∙ ap (λ (l : List (List Receipt)). l ++ lefts_of (reverse rs)) (sym (map-append (λ (x : PassValue). x.receipts) ps (p ∷ []))) ∙ so_far)

sum_more : (ps : List PassValue) (p : PassValue) → sum (shares_of (ps ++ p ∷ [])) ≡ sum (shares_of ps) + p.share
sum_more ps p = ap sum (map-append (λ (x : PassValue). x.share) ps (p ∷ [])) ∙ sum_by_push (λ n. n) (shares_of ps) p.share

pub loop-pass-preserved : goal.loop-pass-preserved
loop-pass-preserved g c =
    let l = c.loop-pass in
    let is = l.invariant in
    let pushed = c.push_reserved-in-Some-pop.ensures in
    let rest = c.new-in-Some-pop.result in
    let made = c.new-in-Some-pop.ensures in
    let lists : receipts_of l.passes.items ++ lefts_of (reverse l.rests.items) ≡ receipts_of c.args.passes.items = is.lists in
    let left = c.pop-in-loop-pass.new.self.items in
    let pass = c.in-Some-pop.pass in
    let share : c.into_parts-share.result.0.amount ≡ pass.share = c.into_parts-share.ensures.share.1 in
    let all : sum (shares_of l.passes.items) ≡ sum (shares_of (left ++ pass ∷ [])) = ap (λ (ps : List PassValue). sum (shares_of ps)) c.in-Some-pop.ensures.items in
    let more : sum (shares_of (left ++ pass ∷ [])) ≡ sum (shares_of left) + pass.share = sum_more left pass in
    record {
      lists = rw pushed.items (one_more _ c.in-Some-pop.pass l.rests.items rest _ (made.left ∙ c.into_parts-share.ensures.receipts) (rw c.in-Some-pop.ensures.items at lists));
      due = rw pushed.items (All-push (IsDueAfter 0) l.rests.items rest is.due made.due);
      count = search rules;
      parts = search rules;
      amount = omega (arith, c.merge.ensures.amount, share, all, more, is.amount);
      within = c.merge.ensures.apart;
      room = search rules;
    }
