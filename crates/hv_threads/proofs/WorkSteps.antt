-- A work that continues by one action.
use Rattle.std.proofs.Common.{◌≡◌, ℕ, ◌+◌, List, [], ◌∷◌, ◌++◌, length, refl, sym, ap, ◌∙◌, subst, arith, append_assoc, append-nil, reverse, length-append, Global}
use Rattle.std.proofs.lemmas.List.{reverse-append}
use Rattle.hv_policy.specs.declared.event.Action.{Action}
use Rattle.hv_policy.specs.declared.event.Caller.{Caller}
use Rattle.hv_shared.specs.Pass.{HasReceipts}
use Rattle.hv_shared.specs.PassValue.{PassValue}
use Rattle.hv_threads.specs.Perform.{AreWhole, HasPerformed, IsWhole}
use Rattle.hv_shared.proofs.Driving.{gained-twice}
use Rattle.hv_shared.specs.declared.receipts.Receipt.{Receipt}
use Rattle.hv_threads.specs.declared.phase.Work.{Work}

-- so many actions came to their end, and these are left, the last one first
pub record IsWorking {L : Type 0} (work : Work L) (pass : PassValue) (done : ℕ) (left : List (Action Global)) : Type 0 where
  pub did : List (Action Global)
  pub whole : List Receipt
  pub in_order : did ++ reverse left ≡ work.actions.items
  pub count : length did ≡ done
  pub are_whole : AreWhole work.pass.caller did whole
  pub gained : HasReceipts whole work.pass pass

-- the receipts of actions, and of more of them
pub whole-append : (by : Caller) (some more : List (Action Global)) (xs ys : List Receipt) → AreWhole by some xs → AreWhole by more ys → AreWhole by (some ++ more) (xs ++ ys)
whole-append by [] more xs ys none rest = subst (λ (l : List Receipt). AreWhole by more (l ++ ys)) (sym none) rest
whole-append by (what ∷ some) more xs ys are rest =
    (are.0, are.1 ++ ys, ap (λ (l : List Receipt). l ++ ys) are.2 ∙ append_assoc are.0 are.1 ys, are.3, whole-append by some more are.1 ys are.4 rest)

module _ {L : Type 0} (work : Work L) (mid new : PassValue) (done : ℕ) (all left : List (Action Global)) (what : Action Global) (working : IsWorking work mid done all) (last : all ≡ left ++ what ∷ [])
  where
    back : reverse all ≡ what ∷ reverse left
    back = ap reverse last ∙ reverse-append left (what ∷ [])

    -- one action more
    pub goes_on : HasPerformed what mid new → IsWorking work new (done + 1) left
    goes_on performed =
        let same = working.gained.caller in
        record {
          did = working.did ++ what ∷ [];
          whole = working.whole ++ performed.more;
          in_order = append_assoc working.did (what ∷ []) (reverse left) ∙ ap (λ (l : List (Action Global)). working.did ++ l) (sym back) ∙ working.in_order;
          count = let c = working.count in omega (arith, length-append working.did (what ∷ []));
          are_whole = whole-append work.pass.caller working.did (what ∷ []) working.whole performed.more working.are_whole
              (performed.more, [], sym (append-nil performed.more), subst (λ (by : Caller). IsWhole by what performed.more) same performed.whole, refl);
          gained = gained-twice working.whole performed.more work.pass mid new working.gained performed.gained;
        }
