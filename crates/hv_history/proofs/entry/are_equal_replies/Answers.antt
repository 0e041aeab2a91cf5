use Rattle.std.proofs.Common.{rules, ◌≡◌, IsTrue, List, ℕ, nat_eq, arith}
use Rattle.hv_abi.specs.declared.status.Status.{Status}
use Rattle.hv_policy.specs.Parts.{reply_of}
use Rattle.hv_policy.specs.declared.answer.Answer.{Answer}
use Rattle.hv_policy.specs.declared.answer.Answer.TheVariants.{Denied}
use Rattle.hv_policy.specs.declared.rule.Rule.{Rule}
use Rattle.hv_history.proofs.entry.are_equal_replies.Goals as goal

-- two denials by one rule with one status are the same where their counts are
same_denied : (x y : Answer) (output other_output : List ℕ) (rule other : Rule) (status that : Status) (m n : ℕ)
    → x ≡ Denied rule status m → y ≡ Denied other that n → rule ≡ other → status ≡ that
    → (IsTrue (nat_eq m n) → reply_of x output ≡ reply_of y other_output) × (reply_of x output ≡ reply_of y other_output → IsTrue (nat_eq m n))
same_denied x y output other_output rule other status that m n is is_other r s = rw (is, is_other) (grind arith)

pub returns-then-eq-2 : goal.returns-then-eq-2
returns-then-eq-2 c =
    let rule : c.in-Denied-Denied.rule ≡ c.in-Denied-Denied.other_rule = search rules in
    let status : c.in-Denied-Denied.status ≡ c.in-Denied-Denied.other_status = search rules in
    same_denied _ _ _ _ _ _ _ _ _ _ c.in-Denied-Denied.is-0 c.in-Denied-Denied.is-1 rule status
