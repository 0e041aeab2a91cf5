-- The name of a rule at the end of a line. Only contracts of private functions cite these words.
use Rattle.std.specs.Prelude.{ℕ, ◌≡◌, List, ◌++◌, codes, Option, None, Some}
use Rattle.hv_policy.specs.declared.answer.Answer.{Answer}
use Rattle.hv_policy.specs.declared.answer.Answer.TheVariants as answer
use Rattle.hv_policy.specs.declared.rule.Rule.{Rule}
use Rattle.hv_check.specs.Legal.{IsName}

-- a text is a line's end: nothing, or a space and bytes without a line feed, then a line feed, then `rest`
pub record IsBehindName (text rest : List ℕ) : Type 0 where
  pub tail : List ℕ
  pub name : IsName tail
  pub all : text ≡ tail ++ (codes "\n" ++ rest)

-- the rule that refused an event
abbrev pub name_in : Answer → Option Rule
name_in answer.Served = None
name_in (answer.More next) = None
name_in (answer.Denied rule status reps) = Some rule
name_in (answer.Fault rule) = Some rule
