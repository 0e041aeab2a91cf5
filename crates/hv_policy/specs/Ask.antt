-- The rules that apply, in order.
use Rattle.std.specs.Prelude.{◌≡◌, Bool, true, if◌then◌else◌, List, [], ◌∷◌, map, Option, None, Some}
use Rattle.std.specs.List.{AllByRecursion}
use Rattle.hv_policy.specs.declared.rule.Rule.{Rule}

-- a rule that applies, and whether it holds
abbrev pub Ask : Type 0
Ask = Rule × Bool

-- the rules alone
abbrev pub rules_of : List Ask → List Rule
rules_of asks = map (λ ask. ask.0) asks

-- the first rule that fails, if there is one
abbrev pub first_unmet : List Ask → Option Rule
first_unmet [] = None
first_unmet (ask ∷ rest) = if ask.1 then first_unmet rest else Some ask.0

-- all rules hold
abbrev pub AreMet : List Ask → Type 0
AreMet asks = AllByRecursion (λ ask. ask.1 ≡ true) asks
