-- The first unmet rule, from the parts of the event's list of rules.
use Rattle.std.proofs.Common.{◌≡◌, Bool, true, false, cond, List, [], ◌∷◌, ◌++◌, None, Some, refl, ap}
use Rattle.hv_policy.specs.Flat.{Flat}
use Rattle.hv_policy.specs.Rules.{AreMet, Ask, action_asks, caller_asks, first_unmet, unmet}
use Rattle.hv_policy.specs.declared.event.Event.{Event}
use Rattle.hv_policy.specs.declared.rule.Rule.{Rule}

-- the first unmet of a first part is that of the whole
pub first_of_front : (asks rest : List Ask) (rule : Rule) → first_unmet asks ≡ Some rule → first_unmet (asks ++ rest) ≡ Some rule
first_of_front [] rest rule e = cc
first_of_front (ask ∷ asks) rest rule e = by ask.1 e (first_of_front asks rest rule)
  where
    by : (met : Bool) → cond met (first_unmet asks) (Some ask.0) ≡ Some rule → (first_unmet asks ≡ Some rule → first_unmet (asks ++ rest) ≡ Some rule) → cond met (first_unmet (asks ++ rest))
        (Some ask.0) ≡ Some rule
    by true e past = past e
    by false e past = e

-- where the first part is met, it is that of the second
pub first_of_back : (asks rest : List Ask) → first_unmet asks ≡ None → first_unmet (asks ++ rest) ≡ first_unmet rest
first_of_back [] rest e = refl
first_of_back (ask ∷ asks) rest e = by ask.1 e (first_of_back asks rest)
  where
    by : (met : Bool) → cond met (first_unmet asks) (Some ask.0) ≡ None → (first_unmet asks ≡ None → first_unmet (asks ++ rest) ≡ first_unmet rest) → cond met (first_unmet (asks ++ rest)) (Some ask.0)
        ≡ first_unmet rest
    by true e past = past e
    by false e past = cc

-- where the second of three parts is met, it goes
pub first_of_ends : (front middle rest : List Ask) → first_unmet middle ≡ None → first_unmet (front ++ (middle ++ rest)) ≡ first_unmet (front ++ rest)
first_of_ends [] middle rest met = first_of_back middle rest met
first_of_ends (ask ∷ front) middle rest met = ap (λ rule. cond ask.1 rule (Some ask.0)) (first_of_ends front middle rest met)

-- where no rule is unmet, each is met
pub all_met : (asks : List Ask) → first_unmet asks ≡ None → AreMet asks
all_met [] h = tt
all_met (ask ∷ asks) h = by ask.1 refl h (all_met asks)
  where
    by : (met : Bool) → ask.1 ≡ met → cond met (first_unmet asks) (Some ask.0) ≡ None → (first_unmet asks ≡ None → AreMet asks) → AreMet (ask ∷ asks)
    by true is h rest = (is, rest h)
    by false is h rest = cc

-- where P1 to P3 are met, what is left is the action's
pub past_caller : {A : Type 0} (f : Flat) (event : Event A) → first_unmet (caller_asks f event.by) ≡ None → unmet f event ≡ first_unmet (action_asks f event.by.part event.what)
past_caller f event = first_of_back (caller_asks f event.by) (action_asks f event.by.part event.what)
