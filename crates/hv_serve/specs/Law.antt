-- A session compared with a script.
use Rattle.std.specs.Prelude.{ℕ, List, filter, map, Bool, true, false}
use Rattle.std.specs.List.{join_with_byte}
use Rattle.hv_serve.specs.Meant.{plain_of}
use Rattle.hv_serve.specs.Session.{Turn, answers_in}
use Rattle.hv_serve.specs.declared.outcome.Outcome.{Outcome}
use Rattle.hv_serve.specs.declared.outcome.Outcome.TheVariants.{Done, Table, Peek, Explain, Help, Fault}
use Rattle.hv_serve.specs.declared.outcome.Outcome.TheVariants.{Named, Boot, Host}

abbrev pub is_done : Outcome → Bool
is_done Done = true
is_done Table = false
is_done (Peek peek) = false
is_done Explain = false
is_done Help = false
is_done (Fault kind) = false
is_done (Named fault) = false
is_done (Boot why) = false
is_done (Host why) = false

-- the host refused nothing of the line
abbrev pub IsServed : Outcome → Type 0
IsServed Done = Unit {0}
IsServed Table = Unit {0}
IsServed (Peek peek) = Unit {0}
IsServed Explain = Unit {0}
IsServed Help = Unit {0}
IsServed (Fault kind) = Unit {0}
IsServed (Named fault) = Unit {0}
IsServed (Boot why) = Unit {0}
IsServed (Host why) = ⊥

-- the lines that were done
abbrev pub done_in : List Turn → List Turn
done_in turns = filter (λ turn. is_done turn.outcome) turns

-- the lines that these mean, which may be by names
abbrev pub plain_in : Bool → List Turn → List (List ℕ)
plain_in names turns = map (λ turn. plain_of names turn.line) turns

-- the lines that were done, as a script, and the answers to them
abbrev pub script_in : Bool → List Turn → List ℕ
script_in names turns = join_with_byte 10 (plain_in names (done_in turns))

abbrev pub told_in : List Turn → List ℕ
told_in turns = answers_in (done_in turns)
