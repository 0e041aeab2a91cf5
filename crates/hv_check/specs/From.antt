-- Legality of the rest of an audit, line by line.
use Rattle.std.specs.Prelude.{ℕ, ◌≡◌, ◌+◌, ◌<◌, ◌^◌, Bool, true, false, List, [], ◌++◌, length, codes}
use Rattle.std.specs.Prelude.{decimal}
use Rattle.std.specs.declared.alloc.Global.{Global}
use Rattle.hv_history.specs.Kept.{Kept, IsRun}
use Rattle.hv_history.specs.declared.entry.Entry.{Entry}
use Rattle.hv_policy.specs.declared.event.Caller.{Caller}
use Rattle.hv_script.specs.declared.line.Line.{Line}
use Rattle.hv_check.specs.Legal.{AreLines, IsEnd, IsLine, end_text}
use Rattle.hv_phases.specs.Schedule.{StandsFor}
use Rattle.hv_check.specs.Takes.{Takes}
use Rattle.hv_check.specs.declared.ending.Ending.{Ending}
use Rattle.hv_check.specs.declared.ending.Ending.TheVariants.{Good, Bad}
use Rattle.hv_phases.specs.declared.schedule.Schedule.{Schedule}
use Rattle.hv_check.specs.declared.step.Step.{Step}
use Rattle.hv_check.specs.declared.step.Step.TheVariants.{On, Not}

-- no lines are left, or the audit may end early
abbrev pub IsOver : Bool → List (Line Global) → Type 0
IsOver false lines = lines ≡ []
IsOver true lines = Unit {0}

-- The rest of an audit is legal after the history of `k`, with these lines left: the history extends to a
-- run, each new entry is the next event of its processor, and the text is the audit of these entries.
pub record IsLegalFrom (prefix rules : Bool) (k : Kept Global) (lines : List (Line Global)) (text : List ℕ) :
    Type 0 where
  pub kept : Kept Global
  pub run : IsRun kept
  pub config : kept.config ≡ k.config
  pub limit : kept.limit ≡ k.limit
  pub more : List (Entry Global)
  pub history : kept.history ≡ k.history ++ more
  pub left : List (Line Global)
  pub takes : Takes lines more left
  pub over : IsOver prefix left
  pub told : AreLines prefix rules (length k.history) more text

-- and the whole run has this number of events
pub record IsLegalFromWith (prefix rules : Bool) (k : Kept Global) (lines : List (Line Global))
    (text : List ℕ) (events : ℕ) : Type 0 where
  pub legal : IsLegalFrom prefix rules k lines text
  pub count : length legal.kept.history ≡ events

-- the text begins with a number and this processor
pub record IsNamedIn (text : List ℕ) (by : Caller) : Type 0 where
  pub number : ℕ
  pub rest : List ℕ
  pub few : number < 2 ^ 64
  pub part : by.part < 2 ^ 64
  pub vp : by.vp < 2 ^ 32
  pub all : text ≡ decimal number ++ (codes " " ++
      (decimal by.part ++ (codes "." ++ (decimal by.vp ++ (codes " " ++ rest)))))

-- no audit ends with this text
abbrev pub IsNoEnd : List ℕ → Type 0
IsNoEnd text = (prefix : Bool) (events : ℕ) → IsEnd prefix events text → ⊥

-- the text doesn't begin with the line of an event
abbrev pub IsNoLine : List ℕ → Type 0
IsNoLine text = (rules : Bool) (number : ℕ) (entry : Entry Global) (rest : List ℕ) → number < 2 ^ 64 → IsLine
    rules number entry text rest → ⊥

-- after a line, the rest of the audit is legal exactly if the text was legal before it, as that of one run
pub record HasMoved (rules : Bool) (old_kept new_kept : Kept Global) (new : Schedule)
    (lines : List (Line Global)) (text rest : List ℕ) : Type 0 where
  pub left : List (Line Global)
  pub stands : StandsFor new left
  pub forth : (prefix : Bool) → IsLegalFrom prefix rules old_kept lines text → IsLegalFrom prefix rules
      new_kept left rest
  pub back : (prefix : Bool) → IsLegalFrom prefix rules new_kept left rest → IsLegalFrom prefix rules old_kept
      lines text
  pub one : (prefix : Bool) (is : IsLegalFrom prefix rules new_kept left rest) → (back prefix is).kept
      ≡ is.kept

-- either a line was taken, or no legal audit continues with this text
abbrev pub IsStep : Bool → Kept Global → Kept Global → Schedule → Schedule → List ℕ → Step → Type 0
IsStep rules old_kept new_kept old new text (On rest) = (lines : List (Line Global)) → StandsFor old lines →
    HasMoved rules old_kept new_kept new lines text rest.now
IsStep rules old_kept new_kept old new text (Not wrong) = (lines : List (Line Global)) → StandsFor old lines →
    (prefix : Bool) → IsLegalFrom prefix rules old_kept lines text → ⊥

-- the text after a line is shorter
abbrev pub IsShorter : List ℕ → Step → Type 0
IsShorter text (On rest) = length rest.now < length text
IsShorter text (Not wrong) = Unit {0}

-- the end of the audit is legal, or it isn't
abbrev pub IsEnding : Bool → Schedule → ℕ → List ℕ → Ending → Type 0
IsEnding prefix schedule events text Good = (lines : List (Line Global)) → StandsFor schedule lines → IsOver
    prefix lines × IsEnd prefix events text
IsEnding prefix schedule events text (Bad wrong) = (lines : List (Line Global)) → StandsFor schedule lines →
    IsOver prefix lines → IsEnd prefix events text → ⊥

-- the text is the last line of an audit with this number of events, or it isn't
abbrev pub IsLastLine : ℕ → List ℕ → Ending → Type 0
IsLastLine events text Good = text ≡ end_text events
IsLastLine events text (Bad wrong) = text ≡ end_text events → ⊥
