-- The history of a run of a script's lines.
use Rattle.std.specs.Prelude.{ℕ, ◌≡◌, ◌+◌, ◌<◌, List, [], ◌∷◌, ◌++◌, length, map, filter, All, if◌then◌else◌}
use Rattle.std.specs.List.{list_any}
use Rattle.std.specs.declared.alloc.Global.{Global}
use Rattle.hv_history.specs.declared.entry.Entry.{Entry}
use Rattle.hv_policy.specs.declared.event.Action.{Action}
use Rattle.hv_policy.specs.declared.event.Caller.{Caller}
use Rattle.hv_script.specs.declared.line.Line.{Line}
use Rattle.hv_shared.specs.ByCaller.{is_caller, receipts_by}
use Rattle.hv_threads.specs.Perform.{AreWhole, IsWhole}

-- the actions that the lines of this processor ask for, in order
abbrev pub asked_by : Caller → List (Line Global) → List (Action Global)
asked_by by lines = map (λ line. line.action) (filter (λ line. is_caller by line.by) lines)

-- these processors, and after them each that the lines name for the first time, in order
abbrev pub callers_in : List Caller → List (Line Global) → List Caller
callers_in seen [] = seen
callers_in seen (line ∷ lines) =
    callers_in (if list_any (λ by. is_caller by line.by) seen then seen else seen ++ line.by ∷ []) lines

-- In the history's order, each processor performed what its lines ask for, in their order and to its end. A
-- processor that no line names did nothing.
abbrev pub AreRun : List (Line Global) → List (Entry Global) → Type 0
AreRun lines history = (by : Caller) → AreWhole by (asked_by by lines) (receipts_by by 1 history)

-- each of these lines is in an earlier phase than each of those
abbrev pub AreApart : List (Line Global) → List (Line Global) → Type 0
AreApart before after = All (λ line. All (λ next. line.phase < next.phase) after) before

-- the history has the events of the lines before, then those of the lines after
pub record HasCut (before after : List (Line Global)) (history : List (Entry Global)) : Type 0 where
  pub own : List (Entry Global)
  pub rest : List (Entry Global)
  pub all : history ≡ own ++ rest
  pub before_run : AreRun before own
  pub after_run : AreRun after rest

-- wherever one phase ends and another begins, all events of the phases before come before all events after
abbrev pub ArePhased : List (Line Global) → List (Entry Global) → Type 0
ArePhased lines history = (before after : List (Line Global)) → lines ≡ before ++ after → AreApart before
    after → HasCut before after history

-- The entries of these lines from number n on, line by line. The entries of a line are all by its processor,
-- and perform what the line asks for to its end.
abbrev pub AreInOrder : ℕ → List (Line Global) → List (Entry Global) → Type 0
AreInOrder n [] entries = entries ≡ []
AreInOrder n (line ∷ lines) entries =
    (own : List (Entry Global)) × (rest : List (Entry Global)) × (entries ≡ own ++ rest) × All
    (λ e. e.event.by ≡ line.by) own
    × IsWhole line.by line.action (receipts_by line.by n own) × AreInOrder (n + length own) lines rest
