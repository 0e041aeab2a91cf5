-- The first events of a script's lines.
use Rattle.std.specs.Prelude.{ℕ, ◌≡◌, ◌≤◌, ◌⊎◌, ◌+◌, List, [], ◌∷◌, ◌++◌, length, All, Option, None}
use Rattle.std.specs.Prelude.{Some}
use Rattle.std.specs.declared.alloc.Global.{Global}
use Rattle.hv_history.specs.Kept.{Kept}
use Rattle.hv_history.specs.declared.entry.Entry.{Entry}
use Rattle.hv_phases.specs.Lines.{AreInOrder}
use Rattle.hv_script.specs.declared.line.Line.{Line}
use Rattle.hv_shared.specs.ByCaller.{receipts_by}
use Rattle.hv_threads.specs.Perform.{IsStopped}

-- the first entries of the next of these lines, or none. An action that came to its end has more
abbrev pub IsPart : ℕ → List (Line Global) → List (Entry Global) → Type 0
IsPart n [] entries = entries ≡ []
IsPart n (line ∷ lines) entries =
    All (λ e. e.event.by ≡ line.by) entries × IsStopped line.by line.action (receipts_by line.by n entries)

-- the first entries of these lines: of some lines to their end, line by line, and a part of the next
pub record AreBegun (lines : List (Line Global)) (entries : List (Entry Global)) : Type 0 where
  pub done : List (Line Global)
  pub left : List (Line Global)
  pub own : List (Entry Global)
  pub part : List (Entry Global)
  pub split : lines ≡ done ++ left
  pub all : entries ≡ own ++ part
  pub order : AreInOrder 1 done own
  pub next : IsPart (length own + 1) left part

-- the entries of these lines, line by line: all of them, and at most so many, or the first so many
abbrev pub AreFirst : Option ℕ → List (Line Global) → List (Entry Global) → Type 0
AreFirst None lines entries = AreInOrder 1 lines entries
AreFirst (Some at) lines entries =
    (AreInOrder 1 lines entries × (length entries ≤ at)) ⊎ (AreBegun lines entries × (length entries ≡ at))

-- the history gains the entries of these lines up to this event, in the lines' order
pub record HasRun (at : Option ℕ) (lines : List (Line Global)) (old new : Kept Global) : Type 0 where
  pub order : AreFirst at lines new.history
  pub config : new.config ≡ old.config
  pub limit : new.limit ≡ old.limit
