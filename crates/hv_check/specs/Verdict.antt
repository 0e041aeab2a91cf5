-- The meaning of a verdict.
use Rattle.std.specs.Prelude.{ℕ}
use Rattle.hv_run.specs.declared.failure.Exit.{Exit}
use Rattle.hv_run.specs.declared.failure.Exit.TheVariants as exit
use Rattle.hv_check.specs.declared.verdict.Verdict.{Verdict}
use Rattle.hv_check.specs.declared.verdict.Verdict.TheVariants.{Legal, Illegal}

-- a verdict says that a proposition holds, or that it fails
abbrev pub Says : Verdict → Type 0 → Type 0
Says (Legal events) P = P
Says (Illegal wrong text) P = P → ⊥

-- where a verdict is that an audit is legal, its number of events has a property
abbrev pub Counts : Verdict → (ℕ → Type 0) → Type 0
Counts (Legal events) P = P events
Counts (Illegal wrong text) P = Unit {0}

-- the exit status of a verdict
abbrev pub status_of : Verdict → Exit
status_of (Legal events) = exit.Done
status_of (Illegal wrong text) = exit.Script
