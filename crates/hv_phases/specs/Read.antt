-- Properties of the lines of every script that was read.
use Rattle.std.specs.Prelude.{◌<◌, ◌≤◌, ◌^◌, List, [], ◌∷◌, All}
use Rattle.std.specs.declared.alloc.Global.{Global}
use Rattle.hv_script.specs.declared.line.Line.{Line}

-- no line follows one of a later phase
abbrev pub AreSorted : List (Line Global) → Type 0
AreSorted [] = Unit {0}
AreSorted (line ∷ lines) = All (λ next. line.phase ≤ next.phase) lines × AreSorted lines

-- the processor's numbers fit 64 and 32 bits
abbrev pub IsNamed : Line Global → Type 0
IsNamed line = (line.by.part < 2 ^ 64) × (line.by.vp < 2 ^ 32)

-- the lines are sorted, and each processor's numbers fit
pub record AreRead (lines : List (Line Global)) : Type 0 where
  pub sorted : AreSorted lines
  pub named : All IsNamed lines
