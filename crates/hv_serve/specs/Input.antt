-- Reading a line. Only contracts of private functions cite these words.
use Rattle.std.specs.Prelude.{ℕ, ◌≡◌, ◌≢◌, ◌≤◌, ◌<◌, ◌++◌, List, [], ◌∷◌, length, All, Bool, true, false}
use Rattle.std.specs.Prelude.{Option, None, Some}
use Rattle.std.specs.Io.KnownBytes.{Consumes, IsAtEnd}
use Rattle.hv_script.specs.declared.fault.FaultKind.{FaultKind}
use Rattle.hv_script.specs.declared.fault.FaultKind.TheVariants.{Long, Memory}
use Rattle.hv_script.specs.declared.script.TheConstants.{MOST_BYTES}
use Rattle.hv_serve.specs.declared.input.LineEnd.{LineEnd}

-- the next byte was read, or the input ended
abbrev pub IsNext : Option ℕ → Option (List ℕ) → Option (List ℕ) → Type 0
IsNext None old new = Consumes old new [] × IsAtEnd new
IsNext (Some byte) old new = Consumes old new (byte ∷ [])

-- these bytes of a line were kept. They are lost if they are more than a script may have, or if there is no
-- memory for one of them
abbrev pub AreKept : List ℕ → List ℕ → Option FaultKind → Type 0
AreKept bytes kept None = (kept ≡ bytes) × (length bytes ≤ MOST_BYTES)
AreKept bytes kept (Some kind) = (bytes ≢ []) × (kind ≢ Memory → (kind ≡ Long) × (MOST_BYTES < length bytes))

-- these bytes were read, and then the input's end, or a line feed
abbrev pub HasEnded : Bool → List ℕ → Option (List ℕ) → Option (List ℕ) → Type 0
HasEnded true bytes old new = Consumes old new bytes × IsAtEnd new
HasEnded false bytes old new = Consumes old new (bytes ++ 10 ∷ [])

-- a line was read, and its bytes were kept or lost
pub record HasLine (kept : List ℕ) (end : LineEnd) (old new : Option (List ℕ)) : Type 0 where
  pub bytes : List ℕ
  pub one : All (λ byte. byte ≢ 10) bytes
  pub kept_are : AreKept bytes kept end.lost
  pub ended : HasEnded end.last bytes old new
