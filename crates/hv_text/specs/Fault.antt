-- The part of a text that a writer has, also after a failed write.
use Rattle.std.specs.Prelude.{ℕ, ◌≡◌, ◌<◌, ◌≤◌, List, length, take, drop, Option}
use Rattle.std.specs.Io.KnownBytes.{Appends, Keeps}
use Rattle.hv_text.specs.declared.fault.PrintFault.{PrintFault}
use Rattle.hv_text.specs.declared.fault.PrintFault.TheVariants.{Memory, Write}

-- as many of the text's first bytes as the fault says went out, and not all; out of memory, none did
abbrev pub IsCut : Option (List ℕ) → Option (List ℕ) → List ℕ → PrintFault → Type 0
IsCut old new text (Write written) = Appends old new (take written text) × (written < length text)
IsCut old new text Memory = Keeps old new

-- so many of the text's first bytes went out, and the others are left
pub record HasSent (old new : Option (List ℕ)) (text rest : List ℕ) (written : ℕ) : Type 0 where
  pub gone : Appends old new (take written text)
  pub left : drop written text ≡ rest
  pub within : written ≤ length text
