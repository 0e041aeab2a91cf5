-- The output of an assembly.
use Rattle.std.specs.Prelude.{◌≡◌, ◌⊎◌, ℕ, List, [], Option, IsOk, Ok}
use Rattle.std.specs.Io.KnownBytes.{Appends}
use Rattle.std.specs.declared.alloc.Global.{Global}
use Rattle.hv_run.specs.Written.{HasPart}
use Rattle.hv_script.specs.Script.{script_of}
use Rattle.hv_asm.specs.Text.{script_meant}

-- the writer got the script that a text means, and this is one without a fault
pub record HasPrinted (text : List ℕ) (old new : Option (List ℕ)) : Type 0 where
  pub script : List ℕ
  pub meant : script_meant text ≡ Ok script
  pub read : IsOk (script_of {A = Global} script)
  pub told : Appends old new script

-- the writer got a first part of the script that a text means, or nothing
pub record HasPrintedPart (text : List ℕ) (old new : Option (List ℕ)) : Type 0 where
  pub script : List ℕ
  pub meant : (script ≡ []) ⊎ (script_meant text ≡ Ok script)
  pub told : HasPart script old new
