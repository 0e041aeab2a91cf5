-- Results up to out of memory.
use Rattle.std.specs.Prelude.{ℕ, ◌≡◌, ◌≢◌, ◌++◌, List, Result, Ok, Err}
use Rattle.hv_script.specs.Line.{◌>>=◌}
use Rattle.hv_asm.specs.declared.fault.AsmFault.{AsmFault}
use Rattle.hv_asm.specs.declared.fault.AsmFault.TheVariants.{Script}
use Rattle.hv_script.specs.declared.fault.FaultKind.TheVariants.{Memory}

-- a result is the specified one, with its value as `shown` gives it, except out of memory
abbrev pub IsMade : {T S : Type 0} → Result T AsmFault → (T → S) → Result S AsmFault → Type 0
IsMade (Ok value) shown specified = specified ≡ Ok (shown value)
IsMade (Err fault) shown specified = fault ≢ Script Memory → specified ≡ Err fault

-- a result after which a list has the specified bytes more at its end, except out of memory
abbrev pub IsPushed : {T : Type 0} → Result T AsmFault → List ℕ → List ℕ → Result (List ℕ) AsmFault → Type 0
IsPushed result old new specified = IsMade result (λ _. new) (specified >>= (λ more. Ok (old ++ more)))
