-- From a script's lines to its text.
use Rattle.std.proofs.Common.{◌≡◌, ℕ, refl, sym, ◌∙◌, subst, Bool, Ok, Err, None, Some, Global}
use Rattle.hv_policy.specs.BootFault.{IsBootRefusal, boot_fault}
use Rattle.hv_policy.specs.declared.config.BootRefused.{BootRefused}
use Rattle.hv_policy.specs.declared.config.BootRefused.TheVariants as refused
use Rattle.hv_policy.specs.declared.config.Config.{Config}
use Rattle.hv_script.specs.Script.{Said, script_of}
use Rattle.hv_script.specs.declared.fault.ScriptFault.{ScriptFault}
use Rattle.hv_check.specs.Legal.{IsLegal, IsLegalOf, IsLegalOfWith, IsLegalWith}
use Rattle.hv_check.specs.Verdict.{Counts, Says}
use Rattle.hv_check.specs.declared.verdict.Verdict.{Verdict}
use Rattle.hv_check.specs.declared.verdict.Verdict.TheVariants.{Legal, Illegal}
use Rattle.hv_check.proofs.LineTexts.{Bytes}

-- what is said of one is said of another that is so just where the first is
pub says_map : (verdict : Verdict) (P Q : Type 0) → (P → Q) → (Q → P) → Says verdict P → Says verdict Q
says_map (Legal events) P Q there back is = there is
says_map (Illegal wrong text) P Q there back is = λ q. is (back q)

pub counts_map : (verdict : Verdict) (P Q : ℕ → Type 0) → ((events : ℕ) → P events → Q events) → Counts verdict P → Counts verdict Q
counts_map (Legal events) P Q there is = there events is
counts_map (Illegal wrong text) P Q there is = tt

pub to_text_with : (prefix rules : Bool) (script bytes : Bytes) (said : Said Global) → script_of script ≡ Ok said → (events : ℕ) → IsLegalWith prefix rules said bytes events
    → IsLegalOfWith prefix rules script bytes events
to_text_with prefix rules script bytes said is events legal = record { said = said; is = is; legal = legal }

pub to_text : (prefix rules : Bool) (script bytes : Bytes) (said : Said Global) → script_of script ≡ Ok said → IsLegal prefix rules said bytes → IsLegalOf prefix rules script bytes
to_text prefix rules script bytes said is legal = record { said = said; is = is; legal = legal }

pub of_text : (prefix rules : Bool) (script bytes : Bytes) (said : Said Global) → script_of script ≡ Ok said → IsLegalOf prefix rules script bytes → IsLegal prefix rules said bytes
of_text prefix rules script bytes said is legal = let same : legal.said ≡ said = let other = legal.is in cc in subst (λ (s : Said Global). IsLegal prefix rules s bytes) same legal.legal

-- a script with a fault has no legal audit
pub of_fault : (prefix rules : Bool) (script bytes : Bytes) (fault : ScriptFault) → script_of {A = Global} script ≡ Err fault → IsLegalOf prefix rules script bytes → ⊥
of_fault prefix rules script bytes fault is legal = let other = legal.is in cc

not_both : (config : Config) (why : BootRefused) → boot_fault config ≡ Some why → boot_fault config ≡ None → ⊥
not_both config why one other = none_some (sym other ∙ one)
  where
    none_some : {T : Type 0} {t : T} → None ≡ Some t → ⊥
    none_some is = cc

-- nor has one whose boot is refused
pub of_refused : (prefix rules : Bool) (said : Said Global) (bytes : Bytes) (why : BootRefused) → IsBootRefusal said.config why → (why ≡ refused.Memory → ⊥) → IsLegal prefix rules said bytes → ⊥
of_refused prefix rules said bytes refused.Pages is other legal = not_both said.config refused.Pages is (subst (λ (c : Config). boot_fault c ≡ None) legal.config legal.run.boots)
of_refused prefix rules said bytes refused.Pool is other legal = not_both said.config refused.Pool is (subst (λ (c : Config). boot_fault c ≡ None) legal.config legal.run.boots)
of_refused prefix rules said bytes refused.Vps is other legal = not_both said.config refused.Vps is (subst (λ (c : Config). boot_fault c ≡ None) legal.config legal.run.boots)
of_refused prefix rules said bytes refused.Memory is other legal = other refl
