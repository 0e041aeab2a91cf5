-- The rules of an access to a model-specific register.
use Rattle.std.specs.Prelude.{ℕ, is_some, List, [], ◌∷◌, Option}
use Rattle.hv_policy.specs.Flat.{Flat}
use Rattle.hv_policy.specs.Met.{may_access_msr}
use Rattle.hv_policy.specs.Rules.{Ask}
use Rattle.hv_policy.specs.declared.rule.Rule.TheVariants.{MsrKnown, MsrPrivilege}

-- P25 and P26 for the register with this name in a call, if there is one
abbrev pub msr_asks : Flat → ℕ → Option ℕ → List Ask
msr_asks f caller name = (MsrKnown, is_some name) ∷ (MsrPrivilege, may_access_msr f caller name) ∷ []
