use Rattle.std.proofs.Common.{[], ◌∷◌, refl, ◌∙◌}
use Rattle.hv_defs.specs.Flags.{number_where}
use Rattle.hv_tables.proofs.FlagLines.{shown_flags}
use Rattle.hv_tables.proofs.messages.each_flag_has_its_bit.Goals as goal

pub returns-clause-of_sint_3 : goal.returns-clause-of_sint_3
unfolding number_where
returns-clause-of_sint_3 c = shown_flags ((3, 0) ∷ (3, 9) ∷ (3, 2047) ∷ (2, 5) ∷ []) 3 ∙ refl

pub returns-clause-of_sint_2 : goal.returns-clause-of_sint_2
unfolding number_where
returns-clause-of_sint_2 c = shown_flags ((3, 0) ∷ (3, 9) ∷ (3, 2047) ∷ (2, 5) ∷ []) 2 ∙ refl

pub returns-clause-of_sint_1 : goal.returns-clause-of_sint_1
unfolding number_where
returns-clause-of_sint_1 c = shown_flags ((3, 0) ∷ (3, 9) ∷ (3, 2047) ∷ (2, 5) ∷ []) 1 ∙ refl
