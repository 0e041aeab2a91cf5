use Rattle.std.proofs.Common.{refl}
use Rattle.hv_tables.proofs.Takers.{takers_found}
use Rattle.hv_tables.proofs.links.each_aim_has_its_takers.Goals as goal

pub returns-clause-any : goal.returns-clause-any
returns-clause-any c = takers_found _ tt _ _ _ refl

pub returns-clause-any_without_processors : goal.returns-clause-any_without_processors
returns-clause-any_without_processors c = takers_found _ tt _ _ _ refl

pub returns-clause-any_without_a_ready_one : goal.returns-clause-any_without_a_ready_one
returns-clause-any_without_a_ready_one c = takers_found _ tt _ _ _ refl

pub returns-clause-one_ready_for_none : goal.returns-clause-one_ready_for_none
returns-clause-one_ready_for_none c = takers_found _ tt _ _ _ refl

pub returns-clause-one_ready_for_flags : goal.returns-clause-one_ready_for_flags
returns-clause-one_ready_for_flags c = takers_found _ tt _ _ _ refl

pub returns-clause-one_ready_for_messages : goal.returns-clause-one_ready_for_messages
returns-clause-one_ready_for_messages c = takers_found _ tt _ _ _ refl

pub returns-clause-one_ready_for_both : goal.returns-clause-one_ready_for_both
returns-clause-one_ready_for_both c = takers_found _ tt _ _ _ refl

pub returns-clause-one_that_is_not_there : goal.returns-clause-one_that_is_not_there
returns-clause-one_that_is_not_there c = takers_found _ tt _ _ _ refl

pub returns-clause-of_another_partition : goal.returns-clause-of_another_partition
returns-clause-of_another_partition c = takers_found _ tt _ _ _ refl
