use Rattle.std.proofs.Common.{refl}
use Rattle.hv_tables.proofs.Takers.{target_found}
use Rattle.hv_tables.specs.Lines.{is_target_line}
use Rattle.hv_tables.proofs.links.each_aim_has_its_target.Goals as goal

pub returns-clause-there : goal.returns-clause-there
returns-clause-there c = target_found _ _ _ _ refl

pub returns-clause-not_there : goal.returns-clause-not_there
returns-clause-not_there c = target_found _ _ _ _ refl

pub returns-clause-in_another_partition : goal.returns-clause-in_another_partition
returns-clause-in_another_partition c = target_found _ _ _ _ refl

pub returns-clause-any : goal.returns-clause-any
unfolding is_target_line
returns-clause-any c id = refl
