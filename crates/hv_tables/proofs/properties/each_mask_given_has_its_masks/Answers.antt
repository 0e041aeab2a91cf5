use Rattle.std.proofs.Common.{refl}
use Rattle.hv_tables.proofs.NarrowedFamilies.{masks_found}
use Rattle.hv_tables.proofs.properties.each_mask_given_has_its_masks.Goals as goal

pub returns-clause-to_a_running_tenant : goal.returns-clause-to_a_running_tenant
returns-clause-to_a_running_tenant c = masks_found _ _ _ _ refl

pub returns-clause-four_deep : goal.returns-clause-four_deep
returns-clause-four_deep c = masks_found _ _ _ _ refl

pub returns-clause-below_alone : goal.returns-clause-below_alone
returns-clause-below_alone c = masks_found _ _ _ _ refl

pub returns-clause-bits_that_it_lacks : goal.returns-clause-bits_that_it_lacks
returns-clause-bits_that_it_lacks c = masks_found _ _ _ _ refl

pub returns-clause-one_bit_less : goal.returns-clause-one_bit_less
returns-clause-one_bit_less c = masks_found _ _ _ _ refl

pub returns-clause-to_a_created_partition : goal.returns-clause-to_a_created_partition
returns-clause-to_a_created_partition c = masks_found _ _ _ _ refl
