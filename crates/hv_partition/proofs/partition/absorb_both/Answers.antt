use Rattle.hv_partition.proofs.Disjoint.{IsDisjoint-union}
use Rattle.hv_partition.proofs.partition.absorb_both.Goals as goal

pub absorb-requires-2-clause-disjoint : goal.absorb-requires-2-clause-disjoint
absorb-requires-2-clause-disjoint g c = rw c.absorb.ensures.pages (IsDisjoint-union _ _ _ c.requires.other c.requires.apart)
