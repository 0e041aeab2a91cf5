use Rattle.std.proofs.Common.{subst, sym}
use Rattle.hv_pages.specs.PageSet.{IsDisjoint}
use Rattle.hv_partition.specs.Partition.{PartitionState}
use Rattle.hv_partition.proofs.partition.Partition.take_over.Goals as goal

pub absorb_both-requires-clause-one : goal.absorb_both-requires-clause-one
absorb_both-requires-clause-one g c =
    let mine = subst (λ (s : PartitionState). IsDisjoint s.loose.pages c.args.gone.loose.pages) (sym c.self.view_is) c.requires.loose in
    let both = subst (λ (s : PartitionState). IsDisjoint c.self.inside.parts.value.loose.pages s.loose.pages) (sym c.gone.view_is) mine in
    rw (c.deref_mut.ensures.value, c.into_inner-loose.ensures) both

pub absorb_both-requires-clause-other : goal.absorb_both-requires-clause-other
absorb_both-requires-clause-other g c =
    let mine = subst (λ (s : PartitionState). IsDisjoint s.loose.pages c.args.gone.pooled.pages) (sym c.self.view_is) c.requires.pooled in
    let both = subst (λ (s : PartitionState). IsDisjoint c.self.inside.parts.value.loose.pages s.pooled.pages) (sym c.gone.view_is) mine in
    rw (c.deref_mut.ensures.value, c.into_inner-loose.ensures) both

pub absorb_both-requires-clause-apart : goal.absorb_both-requires-clause-apart
absorb_both-requires-clause-apart g c =
    let both = subst (λ (s : PartitionState). IsDisjoint s.loose.pages s.pooled.pages) (sym c.gone.view_is) c.requires.apart in
    rw c.into_inner-loose.ensures both
