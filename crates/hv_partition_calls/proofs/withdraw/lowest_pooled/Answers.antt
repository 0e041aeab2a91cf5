use Rattle.std.proofs.Common.{◌≡◌, true, refl, sym, ap, subst, ◌∙◌, nat_cmp}
use Rattle.std.specs.FinSet as set
use Rattle.hv_pages.specs.PageSet.{PagesAndRoom, IsLowest}
use Rattle.hv_partition.specs.Partition.{PartitionState}
use Rattle.hv_admit.proofs.FoundRow.{content_row}
use Rattle.hv_admit.specs.Tie.{holds}
use Rattle.hv_partition_calls.proofs.PoolLookups.{lowest_is, no_lowest}
use Rattle.hv_partition_calls.proofs.withdraw.lowest_pooled.Goals as goal

pub returns-in-None-clause-lowest : goal.returns-in-None-clause-lowest
returns-in-None-clause-lowest g c tree f id at flat =
    let (r, is, same) = content_row tree id c.args.partition.now (sym at) in
    let empty : r.1.pooled.pages ≡ set.empty = ap {A = PartitionState} (λ p. p.pooled.pages) same ∙ sym (ap {A = PagesAndRoom} (λ p. p.pages) c.pages.ensures) ∙ c.in-None.ensures.none.0 refl in
    sym (no_lowest tree f flat id (λ q. ap (holds true q) is ∙ ap (λ s. set.contains s q) empty ∙ set.contains-empty nat_cmp q))

pub returns-in-Some-clause-lowest : goal.returns-in-Some-clause-lowest
returns-in-Some-clause-lowest g c tree f id at flat =
    let (r, is, same) = content_row tree id c.args.partition.now (sym at) in
    let low : IsLowest r.1.pooled.pages c.in-Some.page = subst (λ s. IsLowest s c.in-Some.page)
    (ap {A = PagesAndRoom} (λ p. p.pages) (c.pages.ensures ∙ ap {A = PartitionState} (λ p. p.pooled) (sym same))) c.in-Some.ensures.lowest in
    sym (lowest_is tree f flat id r is c.in-Some.page low)
