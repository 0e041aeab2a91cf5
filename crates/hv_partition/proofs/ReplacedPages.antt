-- Pages of a kind that were written.
use Rattle.std.proofs.Common.{◌≡◌, refl}
use Rattle.hv_pages.specs.PageSet.{PagesAndRoom}
use Rattle.hv_partition.specs.Partition.{PartitionState, with_pages}
use Rattle.hv_partition.specs.declared.kind.PageKind.{PageKind}
use Rattle.hv_partition.specs.declared.kind.PageKind.TheVariants.{Loose, Pooled}

-- of two writes the last one shows
pub with_twice : (kind : PageKind) (v w : PagesAndRoom) (p : PartitionState) → with_pages kind v (with_pages kind w p) ≡ with_pages kind v p
with_twice Loose v w p = refl
with_twice Pooled v w p = refl
