-- The changes that the calls of this call group make to the rows, and their preconditions.
use Rattle.std.specs.Prelude.{◌≡◌, ℕ, ◌≤◌, Bool, true, false, not, Option, Some, option_map}
use Rattle.std.specs.FinMap.{insert}
use Rattle.std.specs.FinSet as set
use Rattle.hv_calls.specs.declared.call.Call.{Call}
use Rattle.hv_pages.specs.PageSet.{PagesAndRoom}
use Rattle.hv_partition.specs.Partition.{PartitionState, pages_in, with_pages}
use Rattle.hv_partition.specs.declared.kind.PageKind.{PageKind}
use Rattle.hv_partition.specs.declared.kind.PageKind.TheVariants.{Loose, Pooled}
use Rattle.hv_policy.specs.Count.{lowest_pooled}
use Rattle.hv_policy.specs.Flat.{Flat}
use Rattle.hv_policy.specs.Needs.{target_of}
use Rattle.hv_admit.specs.Asked.{IsGranted}
use Rattle.hv_admit.specs.Tie.{Refines}
use Rattle.hv_tree.specs.Rows.{Rows, content, change}

-- the kind of pages that are pooled, or not
abbrev pub kind_of : Bool → PageKind
kind_of false = Loose
kind_of true = Pooled

-- a partition's pages of a kind, with their room
abbrev pub pages_at : Rows PartitionState → ℕ → PageKind → Option PagesAndRoom
pages_at rows id kind = option_map (pages_in kind) (content rows id)

-- the rows with a partition's pages of a kind replaced
abbrev pub with_pages_at : Rows PartitionState → ℕ → PageKind → PagesAndRoom → Rows PartitionState
with_pages_at rows id kind pages = change rows id (with_pages kind pages)

-- a partition's pages of a kind changed as `How` relates them, and nothing else changed
pub record HasPages (old new : Rows PartitionState) (id : ℕ) (kind : PageKind)
    (How : PagesAndRoom → PagesAndRoom → Type 0) : Type 0 where
  pub before : PagesAndRoom
  pub at : pages_at old id kind ≡ Some before
  pub after : PagesAndRoom
  pub how : How before after
  pub rows : new ≡ with_pages_at old id kind after

-- a flat state with a page at an owner, pooled or not
abbrev pub moved_to : Flat → ℕ → ℕ → Bool → Flat
moved_to f page owner pooled = record f {
  page = insert f.page page (record { owner = owner; pooled = pooled });
}

-- this page was removed, and there is room to put it back
abbrev pub HasLost : ℕ → PagesAndRoom → PagesAndRoom → Type 0
HasLost page before after = (after.pages ≡ set.remove before.pages page) × (1 ≤ after.room)

-- this page was added
abbrev pub HasGained : ℕ → PagesAndRoom → PagesAndRoom → Type 0
HasGained page before after = after.pages ≡ set.insert before.pages page

-- precondition of adding a page: the page set exists, and lacks this page
pub record CanHold (page : ℕ) (pages : Option PagesAndRoom) : Type 0 where
  pub there : PagesAndRoom
  pub at : pages ≡ Some there
  pub new : set.contains there.pages page ≡ false

-- precondition of adding a page without memory: the page set has room for one more change, and lacks this
-- page
pub record CanGain (page : ℕ) (pages : Option PagesAndRoom) : Type 0 where
  pub there : PagesAndRoom
  pub at : pages ≡ Some there
  pub room : 1 ≤ there.room
  pub new : set.contains there.pages page ≡ false

-- precondition of moving a page: it is one of the pages of its kind of `from`, and none of the other kind of
-- `to`
pub record MayMove (rows : Rows PartitionState) (from to page : ℕ) (pooled : Bool) : Type 0 where
  pub source : PagesAndRoom
  pub had : pages_at rows from (kind_of pooled) ≡ Some source
  pub held : set.contains source.pages page ≡ true
  pub target : PagesAndRoom
  pub there : pages_at rows to (kind_of (not pooled)) ≡ Some target
  pub new : set.contains target.pages page ≡ false

-- precondition of a withdrawal of this page: the call's rules hold, and the page is the lowest pooled one of
-- its target
pub record MayWithdraw (rows : Rows PartitionState) (caller : ℕ) (call : Call) (page : ℕ) : Type 0 where
  pub granted : IsGranted rows caller call
  pub lowest : (f : Flat) → Refines rows f → lowest_pooled f (target_of call caller) ≡ Some page
