-- What a partition has, one after another.
use Rattle.std.specs.Prelude.{◌≡◌, ℕ, ◌+◌, ◌<◌, ◌≤◌, ◌==◌, ◌||◌, Bool, true, false, nat_lt}
use Rattle.std.specs.Prelude.{Option, None, Some, if◌then◌else◌}
use Rattle.hv_defs.specs.declared.sizes.TheConstants.{MAX_PAGES}
use Rattle.hv_embed.specs.declared.layout.HvPageRun.{HvPageRun}
use Rattle.hv_embed.specs.declared.layout.TheConstants.{FIRST}

-- an id comes after `previous`; after `FIRST` comes every id
abbrev pub is_after : (previous id : ℕ) → Bool
is_after previous id = (previous == FIRST) || nat_lt previous id

-- the id passes a test and comes after `previous`, and none of those that do is lower
pub record IsLeastAfter (test : ℕ → Bool) (previous id : ℕ) : Type 0 where
  pub passes : test id ≡ true
  pub after : is_after previous id ≡ true
  pub least : (other : ℕ) → test other ≡ true → is_after previous other ≡ true → id ≤ other

-- what comes next: the least id after `previous` that passes a test. None if none passes
abbrev pub IsNext : (ℕ → Bool) → ℕ → Option ℕ → Type 0
IsNext test previous None = (id : ℕ) → test id ≡ true → is_after previous id ≡ false
IsNext test previous (Some id) = IsLeastAfter test previous id

-- whether a partition has a page, pooled or loose, where `held` tells which pages it has pooled (`true`), and
-- which loose
abbrev pub is_any : (held : Bool → ℕ → Bool) → ℕ → Bool
is_any held page = held true page || held false page

-- a run begins at the least page after `previous` that the partition has, has pages that are all pooled or
-- all loose, and is as long as it can be
pub record IsRunAfter (held : Bool → ℕ → Bool) (previous : ℕ) (run : HvPageRun) : Type 0 where
  pub first : IsLeastAfter (is_any held) previous run.page
  pub pooled : Bool
  pub told : run.pooled ≡ if pooled then 1 else 0
  pub some : 0 < run.count
  pub alike : (page : ℕ) → run.page ≤ page → page < run.page + run.count → held pooled page ≡ true
  pub ends : held pooled (run.page + run.count) ≡ false

-- the next run of pages. None if the partition has no page after `previous`
abbrev pub IsNextRun : (held : Bool → ℕ → Bool) → ℕ → Option HvPageRun → Type 0
IsNextRun held previous None = (page : ℕ) → is_any held page ≡ true → is_after previous page ≡ false
IsNextRun held previous (Some run) = IsRunAfter held previous run

-- a run of pages that pass a test: it begins at the least one from this page on, and is as long as it can be
pub record IsFirstOfKind (test : ℕ → Bool) (pooled : Bool) (from : ℕ) (run : HvPageRun) : Type 0 where
  pub after : from ≤ run.page
  pub told : run.pooled ≡ if pooled then 1 else 0
  pub some : 0 < run.count
  pub most : run.page + run.count ≤ MAX_PAGES
  pub none : (page : ℕ) → from ≤ page → page < run.page → test page ≡ false
  pub held : (page : ℕ) → run.page ≤ page → page < run.page + run.count → test page ≡ true
  pub ends : test (run.page + run.count) ≡ false
