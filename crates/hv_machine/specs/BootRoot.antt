-- The partition that boot makes.
use Rattle.std.specs.Prelude.{◌≡◌, ℕ, ◌&&◌, cond, nat_le, nat_lt, None, Some}
use Rattle.std.specs.FinMap as map
use Rattle.std.specs.FinSet as set
use Rattle.hv_defs.specs.declared.life.Life.TheVariants.{Active}
use Rattle.hv_partition.specs.Partition.{PartitionState, new_partition}
use Rattle.hv_policy.specs.declared.config.Config.{Config}
use Rattle.hv_vp.specs.Vp.{new_vp}

-- the root partition that boot makes: its first pages are pooled, the others are loose, and it has the
-- configured number of processors
pub record IsBootRoot (config : Config) (p : PartitionState) : Type 0 where
  pub start : p ≡ record (new_partition Active config.mask)
      { loose = p.loose; pooled = p.pooled; vps = p.vps }
  pub loose : (page : ℕ) → set.contains p.loose.pages page ≡ nat_le config.pool page && nat_lt page
      config.pages
  pub pooled : (page : ℕ) → set.contains p.pooled.pages page ≡ nat_lt page config.pool
  pub vps : (index : ℕ) → map.get p.vps.vps index ≡ cond (nat_lt index config.vps) (Some (new_vp index)) None
