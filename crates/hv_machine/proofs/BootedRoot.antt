-- The root that boot makes, step by step.
use Rattle.std.proofs.Common.{◌≡◌, ℕ, ◌&&◌, cond, nat_le, nat_lt, None, Some, sym, ap, ◌∙◌, arith, le-leb}
use Rattle.std.specs.FinMap as map
use Rattle.std.specs.FinSet as set
use Rattle.hv_defs.specs.declared.life.Life.TheVariants.{Active}
use Rattle.hv_pages.specs.PageSet.{PagesAndRoom}
use Rattle.hv_partition.specs.Partition.{PartitionState, new_partition}
use Rattle.hv_policy.specs.declared.config.Config.{Config}
use Rattle.hv_vp.specs.Vp.{new_vp}
use Rattle.hv_machine.specs.BootRoot.{IsBootRoot}

-- given its loose pages, then its pooled ones, then its processors
pub root_made : (config : Config) (bare loose pooled staffed : PartitionState) → bare ≡ new_partition Active config.mask
    → loose ≡ record bare { loose = loose.loose } → pooled ≡ record loose { pooled = pooled.pooled } → staffed ≡ record pooled { vps = staffed.vps }
    → ((page : ℕ) → set.contains loose.loose.pages page ≡ nat_le config.pool page && nat_lt page config.pages)
    → ((page : ℕ) → set.contains pooled.pooled.pages page ≡ nat_le 0 page && nat_lt page config.pool)
    → ((index : ℕ) → map.get staffed.vps.vps index ≡ cond (nat_lt index config.vps) (Some (new_vp index)) None) → IsBootRoot config staffed
root_made config bare loose pooled staffed new first second third from to vps =
    let same_pool : staffed.pooled ≡ pooled.pooled = ap (λ (p : PartitionState). p.pooled) third in
    let same_loose : staffed.loose ≡ loose.loose = ap (λ (p : PartitionState). p.loose) third ∙ ap (λ (p : PartitionState). p.loose) second in
    record {
      start = third ∙ ap (λ (p : PartitionState). record p { vps = staffed.vps }) (second ∙ ap (λ (p : PartitionState). record p { pooled = pooled.pooled })
          (first ∙ ap (λ (p : PartitionState). record p { loose = loose.loose }) new))
          ∙ (λ i. record (new_partition Active config.mask) { loose = sym same_loose i; pooled = sym same_pool i; vps = staffed.vps });
      loose = λ page. ap (λ (s : PagesAndRoom). set.contains s.pages page) same_loose ∙ from page;
      pooled = λ page. ap (λ (s : PagesAndRoom). set.contains s.pages page) same_pool ∙ to page ∙ ap (λ b. b && nat_lt page config.pool) (le-leb 0 page (omega arith));
      vps = vps;
    }
