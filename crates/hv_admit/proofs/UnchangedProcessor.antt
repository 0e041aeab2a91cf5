-- Writing back the processor that is there changes nothing.
use Rattle.std.proofs.Common.{◌≡◌, ℕ, Option, None, Some, IfSome, arith, refl, sym, ap, ◌∙◌, nat_cmp, option_map}
use Rattle.std.specs.Cmp.{nat_cmp_total}
use Rattle.std.specs.FinMap.{FinMap, get, insert, same_map, nat_cmp-IsAntisymmetric}
use Rattle.hv_defs.proofs.Maps.{get_at-insert}
use Rattle.hv_partition.specs.Partition.{PartitionState, with_vp_of}
use Rattle.hv_tree.proofs.Laws.{change-of, change-unchanged}
use Rattle.hv_tree.specs.Rows.{Row, Rows, change, changed_at, content}
use Rattle.hv_vp.specs.Vp.{VpState}

same_vps : (vps : FinMap nat_cmp VpState) (index : ℕ) (vp : VpState) → get vps index ≡ Some vp → insert vps index vp ≡ vps
same_vps vps index vp is = same_map nat_cmp_total nat_cmp-IsAntisymmetric (insert vps index vp) vps (λ n. grind (arith, get_at-insert vps index vp n))

pub same_vp : (p : PartitionState) (index : ℕ) (vp : VpState) → get p.vps.vps index ≡ Some vp → with_vp_of p index vp ≡ p
same_vp p index vp is = ap (λ (vps : FinMap nat_cmp VpState). record p { vps = record p.vps { vps = vps } }) (same_vps p.vps.vps index vp is)

-- so does writing it back to the partition that has it
pub vp_kept : (rows : Rows PartitionState) (id index : ℕ) (vp : VpState) → IfSome (content rows id) (λ p. get p.vps.vps index ≡ Some vp) → change rows id (λ p. with_vp_of p index vp) ≡ rows
vp_kept rows id index vp = by (get rows id) refl
  where
    by : (o : Option (Row PartitionState)) → get rows id ≡ o → IfSome (option_map (λ r. r.1) o) (λ p. get p.vps.vps index ≡ Some vp) → changed_at rows id (λ p. with_vp_of p index vp) o ≡ rows
    by None there is = refl
    by (Some r) there is =
        let whole : content rows id ≡ Some r.1 = ap (option_map (λ r. r.1)) there in
        ap (changed_at rows id (λ p. with_vp_of p index vp)) (sym there) ∙ sym (change-of rows id (λ p. with_vp_of p index vp) r.1 whole)
        ∙ ap (λ p. change rows id (λ _. p)) (same_vp r.1 index vp is) ∙ change-unchanged rows id r.1 whole
