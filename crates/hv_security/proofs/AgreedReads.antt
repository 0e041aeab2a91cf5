-- What two states that agree for a caller have alike.
use Rattle.std.proofs.Common.{◌≡◌, ℕ, zero, suc, ◌==◌, ◌||◌, true, Option, Some, None, refl, ap, eq-eqb, option_and_then}
use Rattle.std.specs.FinMap.{contains_key, get}
use Rattle.hv_policy.specs.Count.{depth_within, is_parent, one_more, parent_of}
use Rattle.hv_policy.specs.Flat.{Flat, PartRow}
use Rattle.hv_policy.specs.Met.{is_child, is_kin}
use Rattle.hv_policy.specs.declared.need.Kin.{Kin}
use Rattle.hv_policy.specs.declared.need.Kin.TheVariants as kin
use Rattle.hv_security.proofs.CountsAgree.{lineage_tested, lineage_there}
use Rattle.hv_security.specs.Agreed.{Agrees, lineage}
use Rattle.hv_security.specs.Same.{HasSame, is_relative}

pub caller_relative : (f : Flat) (caller : ℕ) → is_relative f caller caller ≡ true
caller_relative f caller = ap (λ b. b || is_child f caller caller) (eq-eqb caller caller refl)

module _ (caller : ℕ) (f g : Flat) (a : Agrees caller f g) where
  -- the caller's own
  pub own : HasSame caller f g
  own = a.relatives caller (caller_relative f caller)

  pub there_alike : (id : ℕ) → contains_key f.part id ≡ contains_key g.part id
  there_alike id = lineage_there (get f.part id) (get g.part id) (a.parents id)

  pub child_alike : (parent id : ℕ) → is_child f parent id ≡ is_child g parent id
  child_alike parent id = lineage_tested (is_parent parent) (get f.part id) (get g.part id) (a.parents id)

  pub kin_alike : (k : Kin) (id : ℕ) → is_kin k f caller id ≡ is_kin k g caller id
  kin_alike kin.Caller id = refl
  kin_alike kin.CallerOrChild id = ap (λ b. (id == caller) || b) (child_alike caller id)
  kin_alike kin.Child id = child_alike caller id

  parent_alike : (id : ℕ) → parent_of f id ≡ parent_of g id
  parent_alike id = by (get f.part id) (get g.part id) (a.parents id)
    where
      by : (r s : Option PartRow) → lineage r ≡ lineage s → option_and_then (λ row. row.parent) r ≡ option_and_then (λ row. row.parent) s
      by None None e = refl
      by None (Some s) e = cc
      by (Some r) None e = cc
      by (Some r) (Some s) e = cc

  pub depth_alike : (steps id : ℕ) → depth_within steps f id ≡ depth_within steps g id
  depth_alike zero id = refl
  depth_alike (suc steps) id = λ i. one_more (λ id. depth_alike steps id i) (parent_alike id i)
