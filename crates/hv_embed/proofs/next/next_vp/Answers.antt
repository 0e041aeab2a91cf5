use Rattle.std.proofs.Common.{◌≡◌, ℕ, ◌+◌, ◌<◌, ◌&&◌, Bool, true, false, sym, ap, ◌∙◌, arith, inl, inr, is_some, nat_cmp, subst}
use Rattle.std.proofs.lemmas.Bool.{cases_lt, cases_eq}
use Rattle.std.specs.FinMap as map
use Rattle.hv_embed.specs.Next.{is_after}
use Rattle.hv_embed.proofs.Following.{HasLeft, all_left, copied_some, none_left, none_less, one_less}
use Rattle.hv_embed.proofs.next.next_vp.Goals as goal
use Rattle.hv_embed.proofs.next.next_vp.Goals.{then-is_some+else-is_after, else-is_some}

pub loop-index-init : goal.loop-index-init
loop-index-init c = record {
  before = λ q lt there. absurd (omega (arith, lt));
  left = subst (HasLeft c.args.partition.now.vps.vps 0) (sym c.vp_count-left.ensures) (all_left c.args.partition.now.vps.vps);
}

second : (a b : Bool) → (a && b) ≡ true → b ≡ true
second true b is = is
second false b is = absurd (cc)

pub returns-then-left-eq0 : goal.returns-then-left-eq0
returns-then-left-eq0 c id has =
    let l = c.loop-index in
    let there : map.contains_key c.args.partition.now.vps.vps id ≡ true = second _ _ has in
    elim (cases_lt id l.index) [
      | inl lt ↦ l.invariant.before id lt there
      | inr le ↦ (let gone : map.contains_key c.args.partition.now.vps.vps id ≡ false = none_left c.args.partition.now.vps.vps l.index l.left c.if-left-eq0.true l.invariant.left id le in absurd (cc))
    ]

-- with one index more before which none comes after `previous`
one_more : {X : Type 0} (m : map.FinMap nat_cmp X) (previous index : ℕ) → ((q : ℕ) → q < index → map.contains_key m q ≡ true → is_after previous q ≡ false)
    → (map.contains_key m index ≡ true → is_after previous index ≡ false) → (q : ℕ) → q < index + 1 → map.contains_key m q ≡ true → is_after previous q ≡ false
one_more m previous index before here q lt there =
    elim (cases_eq q index) [
      | inl same ↦ ap (is_after previous) same ∙ here (ap (map.contains_key m) (sym same) ∙ there)
      | inr apart ↦ before q (omega (arith, lt, apart)) there
    ]

pub loop-index-preserved : goal.loop-index-preserved
loop-index-preserved c =
    let l = c.loop-index in
    let vps = c.args.partition.now.vps.vps in
    let found : map.contains_key vps l.index ≡ c.is_some.result = ap is_some (sym c.vp.ensures) ∙ copied_some c.vp.result ∙ sym c.is_some.ensures in
    elim c.if-is_some.branch [
      | then-is_some+else-is_after w ↦ record {
        before = one_more vps c.args.previous l.index l.invariant.before (λ there. sym w.is_after.ensures ∙ w.if-is_after.false);
        left = subst (HasLeft vps (l.index + 1)) (sym w.left-is) (one_less vps l.index l.left (found ∙ w.if-is_some.true) l.invariant.left);
      }
      | else-is_some w ↦ record {
        before = one_more vps c.args.previous l.index l.invariant.before (λ there. let off = found ∙ w.if-is_some.false in absurd (cc));
        left = subst (HasLeft vps (l.index + 1)) (sym w.left-is) (none_less vps l.index l.left (found ∙ w.if-is_some.false) l.invariant.left);
      }
    ]
