use Rattle.std.proofs.Common.{◌≡◌, ℕ, ◌+◌, ◌==◌, cond, inl, inr, nat_lt, Some, None, is_some, refl, sym, ap, ◌∙◌, arith, eq-eqb, le-ltb, lt-ltb, ne_eqb, nat_cmp}
use Rattle.std.proofs.lemmas.Bool.{cases_eq, cases_lt}
use Rattle.std.specs.FinMap.{get, get-empty, insert}
use Rattle.hv_defs.proofs.Maps.{get_at-insert}
use Rattle.hv_partition.specs.Partition.{PartitionState}
use Rattle.hv_vp.specs.Vp.{new_vp}
use Rattle.hv_machine.proofs.boot.give_vps.Goals as goal

rest : (start before after : PartitionState) → before ≡ record start { vps = before.vps } → after ≡ record before { vps = after.vps } → after ≡ record start { vps = after.vps }
rest start before after e made = made ∙ ap (λ (p : PartitionState). record p { vps = after.vps }) e

-- the next number is below one more, and no other that was not
one_more : {X : Type 0} (v : ℕ → X) (to q : ℕ) → cond (q == to) (Some (v to)) (cond (nat_lt q to) (Some (v q)) None) ≡ cond (nat_lt q (to + 1)) (Some (v q)) None
one_more v to q =
    elim (cases_eq q to) [
      | inl is ↦ rw (eq-eqb q to is, lt-ltb q (to + 1) (omega (arith, is))) (ap (λ n. Some (v n)) (sym is))
      | inr apart ↦ rw (ne_eqb q to apart) (ap (λ b. cond b (Some (v q)) None) (elim (cases_lt q to) [
        | inl low ↦ lt-ltb q to low ∙ sym (lt-ltb q (to + 1) (omega arith))
        | inr high ↦ le-ltb q to high ∙ sym (le-ltb q (to + 1) (omega (arith, high, apart)))
      ]))
    ]

pub loop-index-init : goal.loop-index-init
loop-index-init g c = record {
  vps = λ index. ap (λ m. get m index) c.requires ∙ get-empty nat_cmp index ∙ ap (λ b. cond b (Some (new_vp index)) None) (sym (le-ltb index 0 (omega arith)));
  rest = refl;
}

pub add_vp-requires-clause-free : goal.add_vp-requires-clause-free
add_vp-requires-clause-free g c =
    let to = c.loop-index.index in
    ap (λ m. is_some (get m to)) c.in_ok-reserve_vp.ensures.vps ∙ ap is_some (c.loop-index.invariant.vps to ∙ ap (λ b. cond b (Some (new_vp to)) None) (le-ltb to to (omega arith)))

pub loop-index-preserved : goal.loop-index-preserved
loop-index-preserved g c =
    let before = c.loop-index.invariant in
    let to = c.loop-index.index in
    let held = c.loop-index.root.vps.vps in
    let added = c.add_vp.ensures.vps ∙ ap (λ vps. insert vps to c.in_ok-vp.vp) c.in_ok-reserve_vp.ensures.vps ∙ ap (insert held to) c.in_ok-vp.ensures in
    record {
      vps = λ q. ap (λ m. get m q) added ∙ get_at-insert held to (new_vp to) q ∙ ap (cond (q == to) (Some (new_vp to))) (before.vps q) ∙ one_more new_vp to q;
      rest = rest c.args.root.now c.reserve_vp.new.self c.add_vp.new.self (rest c.args.root.now c.loop-index.root c.reserve_vp.new.self before.rest c.in_ok-reserve_vp.ensures.rest)
          c.add_vp.ensures.rest;
    }
