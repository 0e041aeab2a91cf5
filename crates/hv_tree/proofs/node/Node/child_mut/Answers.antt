use Rattle.std.proofs.lemmas.Bool.{cases_Bool}
use Rattle.std.proofs.Common.{ltb-true, ltb-false, length, ◌≤◌, ◌≡◌, Some, None, slice_get, refl, sym, ap, ◌∙◌, inl, inr, arith, option_map}
use Rattle.std.proofs.Math.Dec.{ltb}
use Rattle.std.proofs.lemmas.Option.{slice_get-get_or}
use Rattle.hv_tree.specs.declared.node.Node.{out-Node, roll-out-Node}
use Rattle.hv_tree.specs.Put.{child_of}
use Rattle.hv_tree.proofs.InsertedAtWay.{put_there}
use Rattle.hv_tree.proofs.Steps.{none-past}
use Rattle.hv_tree.proofs.node.Node.child_mut.Goals as goal

pub returns-in_err-child : goal.returns-in_err-child
returns-in_err-child g c =
    let n = c.args.self.now in
    let past : length (out-Node _ _ n).children.items ≤ c.args.at = elim (cases_Bool (ltb c.args.at (out-Node _ _ n).children.len)) [
      | inl s ↦ absurd (let no = c.in_err-child.ensures.variant.1 (ltb-true c.args.at (out-Node _ _ n).children.len s) in cc)
      | inr s ↦ omega (arith, ltb-false c.args.at (out-Node _ _ n).children.len s, (out-Node _ _ n).children.ok.0)
    ] in
    let none : child_of n c.args.at ≡ None = ap (option_map (λ b. b.value)) (none-past (out-Node _ _ n).children.items c.args.at past) in
    rw c.from_residual.ensures (ap inr (roll-out-Node _ _ n), record { writes_back = tt; value = sym none })

pub returns : goal.returns
returns g c =
    let n = c.args.self.now in
    let b = c.in_ok-child.child.now in
    let at : slice_get (out-Node _ _ n).children.items c.args.at ≡ Some b =
    slice_get-get_or (out-Node _ _ n).children.items c.args.at b (omega (arith, c.in_ok-child.ensures.variant.0 refl, (out-Node _ _ n).children.ok.0)) ∙ ap Some (sym c.in_ok-child.ensures.value) in
    (λ t. inl (c.deref_mut.result.ghost_name, λ w. put_there n c.args.at b w at t), record { writes_back = tt; value = rw at (ap Some c.deref_mut.ensures.value) })
