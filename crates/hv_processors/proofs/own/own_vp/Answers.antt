use Rattle.std.proofs.Common.{◌≡◌, Some, ap, sym, ◌∙◌, rules}
use mathlib.Core.Logic.{inr}
use Rattle.hv_admit.proofs.UnchangedProcessor.{same_vp}
use Rattle.hv_tree.proofs.Laws.{change-unchanged}
use Rattle.hv_tree.specs.Rows.{change, content}
use Rattle.hv_processors.proofs.own.own_vp.Goals as goal

pub returns-in-Some-unmet_by_mask : goal.returns-in-Some-unmet_by_mask
returns-in-Some-unmet_by_mask g c =
    let there : content c.args.tree.now c.args.by.part ≡ Some c.in-Some.caller.now = search rules in
    let same = same_vp c.in-Some.caller.now c.args.by.vp c.in-Some-vp_mut.vp.now (sym c.in-Some-vp_mut.ensures.value) in (
      ap inr (ap (λ p. change c.args.tree.now c.args.by.part (λ _. p)) same ∙ change-unchanged c.args.tree.now c.args.by.part c.in-Some.caller.now there),
      record {
        writes_back = tt;
        there = tt;
        known = tt;
        met = tt;
        unmet = λ f flat. let asked = c.unmet_by_mask.ensures.unmet f c.args.tree.now c.args.by.part c.in-Some.caller.now there (sym c.mask-mask.ensures) flat in search rules;
      },
    )
