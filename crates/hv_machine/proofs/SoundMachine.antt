-- A machine that lasts is sound.
use Rattle.std.proofs.Common.{◌≡◌, ℕ, true, Option, Some, None, is_some, refl, sym, ap, ◌∙◌, lt-ltb, option_map}
use Rattle.std.specs.FinMap.{get}
use Rattle.hv_policy.specs.Flat.{PageRow}
use Rattle.hv_admit.proofs.PageHolders.{held_alone, held_by_owner}
use Rattle.hv_admit.proofs.StateInvariant.{beyond, uses_within}
use Rattle.hv_admit.specs.Tie.{is_held, part_row}
use Rattle.hv_machine.specs.MachineInvariant.{MachineInvariant}
use Rattle.hv_machine.specs.Sound.{IsHeldOnce, IsSound}
use Rattle.hv_machine.specs.State.{State}

module _ (m : State) (l : MachineInvariant m) where
  once : (page : ℕ) (row : Option PageRow) → get l.flat.page page ≡ row → is_some row ≡ true → IsHeldOnce m page
  once page None is there = cc
  once page (Some row) is there = record {
    owner = row.owner;
    pooled = row.pooled;
    held = sym ((l.stands.tied.rows row.owner).page page row.pooled) ∙ ap (is_held row.owner row.pooled) is ∙ held_by_owner row;
    alone = λ id kind h. held_alone row id kind (sym (ap (is_held id kind) is) ∙ (l.stands.tied.rows id).page page kind ∙ h);
  }

  pub sound : IsSound m
  sound = record {
    once = λ page lt. once page (get l.flat.page page) refl (l.lawful.paged page ∙ lt-ltb page m.pages lt);
    others = λ page id kind le. beyond m.rows l.flat l.stands.tied m.pages l.lawful id page kind le;
    within = λ id r is. uses_within m.rows l.flat l.stands.tied m.pages l.lawful id r is;
    masks = λ id parent child above is named there.
        l.lawful.masks id parent (part_row child) (part_row above) ((l.stands.tied.rows id).part ∙ ap (option_map part_row) is) named
        ((l.stands.tied.rows parent).part ∙ ap (option_map part_row) there);
  }
