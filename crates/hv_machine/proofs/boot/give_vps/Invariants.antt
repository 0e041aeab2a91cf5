use Rattle.std.proofs.Common.{◌≡◌, ℕ, cond, nat_lt, Some, None}
use Rattle.std.specs.FinMap.{get}
use Rattle.hv_vp.specs.Vp.{new_vp}
use Rattle.hv_machine.proofs.boot.give_vps.Given as goal

abbrev pub invariant-loop-index : goal.invariant-loop-index
invariant-loop-index g l = record {
  vps : (index : ℕ) → get l.root.vps.vps index ≡ cond (nat_lt index l.index) (Some (new_vp index)) None;
  rest : l.root ≡ record l.fn.root { vps = l.root.vps };
}
