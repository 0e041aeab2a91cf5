use Rattle.std.proofs.Common.{subst, sym, Option, List, ℕ}
use Rattle.std.specs.Borrow.{Bor}
use Rattle.hv_draw.specs.Drawn.{AreEvents, HasStateFrom}
use Rattle.hv_draw.proofs.Beginning.{of_audit}
use Rattle.hv_draw.proofs.draw.state_text.Goals as goal

pub returns-in-None-clause-drawn : goal.returns-in-None-clause-drawn
returns-in-None-clause-drawn g c = λ done.
    subst (λ (a : Option (Bor (List ℕ))). HasStateFrom c.args.script.now (AreEvents c.args.at a) c.args.only (g.W.Write.contents c.args.out.now) (g.W.Write.contents c.draw_lines.new.out))
    (sym c.in-None.is) (c.draw_lines.ensures.drawn done)

pub returns-in-Some-clause-drawn : goal.returns-in-Some-clause-drawn
returns-in-Some-clause-drawn g c = λ done.
    subst (λ (a : Option (Bor (List ℕ))). HasStateFrom c.args.script.now (AreEvents c.args.at a) c.args.only (g.W.Write.contents c.args.out.now) (g.W.Write.contents c.draw_audit.new.out))
    (sym c.in-Some.is) (of_audit c.args.script.now c.args.at c.in-Some.audit c.args.only _ _ (c.draw_audit.ensures.drawn done))
