use Rattle.std.proofs.Common.{List, Option, subst, sym, ℕ}
use Rattle.hv_machine.specs.Access.{access_event}
use Rattle.hv_policy.specs.declared.event.Access.TheVariants.{ReadSlot}
use Rattle.hv_looks.specs.Look.{ShowsServed}
use Rattle.hv_looks.proofs.LooksAsAccesses.{slot_served}
use Rattle.hv_looks.proofs.processors.slot.Goals as goal

pub returns-clause-served : goal.returns-clause-served
returns-clause-served g c f flat =
    subst (λ (shown : Option (List ℕ)). ShowsServed {A = g.row.A.Denot} f (access_event c.args.of (ReadSlot c.args.sint)) shown)
    (sym (c.slot_in.ensures f (c.tree_of.ensures.tied f flat))) (slot_served g.row.A.Denot f c.args.of c.args.sint)
