use Rattle.std.proofs.Common.{List, Option, subst, sym, ℕ}
use Rattle.hv_machine.specs.Access.{access_event}
use Rattle.hv_policy.specs.declared.event.Access.TheVariants.{ReadFlags}
use Rattle.hv_looks.specs.Look.{ShowsServed}
use Rattle.hv_looks.proofs.LooksAsAccesses.{flags_served}
use Rattle.hv_looks.proofs.processors.flags.Goals as goal

pub returns-clause-served : goal.returns-clause-served
returns-clause-served g c f flat =
    subst (λ (shown : Option (List ℕ)). ShowsServed {A = g.row.A.Denot} f (access_event c.args.of (ReadFlags c.args.sint)) shown)
    (sym (c.flags_in.ensures f (c.tree_of.ensures.tied f flat))) (flags_served g.row.A.Denot f c.args.of c.args.sint)
