use Rattle.std.proofs.Common.{Option, subst, sym, ℕ, option_map}
use Rattle.std.specs.Int.{w64, to_le_bytes}
use Rattle.hv_machine.specs.Access.{access_event}
use Rattle.hv_policy.specs.declared.event.Access.TheVariants.{ReadMsr}
use Rattle.hv_looks.specs.Look.{ShowsServed}
use Rattle.hv_looks.proofs.LooksAsAccesses.{msr_served}
use Rattle.hv_looks.proofs.processors.msr.Goals as goal

pub returns-clause-served : goal.returns-clause-served
returns-clause-served g c f flat =
    subst (λ (shown : Option ℕ). ShowsServed {A = g.row.A.Denot} f (access_event c.args.of (ReadMsr c.args.msr)) (option_map (to_le_bytes w64) shown))
    (sym (c.msr_in.ensures f (c.tree_of.ensures.tied f flat))) (msr_served g.row.A.Denot f c.args.of c.args.msr)
