use Rattle.std.proofs.Common.{◌≡◌, ◌∙◌, List, [], arith, ap, refl}
use Rattle.hv_ports.specs.Blocks.{Block, flat}
use Rattle.hv_ports.specs.Table.{cleared}
use Rattle.hv_ports.proofs.Tables.{cleared_full, cleared_seen}
use Rattle.hv_ports.proofs.table.Table.clear.Goals as goal
use Rattle.hv_ports.proofs.table.Table.clear.Goals.{then-self+in-Some-1, then-self+in-None-1, else-self}

pub returns : goal.returns
returns g c =
    let slots = flat c.self.inside.blocks.items in
    let empty : flat c.clear.new.self.items ≡ [] = ap (λ (l : List (Block g.row.R.Denot g.row.A.Denot)). flat l) c.clear.ensures.items in
    elim c.if-self.branch [
      | then-self+in-Some-1 w ↦
          cleared_full slots (flat c.clear.new.self.items) c.self.inside.spare c.if-self.self-inside.spare empty (omega (arith, c.self.invariant.counted, w.if-self.true))
          (rw w.self-inside-is refl) ∙ ap cleared c.self.view_is
      | then-self+in-None-1 w ↦
          cleared_full slots (flat c.clear.new.self.items) c.self.inside.spare c.if-self.self-inside.spare empty (omega (arith, c.self.invariant.counted, w.if-self.true))
          (rw w.self-inside-is refl) ∙ ap cleared c.self.view_is
      | else-self w ↦
          cleared_seen slots (flat c.clear.new.self.items) c.self.inside.spare c.if-self.self-inside.spare empty (omega (arith, c.self.invariant.counted, c.self.invariant.few, w.if-self.false))
          (rw w.self-inside-is refl) ∙ ap cleared c.self.view_is
    ]
