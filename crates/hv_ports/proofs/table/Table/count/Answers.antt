use Rattle.std.proofs.Common.{sym, ◌∙◌}
use Rattle.hv_ports.specs.Blocks.{flat}
use Rattle.hv_ports.proofs.Tables.{count_of}
use Rattle.hv_ports.proofs.table.Table.count.Goals as goal

pub returns : goal.returns
returns g c = rw (← c.self.view_is) (c.self.invariant.counted ∙ sym (count_of (flat c.self.inside.blocks.items) c.self.invariant.rising))
