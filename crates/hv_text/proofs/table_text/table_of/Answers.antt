use Rattle.hv_text.proofs.TableOfState.{table_of}
use Rattle.hv_text.proofs.table_text.table_of.Goals as goal

pub returns-in-Ok-clause-ok : goal.returns-in-Ok-clause-ok
returns-in-Ok-clause-ok g c f flat = rw (← table_of _ _ c.tree-tree.ensures f flat) c.put_rows.ensures.ok

pub returns-in-Ok-clause-cut : goal.returns-in-Ok-clause-cut
returns-in-Ok-clause-cut g c f flat = rw (← table_of _ _ c.tree-tree.ensures f flat) c.put_rows.ensures.cut
