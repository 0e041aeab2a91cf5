use Rattle.std.proofs.Common.{◌≡◌, ◌==◌, false, is_some, ap, ◌∙◌, ne_eqb}
use Rattle.hv_tree.specs.Index.{parents}
use Rattle.hv_tree.specs.Lines.{lines}
use Rattle.hv_tree.specs.Nest.{top}
use Rattle.hv_tree.proofs.Levels.{top-lines}
use Rattle.hv_tree.proofs.NestedRows.{nest}
use Rattle.hv_tree.proofs.IndexedParents.{has-indexed}
use Rattle.hv_tree.proofs.look_up.is_there.Goals as goal

pub returns-else-id-root : goal.returns-else-id-root
returns-else-id-root g c =
    let b = c.args.root.now in
    let off : (c.args.id == top (lines b)) ≡ false = ne_eqb c.args.id (top (lines b)) (λ e. c.if-id-root.false (e ∙ top-lines b)) in
    c.is_some.ensures ∙ ap is_some c.parent_in.ensures ∙ (rw off at (has-indexed c.args.id (lines b) (parents c.args.index.now) (nest b) c.requires.indexed))
