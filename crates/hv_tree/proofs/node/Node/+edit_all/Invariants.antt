use Rattle.std.proofs.Common.{◌≡◌, ◌++◌, take, drop, map}
use Rattle.hv_tree.specs.declared.node.Node.{out-Node}
use Rattle.hv_tree.specs.Lines.{boxed_lines}
use Rattle.hv_tree.specs.Put.{content_of}
use Rattle.hv_tree.specs.Way.{children_of}
use Rattle.hv_tree.proofs.EditedRows.{edited_kids}
use Rattle.hv_tree.proofs.node.Node.+edit_all.Given as goal

abbrev pub invariant-loop-i : goal.invariant-loop-i
invariant-loop-i g l = record {
  unvisited : goal.unvisited-loop-i g l;
  kids : map boxed_lines (children_of l.self) ≡ edited_kids (g.E.Edit.edited l.edit) (take l.i (map boxed_lines (children_of l.initial.self))) ++ drop l.i
      (map boxed_lines (children_of l.initial.self));
  own : (out-Node _ _ l.self).id ≡ (out-Node _ _ l.initial.self).id;
  content : content_of l.self ≡ content_of l.initial.self;
}
