-- The lines of the partitions so far went out, and their pages were counted.
use Rattle.std.proofs.Common.{◌+◌, ◌*◌, ◌^◌, ◌≤◌, drop, map}
use Rattle.std.specs.FinMap.{entries}
use Rattle.hv_text.specs.Fault.{HasSent}
use Rattle.hv_text.specs.Rows.{pages_in, row_line, rows_text}
use Rattle.hv_text.specs.Table.{text_of}
use Rattle.hv_text.specs.declared.text.TheConstants.{LINE}
use Rattle.hv_text.proofs.table_text.put_rows.Given as goal

abbrev pub invariant-loop-id : goal.invariant-loop-id
invariant-loop-id g l =
    let rest = drop l.id-index (entries l.tree) in
    record {
      sent : HasSent (g.W.Write.contents l.initial.out) (g.W.Write.contents l.out) (rows_text l.tree) (text_of (map (row_line l.tree) rest) (l.pages + pages_in rest)) l.written;
      few : l.written ≤ LINE * l.id-index;
      most : l.pages ≤ 2 ^ 65 * l.id-index;
    }
