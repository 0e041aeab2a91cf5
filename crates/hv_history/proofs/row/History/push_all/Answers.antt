use Rattle.std.proofs.Common.{◌<◌, ◌++◌, drop, length, sym, ap, ◌∙◌, arith}
use Rattle.hv_policy.specs.Parts.{reply_of}
use Rattle.hv_history.proofs.Rows.{bytes-read, differs_at, entry_at, one_over, same_but}
use Rattle.hv_history.specs.History.{entries}
use Rattle.hv_history.specs.Row.{entry_of, head_at}
use Rattle.hv_history.specs.declared.entry.Entry.{Entry}
use Rattle.hv_history.proofs.row.History.push_all.Goals as goal

pub loop-at-preserved : goal.loop-at-preserved
loop-at-preserved g c =
    let l = c.loop-at in
    let h = c.args.other.now in
    let is = l.invariant in
    let row = c.index-row.result.now in
    let pushed = c.push_row.ensures in
    let less : l.at < length (entries h) = let t = c.loop-at-test.true in let n = c.len-at-end.ensures in omega arith in
    let e : Entry g.row.A.Denot = entry_of h.heads.items h.outputs.items row in
    let there = entry_at h.heads.items h.outputs.items h.rows.items l.at row less c.index-row.ensures in
    let alike = differs_at c.args.event.now (entries h) c.args.from l.at e c.requires.alike l.auto.at less there in
    let event = same_but (head_at l.self.heads.items c.place-head.result) (head_at h.heads.items row.head) row.rcx (is.alike ∙ sym alike) in
    let reply = ap (reply_of row.answer) (bytes-read c.deref.result.now h.outputs.items row.output row.output_len c.deref.ensures.value) in
    let more = pushed.row in
    let rows = pushed.row_room in
    let bytes = pushed.bytes in
    let room = pushed.byte_room in
    record {
      so_far =
          one_over (entries h) (entries l.self) (entries c.push_row.new.self) (entries c.args.self.now ++ drop c.args.from (entries h)) l.at e _ _ less there
          pushed.pushed event reply is.so_far;
      there = rw pushed.heads is.there;
      alike = rw pushed.heads is.alike;
      rows = (let was = is.rows in omega arith);
      heads = rw pushed.heads is.heads;
      outputs = (let was = is.outputs in omega arith);
    }
