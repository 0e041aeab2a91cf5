use Rattle.std.proofs.Common.{◌<◌, List, length, sym, subst, take, arith}
use Rattle.std.specs.Io.KnownBytes.{Appends}
use Rattle.std.proofs.KnownBytes.{Appends-trans}
use Rattle.hv_trace.specs.Perfetto.{notes_text}
use Rattle.hv_trace.specs.declared.perfetto.note.Note.{Note}
use Rattle.hv_trace.proofs.Notes.{one_note_more}
use Rattle.hv_trace.proofs.perfetto.note.put_notes.Goals as goal

pub loop-at-preserved : goal.loop-at-preserved
loop-at-preserved g c =
    let at = c.loop-at.at in
    let notes : List Note = c.args.notes.now in
    let within : at < length notes = omega (arith, c.loop-at-test.true) in
    let first = g.W.Write.contents c.args.out.now in
    let second = g.W.Write.contents c.loop-at.out in
    let third = g.W.Write.contents c.put_note.new.out in
    subst (Appends first third) (sym (one_note_more notes at _ within))
    (Appends-trans first second third (notes_text (take at notes)) _ c.loop-at.invariant c.in_ok-put_note.ensures)
