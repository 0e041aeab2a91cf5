-- The notes so far went out.
use Rattle.std.proofs.Common.{take}
use Rattle.std.specs.Io.KnownBytes.{Appends}
use Rattle.hv_trace.specs.Perfetto.{notes_text}
use Rattle.hv_trace.proofs.perfetto.note.put_notes.Given as goal

abbrev pub invariant-loop-at : goal.invariant-loop-at
invariant-loop-at g l = Appends (g.W.Write.contents l.initial.out) (g.W.Write.contents l.out) (notes_text (take l.at l.notes))
