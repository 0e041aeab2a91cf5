use Rattle.std.proofs.Common.{inl, refl}
use Rattle.std.proofs.KnownBytes.{Keeps-refl}
use Rattle.hv_explain.specs.Part.{TellsPartOf}
use Rattle.hv_trace.proofs.Framing.{framed_none}
use Rattle.hv_trace.proofs.perfetto.perfetto_text.Goals as goal
use Rattle.hv_trace.specs.Perfetto.{charts, closing_text, opening_text}

pub returns-in-Err-clause-failed : goal.returns-in-Err-clause-failed
returns-in-Err-clause-failed g c failed = framed_none opening_text closing_text (TellsPartOf charts c.args.script.now) _ _ (inl refl) (Keeps-refl (g.W.Write.contents c.args.out.now))
