use Rattle.std.proofs.Common.{subst, codes, ◌++◌, ℕ, Option}
use Rattle.std.specs.Io.KnownBytes.{Appends}
use Rattle.hv_trace.proofs.PartsInOrder.{four}
use Rattle.hv_trace.specs.Effect.{gained_text, maybe_text}
use Rattle.hv_trace.proofs.effect.put_gained.Goals as goal

pub returns : goal.returns
unfolding gained_text
returns g c =
    four _ _ _ _ _ _ _ _ _ _ c.in_ok-put_shown.ensures
    (subst (λ (o : Option ℕ). Appends (g.W.Write.contents c.put_shown.new.out) (g.W.Write.contents c.put_maybe.new.out) (codes ",\"waiting\":" ++ maybe_text o)) c.widened.ensures
    c.in_ok-put_maybe.ensures) c.in_ok-put_flag.ensures c.put_raised.ensures
