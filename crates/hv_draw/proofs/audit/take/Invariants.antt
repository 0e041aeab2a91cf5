-- The configuration and the limit are as before.
use Rattle.std.proofs.Common.{◌≡◌}
use Rattle.hv_draw.proofs.audit.take.Given as goal

abbrev pub invariant-loop-event : goal.invariant-loop-event
invariant-loop-event l = record {
  config : l.kept.config ≡ l.initial.kept.config;
  limit : l.kept.limit ≡ l.initial.kept.limit;
}
