use Rattle.hv_embed.proofs.next.next_run.Goals as goal
use Rattle.std.proofs.Common.{true, false}

pub first_run-loose-requires : goal.first_run-loose-requires
first_run-loose-requires c = c.requires false

pub first_run-pooled-requires : goal.first_run-pooled-requires
first_run-pooled-requires c = c.requires true
