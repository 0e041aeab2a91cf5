use Rattle.std.proofs.Common.{◌≡◌, ℕ, ◌<◌, [], slice_index_or}
use Rattle.hv_shared.specs.Due.{lefts_of}
use Rattle.hv_shared.proofs.held.settlement.are_empty.Given as goal

abbrev pub invariant-loop-rest : goal.invariant-loop-rest
invariant-loop-rest l = (j : ℕ) → j < l.rest-index → slice_index_or (lefts_of l.rests) j [] ≡ []
