-- The bytes of flags that are listed.
use Rattle.std.proofs.Common.{◌≡◌, ℕ, ◌+◌, ◌*◌, Bool, List, map, ap}
use Rattle.std.specs.FinSet.{contains-from_list}
use Rattle.std.specs.List.{list_any, range_with_len}
use Rattle.std.specs.Ordering.{eq_by_cmp}
use Rattle.hv_defs.specs.Flags.{flag_bytes, number_where, pair_cmp}
use Rattle.hv_policy.proofs.Pairs.{pair_cmp_total}
use Rattle.hv_tables.specs.Lines.{flags_line}

-- a flag is set where it is listed
pub shown_flags : (flags : List (ℕ × ℕ)) (sint : ℕ) → flags_line flags sint ≡ map (λ i. number_where (λ j. list_any (eq_by_cmp pair_cmp (sint, i * 8 + j)) flags) 8) (range_with_len 0 256)
unfolding flag_bytes
shown_flags flags sint = ap {A = ℕ × ℕ → Bool} (λ test. map (λ i. number_where (λ j. test (sint, i * 8 + j)) 8) (range_with_len 0 256)) (λ k key. contains-from_list pair_cmp_total flags key k)
