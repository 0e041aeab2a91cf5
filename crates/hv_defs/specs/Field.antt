-- Numbers in a block of bytes.
use Rattle.std.specs.Prelude.{ℕ, zero, suc, ◌+◌, ◌*◌, List, slice_index}

-- the little-endian number of the `size` bytes from place `at`, where each byte past the end is 0
abbrev pub field : List ℕ → ℕ → ℕ → ℕ
field bytes at zero = 0
field bytes at (suc size) = slice_index bytes at + 256 * field bytes (at + 1) size
