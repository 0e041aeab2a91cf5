-- Bytes of a block.
use Rattle.std.specs.Prelude.{ℕ, zero, suc, ◌+◌, List, [], ◌∷◌, slice_index}

-- the `count` bytes from place `at`, where each byte past the end is 0
abbrev pub bytes_at : List ℕ → ℕ → ℕ → List ℕ
bytes_at block at zero = []
bytes_at block at (suc count) = slice_index block at ∷ bytes_at block (at + 1) count
