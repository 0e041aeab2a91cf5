-- Bits of a register value.
use Rattle.std.specs.Prelude.{ℕ, ◌/◌, ◌%◌, ◌^◌}

-- the number in `count` bits of `value`, from bit `low` up
abbrev pub bits : ℕ → ℕ → ℕ → ℕ
bits value low count = value / 2 ^ low % 2 ^ count
