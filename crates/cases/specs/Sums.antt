-- One number for many, which tells their order too.
use Rattle.std.specs.Prelude.{ℕ, ◌+◌, ◌%◌, ◌^◌}
use Rattle.std.specs.Int.{w64, rotate_left}

-- the sum so far turned left by 7 bits, and the next number added, in 64 bits
abbrev pub taken_in : ℕ → ℕ → ℕ
taken_in sum n = (rotate_left w64 sum 7 + n) % 2 ^ 64
