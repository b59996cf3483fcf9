-- A library's division that rounds up gives the rules' quotient rounded up. Assumes nothing.
use Rattle.std.proofs.Common.{◌≡◌, ◌<◌, ◌+◌, ◌/◌, ◌%◌, ℕ, min, sym, arith}
use Rattle.std.proofs.Math.Nat.{div-eq_of_lt-le}
use Rattle.std.proofs.lemmas.Grind.{div_ceil_times}
use Rattle.rules.specs.Count.{ceil_div}

pub ceil_div_is : (a b : ℕ) → 0 < b → a / b + min 1 (a % b) ≡ ceil_div a b
unfolding ceil_div
ceil_div_is a b h =
    let near = div_ceil_times a b h in
    sym (div-eq_of_lt-le b (omega (arith, near)) (omega (arith, near)))
