-- The backward sweep, point by point. Assumes nothing.
use Prim.Native.Nat.{ℕ, zero, suc, ◌+◌, ◌-◌, ◌≤◌, ◌<◌, min}
use mathlib.Core.Path.{◌≡◌}
use native.Mathlib.Nat.{le_refl}
use native.Mathlib.Omega.{arith}
use Rattle.rules.specs.Run.{backward_before, backward_sweep}

module _ (tops : ℕ → ℕ) (loss n : ℕ) where
  pub backward_last : (i : ℕ) → n ≡ suc i → backward_sweep tops loss n i ≡ tops i
  unfolding backward_sweep backward_before
  backward_last i e = let z : n - suc i ≡ 0 = omega arith in rw z

  pub backward_next : (i j : ℕ) → j ≡ suc i → j < n → backward_sweep tops loss n i ≡ min (tops i) (backward_sweep tops loss n j + loss)
  unfolding backward_sweep backward_before
  backward_next i j e h = let z : n - suc i ≡ suc (n - suc j) = omega arith in rw (z, e)

  before_le : (k i : ℕ) → backward_before tops loss k i ≤ tops i
  unfolding backward_before
  before_le zero i = le_refl _
  before_le (suc k) i = omega arith

  pub backward_le : (i : ℕ) → backward_sweep tops loss n i ≤ tops i
  unfolding backward_sweep
  backward_le i = before_le (n - suc i) i
