use Prim.Native.Nat.{ℕ, ◌≤◌, ◌<◌}
use Rattle.rules.specs.Count.{entry}
use Rattle.caps.proofs.places.Places.passed.Given as goal

abbrev pub invariant-loop-i : goal.invariant-loop-i
invariant-loop-i l = (j : ℕ) → l.k ≤ j → j < l.i → entry l.places j ≤ l.reach
