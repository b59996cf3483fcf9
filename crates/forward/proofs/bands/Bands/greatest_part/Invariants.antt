use Prim.Native.Nat.{◌+◌, min}
use mathlib.Core.Path.{◌≡◌}
use Rattle.rules.specs.Count.{entry, greatest_below}
use Rattle.forward.proofs.bands.Bands.greatest_part.Given as goal

abbrev pub invariant-loop-k : goal.invariant-loop-k
invariant-loop-k l = l.best.0 ≡ greatest_below l.k (λ k. min (l.w.0 + entry l.self.gains k) (entry l.self.squares k))
