use Prim.Native.Nat.{◌+◌, ◌*◌}
use Rattle.rules.specs.Count.{entry}
use Rattle.rules.proofs.Fill.{Filled}
use Rattle.caps.proofs.places.places_of.Given as goal

abbrev pub invariant-loop-k : goal.invariant-loop-k
invariant-loop-k l = Filled (λ i. entry l.points i * l.step + entry l.metres i) 0 l.k l.initial.at l.at
