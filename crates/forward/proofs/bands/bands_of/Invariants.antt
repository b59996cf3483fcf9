use Prim.Native.Nat.{◌≤◌}
use Rattle.rules.specs.Count.{entry}
use Rattle.rules.specs.Run.{squared, change}
use Rattle.rules.proofs.Fill.{Filled}
use Rattle.forward.proofs.bands.bands_of.Given as goal

abbrev pub invariant-loop-k : goal.invariant-loop-k
invariant-loop-k l =
    (l.count ≤ 8) × Filled (λ j. change (entry l.on.train.rates j) l.on.line.step) 0 l.k l.initial.gains l.gains ×
    Filled (λ j. squared (entry l.on.train.tops j)) 0 l.k l.initial.squares l.squares
