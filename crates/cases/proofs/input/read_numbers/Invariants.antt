use Rattle.cases.proofs.Numbers.{HoldsTaken}
use Rattle.cases.proofs.input.read_numbers.Given as goal

abbrev pub invariant-loop-number : goal.invariant-loop-number
invariant-loop-number g l = HoldsTaken (g.R.Read.remaining l.initial.input) (g.R.Read.remaining l.input) l.numbers l.number-index
