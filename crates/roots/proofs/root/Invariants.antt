use Rattle.roots.proofs.Digits.{Within}
use Rattle.roots.proofs.root.Given as goal

abbrev pub invariant-loop-bit : goal.invariant-loop-bit
invariant-loop-bit l = Within l.initial.left l.bit l.r l.left

abbrev pub decreases-loop-bit : goal.decreases-loop-bit
decreases-loop-bit l = l.bit
