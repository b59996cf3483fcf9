use native.Mathlib.Omega.{arith}
use Rattle.rules.specs.Run.{squared}
use Rattle.rules.proofs.Step.{squared-most}
use borrow.Author.Rules.{rules}
use Rattle.forward.proofs.numbers.squared_of.Goals as goal

pub overflow_mul-result : goal.overflow_mul-result
unfolding squared
overflow_mul-result c = omega (arith, squared-most c.requires)

pub returns : goal.returns
unfolding squared
returns c = search rules
