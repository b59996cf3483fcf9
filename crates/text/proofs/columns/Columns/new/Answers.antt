use Rattle.std.proofs.Common.{arith}
use Rattle.std.proofs.lemmas.Bool.Decides.{nat_tests}
use Rattle.rules.specs.Count.{◌and◌}
use Rattle.text.specs.Text.{equal_counts}
use Rattle.text.proofs.columns.Columns.new.Goals as goal

pub returns-then-blocks-starts-clause-counted : goal.returns-then-blocks-starts-clause-counted
unfolding equal_counts ◌and◌
returns-then-blocks-starts-clause-counted c = grind (arith, nat_tests)

pub returns-else-starts-le-MOST_TRAINS-clause-counted : goal.returns-else-starts-le-MOST_TRAINS-clause-counted
unfolding equal_counts ◌and◌
returns-else-starts-le-MOST_TRAINS-clause-counted c = grind (arith, nat_tests)
