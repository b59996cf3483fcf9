use mathlib.Core.Path.{◌≡◌}
use native.Mathlib.Omega.{arith}
use borrow.Author.Rules.{rules}
use lib.ListN.{length}
use Rattle.std.proofs.lemmas.Bool.Decides.{nat_tests}
use Rattle.rules.specs.Count.{◌and◌}
use Rattle.judging.proofs.Rules.{limit_points_used}
use Rattle.judging.proofs.line_rules.limit_points_kept.Goals as goal

pub returns-then-rises_by : goal.returns-then-rises_by
unfolding ◌and◌
returns-then-rises_by c = let l = c.args.line in
    let places : length l.limit_points ≡ 64 = search rules in
    rw (limit_points_used l (omega arith)) (grind (arith, nat_tests))

pub returns-else-rises_by : goal.returns-else-rises_by
unfolding ◌and◌
returns-else-rises_by c = let l = c.args.line in
    let places : length l.limit_points ≡ 64 = search rules in
    rw (limit_points_used l (omega arith)) (grind (arith, nat_tests))
