use mathlib.Core.Path.{◌≡◌}
use native.Mathlib.Omega.{arith}
use borrow.Author.Rules.{rules}
use lib.ListN.{length}
use Rattle.std.proofs.lemmas.Bool.Decides.{nat_tests}
use Rattle.rules.specs.Count.{◌and◌}
use Rattle.judging.proofs.Rules.{blocks_used}
use Rattle.judging.proofs.line_rules.blocks_kept.Goals as goal

pub returns-then-below_by-2 : goal.returns-then-below_by-2
unfolding ◌and◌
returns-then-below_by-2 c = let l = c.args.line in
    let starts : length l.block_starts ≡ 64 = search rules in
    let ends : length l.block_ends ≡ 64 = search rules in
    rw (blocks_used l (omega arith) (omega arith) (omega arith)) (grind (arith, nat_tests))

pub returns-else-below_by-2 : goal.returns-else-below_by-2
unfolding ◌and◌
returns-else-below_by-2 c = let l = c.args.line in
    let starts : length l.block_starts ≡ 64 = search rules in
    let ends : length l.block_ends ≡ 64 = search rules in
    rw (blocks_used l (omega arith) (omega arith) (omega arith)) (grind (arith, nat_tests))
