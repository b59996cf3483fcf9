use mathlib.Core.Path.{◌≡◌}
use native.Mathlib.Omega.{arith}
use borrow.Author.Rules.{rules}
use lib.ListN.{length}
use Rattle.rules.specs.Count.{◌and◌}
use Rattle.judging.proofs.Rules.{stops_used}
use Rattle.judging.proofs.train_rules.stops_kept.Goals as goal

pub returns-then-all_within : goal.returns-then-all_within
unfolding ◌and◌
returns-then-all_within c = let t = c.args.train in
    let stops : length t.stops ≡ 64 = search rules in
    let dwells : length t.dwells ≡ 64 = search rules in
    rw (stops_used t c.args.line (omega arith) (omega arith)) (grind arith)

pub returns-else-all_within : goal.returns-else-all_within
unfolding ◌and◌
returns-else-all_within c = let t = c.args.train in
    let stops : length t.stops ≡ 64 = search rules in
    let dwells : length t.dwells ≡ 64 = search rules in
    rw (stops_used t c.args.line (omega arith) (omega arith)) (grind arith)
