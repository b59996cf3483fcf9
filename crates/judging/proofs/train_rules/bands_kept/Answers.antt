use mathlib.Core.Path.{◌≡◌}
use native.Mathlib.Omega.{arith}
use borrow.Author.Rules.{rules}
use lib.ListN.{length}
use Rattle.rules.specs.Count.{◌and◌}
use Rattle.judging.proofs.Rules.{bands_used}
use Rattle.judging.proofs.train_rules.bands_kept.Goals as goal

pub returns-then-all_within : goal.returns-then-all_within
unfolding ◌and◌
returns-then-all_within c = let t = c.args.train in
    let tops : length t.tops ≡ 64 = search rules in
    let rates : length t.rates ≡ 64 = search rules in
    rw (bands_used t (omega arith) (omega arith)) (grind arith)

pub returns-else-all_within : goal.returns-else-all_within
unfolding ◌and◌
returns-else-all_within c = let t = c.args.train in
    let tops : length t.tops ≡ 64 = search rules in
    let rates : length t.rates ≡ 64 = search rules in
    rw (bands_used t (omega arith) (omega arith)) (grind arith)
