use Rattle.std.proofs.lemmas.Bool.{le-leb, lt-leb}
use Rattle.rules.specs.Count.{◌and◌, within}
use Rattle.judging.proofs.numbers.is_within.Goals as goal

pub returns-then-low-x : goal.returns-then-low-x
unfolding within ◌and◌
returns-then-low-x c = rw (le-leb c.args.low c.args.x c.if-low-x.true)

pub returns-else-low-x : goal.returns-else-low-x
unfolding within ◌and◌
returns-else-low-x c = rw (lt-leb c.args.low c.args.x c.if-low-x.false)
