-- `count_kept`.
use Rattle.std.proofs.lemmas.Bool.{le-leb, lt-leb}
use Rattle.rules.specs.Count.{◌and◌, within}
use Rattle.sheet_judging.proofs.count_kept.Goals as goal

pub returns-then-blocks-ge1 : goal.returns-then-blocks-ge1
unfolding within ◌and◌
returns-then-blocks-ge1 c = rw (le-leb 1 c.args.blocks c.if-blocks-ge1.true)

pub returns-else-blocks-ge1 : goal.returns-else-blocks-ge1
unfolding within ◌and◌
returns-else-blocks-ge1 c = rw (lt-leb 1 c.args.blocks c.if-blocks-ge1.false)
