use Rattle.rules.specs.Count.{ceil_div}
use Rattle.run.proofs.times.cell_time.Goals as goal

pub returns : goal.returns
unfolding ceil_div
returns c = rw (c.from-sum.ensures, c.from.ensures)
