use Rattle.rules.specs.Run.{change}
use Rattle.values.proofs.motion.change_over.Goals as goal

pub returns : goal.returns
unfolding change
returns c = rw (c.from-2.ensures, c.from.ensures)
