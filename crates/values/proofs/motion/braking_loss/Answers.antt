use Rattle.rules.specs.Run.{braking_loss}
use Rattle.values.proofs.motion.braking_loss.Goals as goal

pub returns : goal.returns
unfolding braking_loss
returns c = rw (c.change_over.ensures, c.practice_rate.ensures)
