use Rattle.rules.proofs.Loops.{greatest-none, greatest_more}
use Rattle.forward.proofs.bands.Bands.greatest_part.Goals as goal

pub loop-k-init : goal.loop-k-init
loop-k-init c = greatest-none _

pub loop-k-preserved : goal.loop-k-preserved
loop-k-preserved c = greatest_more _ _ c.loop-k.invariant c.at_most-part.ensures c.max.ensures
