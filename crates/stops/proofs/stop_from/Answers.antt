use Rattle.std.proofs.Common.{rules}
use Rattle.stops.proofs.Passing.{found}
use Rattle.stops.proofs.stop_from.Goals as goal

pub returns : goal.returns
returns c = found _ _ _ _ (search rules)
