use Rattle.std.proofs.Common.{◌∙◌}
use Rattle.stops.proofs.Passing.{first_is}
use Rattle.stops.proofs.first_stop.Goals as goal

pub returns : goal.returns
returns c = c.stop_from.ensures ∙ first_is c.args.stops.now
