use Rattle.std.proofs.Common.{◌-◌, arith}
use Rattle.chains.proofs.Rounding.{ceil_div_is}
use Rattle.caps.proofs.places.rear_at.Goals as goal

pub returns : goal.returns
returns c = omega (arith, ceil_div_is (c.args.x - c.args.from) 50 (omega arith))
