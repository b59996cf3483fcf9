use Rattle.std.proofs.Common.{◌-◌, ◌+◌, ◌*◌, arith}
use Rattle.chains.proofs.Rounding.{ceil_div_is}
use Rattle.caps.proofs.places.head_for.Goals as goal

pub returns : goal.returns
returns c = omega (arith, ceil_div_is (50 * (c.args.place + c.args.length + 2) - c.args.from) 49 (omega arith))
