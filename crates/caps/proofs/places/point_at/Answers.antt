use Rattle.std.proofs.Common.{arith}
use Rattle.rules.specs.Count.{ceil_div}
use Rattle.chains.proofs.Rounding.{ceil_div_is}
use native.Mathlib.Nat.{div-zero}
use Rattle.caps.proofs.places.point_at.Goals as goal

pub returns-then-step-eq0 : goal.returns-then-step-eq0
unfolding ceil_div
returns-then-step-eq0 c = rw (c.if-step-eq0.true, div-zero)

pub returns : goal.returns
returns c = rw (c.div_ceil.ensures, c.from.ensures) (ceil_div_is c.args.place c.args.step (omega arith))
