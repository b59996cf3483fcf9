-- `write_field` meets its contract: the digits before the last one, the last one and the mark. Assumes nothing.
use native.Mathlib.Omega.{arith}
use lib.ListN.{length-set}
use Rattle.text.proofs.Placed.{field_some, short_placed, long_placed}
use Rattle.text.proofs.pieces.+write_field.Goals as goal

pub bounds-buf-at-then-n-lt10 : goal.bounds-buf-at-then-n-lt10
bounds-buf-at-then-n-lt10 t c = simp length-set (omega (arith, field_some c.args.n c.args.mark))

pub returns-then-n-lt10 : goal.returns-then-n-lt10
returns-then-n-lt10 t c = short_placed c.args.n c.args.mark (omega arith) (omega arith)

pub returns : goal.returns
returns t c = long_placed c.args.n c.args.mark (omega arith) (omega arith) (omega arith) c.write_field-next.ensures
