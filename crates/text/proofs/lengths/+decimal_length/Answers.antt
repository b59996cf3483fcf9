-- `decimal_length` meets its contract: one digit more than a tenth of the number has. Assumes nothing.
use mathlib.Core.Path.{sym, ap}
use native.Mathlib.Omega.{arith}
use lib.ListN.{length}
use Rattle.rules.proofs.Decimal.{decimal_one}
use Rattle.rules.proofs.Lengths.{decimal_longer, decimal-most}
use Rattle.text.proofs.lengths.+decimal_length.Goals as goal

pub returns-then-n-lt10 : goal.returns-then-n-lt10
returns-then-n-lt10 t c = (sym (ap length (decimal_one c.args.n (omega arith))), omega arith)

pub returns-else-n-lt10 : goal.returns-else-n-lt10
returns-else-n-lt10 t c =
    let n = c.args.n in
    omega (arith, decimal_longer n (omega arith), decimal-most 19 n (omega arith))
