use Rattle.std.proofs.Common.{arith}
use Rattle.cases.proofs.Numbers.{one_more}
use Rattle.cases.proofs.input.read_numbers.Goals as goal

pub loop-number-preserved : goal.loop-number-preserved
loop-number-preserved g c =
    let read = c.in_ok-number.ensures in
    one_more _ _ _ c.loop-number.numbers c.loop-number.number-index _ (omega arith) c.loop-number.invariant read.number read.rest
