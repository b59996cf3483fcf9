use Rattle.std.proofs.Common.{arith, rules}
use lib.Count.{leading_le}
use Rattle.roots.proofs.Digits.{within_first, within_taken, within-left, within-last, bit_fits, trial_fits}
use Rattle.roots.proofs.root.Goals as goal
use Rattle.roots.proofs.root.Goals.{then-trial-left, else-trial-left}

pub overflow_sub-digits : goal.overflow_sub-digits
overflow_sub-digits c = omega (arith, leading_le 32 c.args.w.0)

pub overflow_cast-bit-2 : goal.overflow_cast-bit-2
overflow_cast-bit-2 c = omega (arith, bit_fits (within_first c.args.w.0 (search rules)))

pub loop-bit-init : goal.loop-bit-init
loop-bit-init c = within_first c.args.w.0 (search rules)

pub overflow_add-trial : goal.overflow_add-trial
overflow_add-trial c = omega (arith, trial_fits c.loop-bit.invariant (search rules))

pub loop-bit-preserved : goal.loop-bit-preserved
loop-bit-preserved c =
    let i = c.loop-bit.invariant in
    elim c.if-trial-left.branch [
      | then-trial-left w ↦ rw (w.r-is, w.left-is) (within_taken i (omega arith) w.if-trial-left.true)
      | else-trial-left w ↦ rw (w.r-is, w.left-is) (within-left i (omega arith) w.if-trial-left.false)
    ]

pub returns : goal.returns
returns c = within-last c.loop-bit.invariant (omega arith)
