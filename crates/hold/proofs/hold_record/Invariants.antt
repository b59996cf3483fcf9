use Rattle.std.proofs.Common.{◌≤◌}
use Rattle.values.specs.Values.{as_line, as_train}
use Rattle.holds.specs.Values.{as_hold}
use Rattle.hold.proofs.Filling.{Holds}
use Rattle.hold.proofs.hold_record.Given as goal

abbrev pub invariant-loop-j : goal.invariant-loop-j
invariant-loop-j l =
    record {
      filled : Holds (as_line l.fn.on.line) (as_train l.fn.on.train) (as_hold l.hold) l.point l.stop l.j;
      few_blocks : l.fn.on.line.block_count ≤ 32;
    }
