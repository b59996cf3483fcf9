-- `each_clear`: at the loop's test each row before k is clear of the next, as far as that one lies before k too.
use Rattle.std.proofs.Common.{◌≡◌, ◌≤◌, ◌-◌, length, true}
use Rattle.rules.specs.Count.{every}
use Rattle.path_judging.specs.Rows.{as_rows, next_clear}
use Rattle.path_judging.proofs.rows.each_clear.Given as goal

abbrev pub invariant-loop-k : goal.invariant-loop-k
invariant-loop-k l =
    record {
      within : l.k - 1 ≤ length (as_rows l.rows).starts - 1;
      clear : every (l.k - 1) (next_clear l.n (as_rows l.rows)) ≡ true;
    }
