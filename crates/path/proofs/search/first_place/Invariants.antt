-- `first_place`: at the loop's test the first k places have been tried.
use Rattle.rules.specs.Path.{placed_holds}
use Rattle.holds.specs.Values.{as_hold}
use Rattle.path_judging.specs.Rows.{as_rows}
use Rattle.path.proofs.Tried.{Tried}
use Rattle.path.proofs.search.first_place.Given as goal

abbrev pub invariant-loop-k : goal.invariant-loop-k
invariant-loop-k l = Tried (as_hold l.hold) (placed_holds l.hold.blocks (as_rows l.rows)) l.rows.starts.now l.low l.k l.start
