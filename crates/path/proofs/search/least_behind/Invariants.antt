-- `least_behind`: at the loop's test the start is the least behind the train ahead in the blocks so far.
use Rattle.std.proofs.Common.{length}
use Rattle.path.specs.Values.{LeastBehind}
use Rattle.path.proofs.search.least_behind.Given as goal

abbrev pub invariant-loop-end : goal.invariant-loop-end
invariant-loop-end l = LeastBehind (length l.yielded) l.low l.ahead l.ends l.begins l.start
