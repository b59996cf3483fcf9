-- `longest_wait`: at the loop's test it is the greatest wait of the blocks so far.
use Rattle.std.proofs.Common.{◌≡◌, ◌-◌, length}
use Rattle.rules.specs.Count.{entry, greatest_below}
use Rattle.waits.proofs.wait.longest_wait.Given as goal

abbrev pub invariant-loop-free_time : goal.invariant-loop-free_time
invariant-loop-free_time l = l.longest ≡ greatest_below (length l.yielded) (λ b. entry l.free b - entry l.begins b)
