-- `release`: the blocks before this one have their new free times.
use Rattle.std.proofs.Common.{◌≡◌, ℕ, ◌+◌, ◌<◌}
use Rattle.rules.specs.Count.{entry}
use Rattle.sheet.proofs.after.release.Given as goal

abbrev pub invariant-loop-b : goal.invariant-loop-b
invariant-loop-b l = (k : ℕ) → k < l.b → entry l.free k ≡ l.start + entry l.ends k
