-- Before the first file the input is as it was left.
use Rattle.std.proofs.Common.{◌≡◌}
use Rattle.cases.proofs.files.answer_files.Given as goal

abbrev pub invariant-loop : goal.invariant-loop
invariant-loop g l = l.counter ≡ 0 → l.input ≡ l.initial.input
