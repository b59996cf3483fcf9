-- Before the first file the input is as it was left, and behind it the first number was not 0.
use Rattle.std.proofs.Common.{◌≡◌, ◌≢◌, ◌≤◌, ◌⊎◌, IfSome, length}
use Rattle.cases.specs.Input.{number_of}
use Rattle.cases.proofs.files.answer_questions.Given as goal

abbrev pub invariant-loop : goal.invariant-loop
invariant-loop g l = ((l.counter ≡ 0) × (l.input ≡ l.initial.input))
    ⊎ IfSome (g.R.Read.remaining l.initial.input) (λ xs. 8 ≤ length xs → number_of xs ≢ 0)
