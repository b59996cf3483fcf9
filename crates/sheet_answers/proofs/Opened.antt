-- The opening call on a lent sheet. Assumes nothing.
use Prim.Native.Nat.{ℕ}
use Rattle.rules.specs.Numbers.{AnswersBy, opening_checks}
use Rattle.rules.specs.Sheet.{Sheet, fresh}
use Rattle.rules.proofs.Numbers.{opening_number}
use Rattle.sheet_answers.specs.Answers.{opened_into}

-- a refusal leaves the sheet as it came, an acceptance a fresh one
pub sheet-number : (n : ℕ) (before : Sheet) → AnswersBy (opening_checks n) (λ m. before) (fresh n) (opened_into n before)
unfolding opened_into
sheet-number n before = (λ broken. rw ((opening_number n).0 broken), λ kept. rw ((opening_number n).1 kept))
