-- A study answers by the paper's list and 11: its number, and what it leaves in the lent bytes. Assumes nothing.
use Prim.Native.Nat.{ℕ}
use mathlib.Core.List.{List, [], ◌∷◌, ◌++◌}
use lib.Dec.{leb}
use lib.ListN.{length}
use borrow.Author.Tests.{leb-true, le-leb}
use Rattle.rules.specs.Calls.{written, lent_after}
use Rattle.rules.specs.Count.{or_zero}
use Rattle.rules.specs.Numbers.{AnswersBy}
use Rattle.rules.specs.Refusal.{rule, refusal, file_rules}
use Rattle.rules.specs.Text.{sheet_text}
use Rattle.rules.proofs.Numbers.{Judges, judges_none, judges_first, judges_file, answers_by}
use Rattle.study_text.specs.Study.{study_refusal, study_checks}

module _ (file : List ℕ) where
  pub judges_study : (bytes : ℕ) → Judges (file_rules file ++ (rule 11 (leb (length (sheet_text file)) bytes) ∷ [])) (study_checks file bytes)
  judges_study bytes = judges_file file (judges_first (leb-true (length (sheet_text file)) bytes, le-leb (length (sheet_text file)) bytes) judges_none)

  pub bytes-number :
      (buffer : List ℕ) →
      AnswersBy (study_checks file (length buffer)) (λ n. buffer) (written buffer 0 (sheet_text file))
      (lent_after (study_refusal file (length buffer)) (sheet_text file) buffer)
  unfolding refusal study_refusal lent_after
  bytes-number buffer =
      answers_by (λ o. lent_after (or_zero o) (sheet_text file) buffer) (judges_study (length buffer))
