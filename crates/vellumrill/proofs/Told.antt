-- The answers by number are those of the calls, and are given by the paper's lists. Assumes nothing.
use Prim.Native.Nat.{ℕ}
use mathlib.Core.Bool.{cond}
use mathlib.Core.List.{List}
use mathlib.Core.Path.{◌≡◌}
use lib.Dec.{eqb}
use lib.ListN.{length}
use borrow.Author.Tests.{ne_eqb}
use Rattle.std.specs.Prelude.{Result, Ok, Err, IfOk}
use Rattle.refusals.specs.declared.Refusal.{Refusal}
use Rattle.refusals.specs.Number.{number, refused_by}
use Rattle.refusals.proofs.Passing.{numbered}
use Rattle.rules.specs.Calls.{file_refusal}
use Rattle.rules.specs.Count.{or_zero}
use Rattle.rules.specs.Diagram.{diagram_bytes, diagram_checks, diagram_refusal}
use Rattle.rules.specs.File.{point_count, step_length, block_count, train_count}
use Rattle.rules.specs.Line.{line_of, train_of}
use Rattle.rules.specs.Numbers.{AnswersBy, file_checks}
use Rattle.rules.specs.Refusal.{refusal, file_rules}
use Rattle.rules.specs.Text.{sheet_text}
use Rattle.rules.proofs.Diagram.{judges_diagram}
use Rattle.rules.proofs.Numbers.{Judges, judges_none, judges_file, answers_by}
use Rattle.reading.specs.declared.decode.DecodedFile.{DecodedFile}
use Rattle.reading.specs.Decoded.{decoded_file}
use Rattle.study.specs.Rows.{rows_refusal, rows_checks}
use Rattle.study.proofs.Numbers.{judges_rows}
use Rattle.study_text.specs.Study.{study_refusal, study_checks}
use Rattle.study_text.proofs.Numbers.{judges_study}
use Rattle.vellumrill.specs.Answers.{file_sizes, sizes_told, rows_answer, rows_told, write_answer, write_told}
use Rattle.vellumrill.specs.declared.answers.Sizes.{Sizes}

-- ---- what a call's result is told as

pub sizes_are : (file : List ℕ) (r : Result DecodedFile Refusal) → refused_by r ≡ file_refusal file → IfOk r (λ d. d ≡ decoded_file file) → sizes_told r ≡ file_sizes file
unfolding file_sizes
sizes_are file (Ok d) e h = rw (← e, h)
sizes_are file (Err r) e h = rw (← e, ne_eqb (number r) 0 (numbered r))

pub rows_are : (n trains : ℕ) (r : Result ℕ Refusal) → refused_by r ≡ n → IfOk r (λ t. t ≡ trains) → rows_told r ≡ rows_answer n trains
unfolding rows_answer
rows_are n trains (Ok t) e h = rw (← e, h)
rows_are n trains (Err r) e h = rw (← e, ne_eqb (number r) 0 (numbered r))

pub write_is : (n : ℕ) (text : List ℕ) (r : Result ℕ Refusal) → refused_by r ≡ n → IfOk r (λ bytes. bytes ≡ length text) → write_told r ≡ write_answer n text
unfolding write_answer
write_is n text (Ok bytes) e h = rw (← e, h)
write_is n text (Err r) e h = rw (← e, ne_eqb (number r) 0 (numbered r))

-- ---- the answers by the paper's lists

module _ (file : List ℕ) where
  judges : Judges (file_rules file) (file_checks file)
  judges = judges_file file judges_none

  pub sizes_number :
      AnswersBy (file_checks file) (λ n. record { number = n; points = 0; step = 0; blocks = 0; trains = 0 })
      (record { number = 0; points = point_count file; step = step_length file; blocks = block_count file; trains = train_count file }) (file_sizes file)
  unfolding refusal file_refusal file_sizes
  sizes_number =
      answers_by
      (λ o. cond {A = Sizes} (eqb (or_zero o) 0)
      (record { number = 0; points = point_count file; step = step_length file; blocks = block_count file; trains = train_count file })
      (record { number = or_zero o; points = 0; step = 0; blocks = 0; trains = 0 })) judges

  pub rows_number :
      (starts runs blocks : ℕ) →
      AnswersBy (rows_checks file starts runs blocks) (λ n. record { number = n; trains = 0 }) (record { number = 0; trains = train_count file })
      (rows_answer (rows_refusal file starts runs blocks) (train_count file))
  unfolding refusal rows_refusal rows_answer
  rows_number starts runs blocks = answers_by (λ o. rows_answer (or_zero o) (train_count file)) (judges_rows file starts runs blocks)

  pub study_number :
      (bytes : ℕ) →
      AnswersBy (study_checks file bytes) (λ n. record { number = n; bytes = 0 }) (record { number = 0; bytes = length (sheet_text file) })
      (write_answer (study_refusal file bytes) (sheet_text file))
  unfolding refusal study_refusal write_answer
  study_number bytes = answers_by (λ o. write_answer (or_zero o) (sheet_text file)) (judges_study file bytes)

  module _ (k : ℕ) where
    abbrev figures : List ℕ
    figures = diagram_bytes (line_of file) (train_of file k)

    pub diagram_told :
        (bytes : ℕ) →
        AnswersBy (diagram_checks file k bytes) (λ n. record { number = n; bytes = 0 }) (record { number = 0; bytes = length figures })
        (write_answer (diagram_refusal file k bytes) figures)
    unfolding refusal diagram_refusal write_answer
    diagram_told bytes = answers_by (λ o. write_answer (or_zero o) figures) (judges_diagram file k bytes)
