-- The text of a whole file's sheet. Document 01 has no such call: its number and its text are the paper's, and 11 is said of the lent bytes.
use Rattle.std.specs.Prelude.{ℕ, ◌≤◌, List, [], ◌∷◌, ◌++◌, leb, length}
use Rattle.rules.specs.Numbers.{Check, check, file_checks}
use Rattle.rules.specs.Refusal.{rule, refusal, file_rules}
use Rattle.rules.specs.Text.{sheet_text}

-- the rules of the file, then 11: the lent bytes have room for the sheet's text
unfoldable pub study_refusal : List ℕ → ℕ → ℕ
study_refusal file bytes = refusal (file_rules file ++ (rule 11 (leb (length (sheet_text file)) bytes) ∷ []))

-- the same in the paper's words
abbrev pub study_checks : List ℕ → ℕ → List Check
study_checks file bytes = file_checks file ++ (check 11 (length (sheet_text file) ≤ bytes) ∷ [])
