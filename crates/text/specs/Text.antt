-- The sheet program's text in lent bytes.
use Rattle.std.specs.Prelude.{ℕ, ◌+◌, ◌≤◌, Bool, List, [], ◌∷◌, ◌++◌, ◌≡◌, leb, eqb, length}
use Rattle.rules.specs.Calls.{written}
use Rattle.rules.specs.Count.{◌and◌, entry}
use Rattle.rules.specs.Refusal.{rule, refusal}
use Rattle.rules.specs.Text.{header, train_line, joined}

-- the text stands in the buffer from place `at` on, and `past` is the place behind it
pub record Placed (buffer : List ℕ) (at : ℕ) (text : List ℕ) (past : ℕ) (after : List ℕ) : Type 0 where
  pub past_text : past ≡ at + length text
  pub bytes : after ≡ written buffer at text

-- ---- the sheet, from the start, the run and the block of each train

-- the line of train k, counted from 0 here and from 1 in the line
unfoldable pub line_at : List ℕ → List ℕ → List ℕ → ℕ → List ℕ
line_at starts runs blocks k = train_line (k + 1) (entry starts k) (entry runs k) (entry blocks k)

unfoldable pub lines_text : List ℕ → List ℕ → List ℕ → List ℕ
lines_text starts runs blocks = joined (line_at starts runs blocks) (length starts)

-- the header, and a line for each train
unfoldable pub rows_text : List ℕ → List ℕ → List ℕ → List ℕ
rows_text starts runs blocks = header ++ lines_text starts runs blocks

-- a run and a block for each start, and at most 64 of each
pub record EqualCounts (starts runs blocks : ℕ) : Type 0 where
  pub most : starts ≤ 64
  pub runs_each : runs ≡ starts
  pub blocks-each : blocks ≡ starts

-- the same as a test
unfoldable pub equal_counts : ℕ → ℕ → ℕ → Bool
equal_counts starts runs blocks = leb starts 64 and eqb runs starts and eqb blocks starts

-- ---- the number of refusal, by how many bytes are lent, or 0

-- of a text: it does not fit
unfoldable pub room_refusal : List ℕ → ℕ → ℕ
room_refusal text bytes = refusal (rule 11 (leb (length text) bytes) ∷ [])

-- of a sheet: the counts differ or exceed 64, or its text does not fit
unfoldable pub sheet_refusal : List ℕ → List ℕ → List ℕ → ℕ → ℕ
sheet_refusal starts runs blocks bytes =
    refusal
    (rule 11 (equal_counts (length starts) (length runs) (length blocks)) ∷ rule 11 (leb (length (rows_text starts runs blocks)) bytes) ∷ [])
