-- The columns of a file's sheet. Document 01 has no such call: its figures and numbers are the paper's, and 11 is said of the lent slices.
use Rattle.std.specs.Prelude.{ℕ, ◌-◌, ◌≤◌, ◌<◌, List, [], ◌∷◌, ◌++◌, ◌≡◌, leb, length, get_or}
use Rattle.std.proofs.Math.Option.{none}
use Rattle.rules.specs.Count.{◌and◌, entry, row}
use Rattle.rules.specs.File.{train_count, band_count, stop_count}
use Rattle.rules.specs.Line.{Line, Train, line_of}
use Rattle.rules.specs.Time.{run_times}
use Rattle.rules.specs.Hold.{Hold}
use Rattle.rules.specs.Refusal.{rule, refusal, file_rules}
use Rattle.rules.specs.Calls.{Answer, refused}
use Rattle.rules.specs.Numbers.{Check, check, file_checks}
use Rattle.rules.specs.Demand.{refusal_of, WithoutOverlap, NoneEarlier}
use Rattle.rules.specs.Text.{start_of, block_of, holds_from, file_answers, running_time}

-- the record that the bytes begin with has no more bands and stops than an array has places
pub record Decodes (bytes : List ℕ) : Type 0 where
  pub bands : band_count bytes 0 ≤ 64
  pub stops : stop_count bytes 0 ≤ 64

-- the arrival of a train at the last point
abbrev pub last_arrival : Line → Train → ℕ
last_arrival l t = entry (run_times l t) (l.points - 1)

-- ---- the columns

-- the answer to train k, its start and its block
abbrev pub answer_to : List ℕ → ℕ → Answer
answer_to file k = get_or (file_answers file) k (refused 0)

abbrev pub start_at : List ℕ → ℕ → ℕ
start_at file k = start_of (answer_to file k)

abbrev pub block_at : List ℕ → ℕ → ℕ
block_at file k = block_of (answer_to file k)

-- of each train in the file's order
abbrev pub starts_of : List ℕ → List ℕ
starts_of file = row (start_at file) (train_count file)

abbrev pub runs_of : List ℕ → List ℕ
runs_of file = row (running_time file) (train_count file)

abbrev pub blocks_of : List ℕ → List ℕ
blocks_of file = row (block_at file) (train_count file)

-- ---- the call

-- the rules of the file, then 11: each lent slice, of which these are the lengths, has a place for every train
unfoldable pub rows_refusal : List ℕ → ℕ → ℕ → ℕ → ℕ
rows_refusal file starts runs blocks =
    refusal (file_rules file ++ (rule 11 (leb (train_count file) starts and leb (train_count file) runs and leb (train_count file) blocks) ∷ []))

-- the same in the paper's words
abbrev pub rows_checks : List ℕ → ℕ → ℕ → ℕ → List Check
rows_checks file starts runs blocks =
    file_checks file ++ (check 11 ((train_count file ≤ starts) × (train_count file ≤ runs) × (train_count file ≤ blocks)) ∷ [])

-- ---- what the starts of an accepted file are

abbrev pub holds_of : List ℕ → List Hold
holds_of file = holds_from file 0 (train_count file)

-- each train of the file is added, and these starts are without overlap and least for the file's holds
pub record LeastForFile (file starts : List ℕ) : Type 0 where
  pub none-refused : (k : ℕ) → k < train_count file → refusal_of (answer_to file k) ≡ none
  pub apart : WithoutOverlap (length (line_of file).block_starts) (holds_of file) starts
  pub least : NoneEarlier (length (line_of file).block_starts) (holds_of file) starts
