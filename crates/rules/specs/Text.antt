-- Document 01, "Sample line": what the sheet program prints.
use Rattle.std.specs.Prelude.{ℕ, zero, suc, ◌+◌, ◌-◌, ◌/◌, ◌%◌, Bool, true, false, cond, List, [], ◌∷◌, ◌++◌, leb, ltb, eqb, length, get_or}
use Rattle.rules.specs.Count.{entry}
use Rattle.rules.specs.File.{train_count}
use Rattle.rules.specs.Line.{line_of, train_of}
use Rattle.rules.specs.Time.{run_times}
use Rattle.rules.specs.Hold.{Hold, hold_of}
use Rattle.rules.specs.Sheet.{fresh}
use Rattle.rules.specs.Calls.{Answer, accepted, refused, file_refusal}
use Rattle.rules.specs.Demand.{answers}

-- ---- a number in decimal digits

-- the ASCII code of a digit
abbrev pub digit : ℕ → ℕ
digit d = 48 + d

-- the digits of n; the flag says whether n is below 10, and `most` bounds how many digits follow the first
unfoldable pub digits_of : ℕ → Bool → ℕ → List ℕ
digits_of zero single n = digit n ∷ []
digits_of (suc most) true n = digit n ∷ []
digits_of (suc most) false n = digits_of most (ltb (n / 10) 10) (n / 10) ++ (digit (n % 10) ∷ [])

-- the decimal digits of n, the most significant first, with no zero in front
unfoldable pub decimal : ℕ → List ℕ
unfolding digits_of
decimal n = digits_of n (ltb n 10) n

-- a number and the byte behind it
unfoldable pub field : ℕ → ℕ → List ℕ
field n mark = decimal n ++ (mark ∷ [])

-- ---- the lines

-- "train start run block" and a line feed
unfoldable pub header : List ℕ
header =
    116 ∷ 114 ∷ 97 ∷ 105 ∷ 110 ∷ 32 ∷ 115 ∷ 116 ∷ 97 ∷ 114 ∷ 116 ∷ 32 ∷ 114 ∷ 117 ∷ 110 ∷ 32 ∷ 98 ∷ 108 ∷ 111 ∷ 99 ∷ 107 ∷ 10 ∷ []

-- the train counted from 1, its start, its arrival at the last point and the block named, with spaces between and a line feed behind
unfoldable pub train_line : ℕ → ℕ → ℕ → ℕ → List ℕ
train_line train start run block = field train 32 ++ (field start 32 ++ (field run 32 ++ field block 10))

-- "refused ", the number and a line feed
unfoldable pub refusal_text : ℕ → List ℕ
refusal_text n = 114 ∷ 101 ∷ 102 ∷ 117 ∷ 115 ∷ 101 ∷ 100 ∷ 32 ∷ field n 10

-- the pieces 0 to n - 1, one behind the other
unfoldable pub joined : (ℕ → List ℕ) → ℕ → List ℕ
joined piece zero = []
joined piece (suc n) = joined piece n ++ piece n

-- ---- the sheet of a file

-- holds of the trains from k on, n of them, in the file's order
unfoldable pub holds_from : List ℕ → ℕ → ℕ → List Hold
holds_from file k zero = []
holds_from file k (suc n) = hold_of (line_of file) (train_of file k) ∷ holds_from file (suc k) n

-- each train of the file added in order to a fresh sheet of the file's blocks
unfoldable pub file_answers : List ℕ → List Answer
file_answers file = answers (fresh (length (line_of file).block_starts)) (holds_from file 0 (train_count file))

-- start and block of an answer. A file's holds are never refused (law `file_answers_lem`).
abbrev pub start_of : Answer → ℕ
start_of (accepted start block) = start
start_of (refused n) = 0

abbrev pub block_of : Answer → ℕ
block_of (accepted start block) = block
block_of (refused n) = 0

-- the running time of train k: its arrival at the last point
unfoldable pub running_time : List ℕ → ℕ → ℕ
running_time file k = entry (run_times (line_of file) (train_of file k)) ((line_of file).points - 1)

unfoldable pub line_of_train : List ℕ → ℕ → List ℕ
line_of_train file k =
    let answer = get_or (file_answers file) k (refused 0) in
    train_line (k + 1) (start_of answer) (running_time file k) (block_of answer)

-- the sheet's text, or the refusal's
unfoldable pub sheet_text : List ℕ → List ℕ
sheet_text file =
    cond (eqb (file_refusal file) 0) (header ++ joined (line_of_train file) (train_count file)) (refusal_text (file_refusal file))

-- the bound on the sheet program's input, in bytes
abbrev pub most_input : ℕ
most_input = 16384

-- what the sheet program prints: input above the bound is `refused 2` with no rule checked
unfoldable pub program_text : List ℕ → List ℕ
program_text file = cond (leb (length file) most_input) (sheet_text file) (refusal_text 2)
