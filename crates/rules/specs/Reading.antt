-- Document 01, "Units and the file", read word for word, as someone goes through the file: first the sizes of the line, then its
-- arrays and T, then each train's sizes and its arrays. The law `reading` says that rule 1 by `announced_end` is the same.
use Rattle.std.specs.Prelude.{ℕ, zero, suc, ◌+◌, cond, List, leb, length}
use Rattle.rules.specs.File.{sizes_end, train_count, trains_at, record_end}

pub data Reading : Type 0 where
  ends_early : Reading
  read_to : ℕ → Reading

-- the bytes up to a place are there, and reading goes on
abbrev pub have : List ℕ → ℕ → Reading → Reading
have file up_to next = cond (leb up_to (length file)) next ends_early

-- n more train records, the first at a byte place
unfoldable pub read_trains : List ℕ → ℕ → ℕ → Reading
read_trains file zero at = read_to at
read_trains file (suc n) at = have file (at + 8) (have file (record_end file at) (read_trains file n (record_end file at)))

unfoldable pub read_file : List ℕ → Reading
read_file file = have file sizes_end (have file (trains_at file) (read_trains file (train_count file) (trains_at file)))
