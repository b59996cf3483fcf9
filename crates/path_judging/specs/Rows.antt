-- Placed rows from the three lent slices, and the tests that the code makes of them.
use Rattle.std.specs.Prelude.{ℕ, ◌+◌, ◌-◌, ◌*◌, Bool, List, length, take, drop}
use Rattle.rules.specs.Count.{entry, every}
use Rattle.rules.specs.Path as paths
use Rattle.order.specs.Clear.{clear_of}
use Rattle.path_judging.specs.declared.rows.PlacedRows.{PlacedRows}

abbrev pub placed_rows : List ℕ → List ℕ → List ℕ → paths.PlacedRows
placed_rows starts begins ends = record { starts = starts; begins = begins; ends = ends }

abbrev pub as_rows : PlacedRows → paths.PlacedRows
as_rows r = placed_rows r.starts.now r.begins.now r.ends.now

-- the n entries of row k
abbrev pub row_of : ℕ → ℕ → List ℕ → List ℕ
row_of n k entries = take n (drop (k * n) entries)

-- each row is clear of the next
unfoldable pub next_clear : ℕ → paths.PlacedRows → ℕ → Bool
next_clear n p k = clear_of (entry p.starts k) (row_of n k p.ends) (entry p.starts (k + 1)) (row_of n (k + 1) p.begins)

unfoldable pub each_clear : ℕ → paths.PlacedRows → Bool
each_clear n p = every (length p.starts - 1) (next_clear n p)
