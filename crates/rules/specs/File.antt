-- Document 01, "Units and the file", with the balises of document 02, "Req 04": where each number of the file stands. `file` is the list of the
-- file's bytes.
use Rattle.std.specs.Prelude.{ℕ, zero, suc, ◌+◌, ◌*◌, ◌<◌, List, take, drop}
use Rattle.rules.specs.Count.{entry, row}

-- each of its numbers is a byte's
abbrev pub AreBytes : List ℕ → Type 0
AreBytes file = (i : ℕ) → entry file i < 256

-- The unsigned 16-bit number at a byte place, low byte first. A byte past the end of the file counts as 0.
unfoldable pub word : List ℕ → ℕ → ℕ
word file place = entry file place + 256 * entry file (place + 1)

-- n such numbers, the first at the byte place
unfoldable pub words : List ℕ → ℕ → ℕ → List ℕ
words file place n = row (λ i. word file (place + 2 * i)) n

-- ---- the sizes, each at its place, and the place past them

-- P, points
abbrev pub point_count : List ℕ → ℕ
point_count file = word file 0

-- L, the step in m
abbrev pub step_length : List ℕ → ℕ
step_length file = word file 2

-- K, limits
abbrev pub limit_count : List ℕ → ℕ
limit_count file = word file 4

-- B, blocks
abbrev pub block_count : List ℕ → ℕ
block_count file = word file 6

-- set-up time and release time, in tenths of a second
abbrev pub set_up_time : List ℕ → ℕ
set_up_time file = word file 8

abbrev pub release_time : List ℕ → ℕ
release_time file = word file 10

-- balises
abbrev pub balise_count : List ℕ → ℕ
balise_count file = word file 12

abbrev pub sizes_end : ℕ
sizes_end = 14

-- ---- the parallel arrays: K limit points, K limits, B block starts, B block ends, the balises' points, the metres past each; then T

abbrev pub limit_points_at : List ℕ → ℕ
limit_points_at file = sizes_end

abbrev pub limits_at : List ℕ → ℕ
limits_at file = limit_points_at file + 2 * limit_count file

abbrev pub block_starts_at : List ℕ → ℕ
block_starts_at file = limits_at file + 2 * limit_count file

abbrev pub block_ends_at : List ℕ → ℕ
block_ends_at file = block_starts_at file + 2 * block_count file

abbrev pub balise_points_at : List ℕ → ℕ
balise_points_at file = block_ends_at file + 2 * block_count file

abbrev pub balise_metres_at : List ℕ → ℕ
balise_metres_at file = balise_points_at file + 2 * balise_count file

abbrev pub train_count_at : List ℕ → ℕ
train_count_at file = balise_metres_at file + 2 * balise_count file

-- T, trains
abbrev pub train_count : List ℕ → ℕ
train_count file = word file (train_count_at file)

abbrev pub trains_at : List ℕ → ℕ
trains_at file = train_count_at file + 2

-- ---- a train record, of which `at` is the byte place

abbrev pub class_number : List ℕ → ℕ → ℕ
class_number file at = word file at

-- in m
abbrev pub length_number : List ℕ → ℕ → ℕ
length_number file at = word file (at + 2)

-- A, bands
abbrev pub band_count : List ℕ → ℕ → ℕ
band_count file at = word file (at + 4)

-- S, stops
abbrev pub stop_count : List ℕ → ℕ → ℕ
stop_count file at = word file (at + 6)

-- A band tops, A rates, S stop points, S dwells
abbrev pub tops_at : List ℕ → ℕ → ℕ
tops_at file at = at + 8

abbrev pub rates_at : List ℕ → ℕ → ℕ
rates_at file at = tops_at file at + 2 * band_count file at

abbrev pub stops_at : List ℕ → ℕ → ℕ
stops_at file at = rates_at file at + 2 * band_count file at

abbrev pub dwells_at : List ℕ → ℕ → ℕ
dwells_at file at = stops_at file at + 2 * stop_count file at

-- the place past the record
abbrev pub record_end : List ℕ → ℕ → ℕ
record_end file at = dwells_at file at + 2 * stop_count file at

-- the place of train record k, counted from 0: the first stands after T, each other past the one before
unfoldable pub record_at : List ℕ → ℕ → ℕ
record_at file zero = trains_at file
record_at file (suc k) = record_end file (record_at file k)

-- the number of bytes of the record
abbrev pub record_size : List ℕ → ℕ → ℕ
record_size file at = 8 + 4 * band_count file at + 4 * stop_count file at

-- train record k as a part of the file, from its class to its last dwell, or to its last rate if S is 0
abbrev pub record_bytes : List ℕ → ℕ → List ℕ
record_bytes file k = take (record_size file (record_at file k)) (drop (record_at file k) file)

-- The place past everything that the sizes, taken without their limits, announce. Places only grow from one number to the next and
-- a number past the end counts as 0, so a file that ends before something announced is shorter than this, and a whole one is not.
abbrev pub announced_end : List ℕ → ℕ
announced_end file = record_at file (train_count file)
