-- What an input holds: numbers of eight bytes, low byte first, and files.
use Rattle.std.specs.Prelude.{ℕ, ◌*◌, List, take, drop}
use Rattle.std.specs.Int.{w64, from_le_bytes}

-- the first number
abbrev pub number_of : List ℕ → ℕ
number_of xs = from_le_bytes w64 (take 8 xs)

-- the number behind k others
abbrev pub number_at : List ℕ → ℕ → ℕ
number_at xs k = number_of (drop (8 * k) xs)

-- the file behind its length
abbrev pub file_of : List ℕ → List ℕ
file_of xs = take (number_of xs) (drop 8 xs)
