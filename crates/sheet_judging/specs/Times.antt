-- The times of holds, in lists with any contents.
use Rattle.std.specs.Prelude.{ℕ, ◌^◌, min, Bool, List, leb, ltb, length}
use Rattle.rules.specs.Count.{◌and◌, entry, every}

-- each beginning is below the end beside it, and no end exceeds 2^44
unfoldable pub times_kept : List ℕ → List ℕ → Bool
times_kept begins ends =
    every (min (length begins) (length ends)) (λ i. ltb (entry begins i) (entry ends i) and leb (entry ends i) (2 ^ 44))
