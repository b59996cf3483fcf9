-- When a train is clear of the one behind it.
use Rattle.std.specs.Prelude.{ℕ, ◌+◌, min, Bool, List, leb, length}
use Rattle.rules.specs.Count.{entry, every}

-- In each block the train ahead has left before the one behind comes: its start plus end is at most the other's start plus beginning.
unfoldable pub clear_of : ℕ → List ℕ → ℕ → List ℕ → Bool
clear_of ahead ends behind begins = every (min (length ends) (length begins)) (λ b. leb (ahead + entry ends b) (behind + entry begins b))
