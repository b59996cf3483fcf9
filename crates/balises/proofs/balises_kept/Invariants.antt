use Rattle.std.proofs.Common.{ℕ, ◌≡◌, ◌<◌, length}
use Rattle.balises.proofs.Places.{least_at, KeptAt}
use Rattle.balises.proofs.balises_kept.Given as goal

abbrev pub invariant-loop-point : goal.invariant-loop-point
invariant-loop-point l =
    (l.least ≡ least_at l.fn.line (length l.yielded)) × ((i : ℕ) → i < length l.yielded → KeptAt l.fn.line i)
