-- The forward sweep over a stretch of points at which a train covers the same limits.
use Rattle.std.specs.Prelude.{ℕ, suc, ◌+◌, ◌≤◌, ◌<◌, min, List, ◌≡◌}
use Rattle.rules.specs.Admitted.{Admitted}
use Rattle.rules.specs.Count.{entry, greatest_below}
use Rattle.rules.specs.Line.{Line, Train}
use Rattle.rules.specs.Run.{cap_speed, traction_step, forward}
use Rattle.rules.proofs.Fill.{Filled}
use Rattle.forward.specs.declared.bands.Bands.{Bands}

-- w is the entry before point i; before point 0 it is above every cap
pub record Before (l : Line) (t : Train) (i w : ℕ) : Type 0 where
  pub at-start : i ≡ 0 → w ≡ 900000000
  pub later : (j : ℕ) → i ≡ suc j → w ≡ forward l t j

-- these bands, these stops and this lowest limit are those of a train at the points of a stretch, and w is the entry before it
pub record OnStretch (l : Line) (t : Train) (b : Bands) (stops : List ℕ) (lowest from end w : ℕ) : Type 0 where
  pub admitted : Admitted l t
  pub traction : (w : ℕ) → greatest_below b.count (λ k. min (w + entry b.gains k) (entry b.squares k)) ≡ traction_step l t w
  pub stops_are : stops ≡ t.stops
  pub lowest_is : (i : ℕ) → from ≤ i → i < end → lowest ≡ cap_speed l t i
  pub before : Before l t from w

-- up to point i the entries of such a stretch are those of the forward row, whichever line and train it is of; w' is the last one
abbrev pub SweptTo : Bands → List ℕ → ℕ → ℕ → ℕ → ℕ → ℕ → ℕ → List ℕ → List ℕ → Type 0
SweptTo bands stops lowest from i end w w' speeds₀ speeds =
    (l : Line) (t : Train) → OnStretch l t bands stops lowest from end w →
    Before l t i w' × Filled (forward l t) from i speeds₀ speeds
