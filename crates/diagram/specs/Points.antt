-- The record of a point as the code has it, and the points of a row of squared speeds and a row of arrivals.
use Rattle.std.specs.Prelude.{ℕ, ◌*◌, not, List, T}
use Rattle.std.specs.Float.Ieee.{is_nan}
use Rattle.rules.specs.Count.{entry}
use Rattle.rules.specs.Diagram as rules
use Rattle.rules.specs.Text.{joined}
use Rattle.rules.specs.Time.{root}
use Rattle.diagram.specs.declared.points.DiagramPoint.{DiagramPoint}

abbrev pub as_point : DiagramPoint → rules.DiagramPoint
as_point p = record { position = p.position; speed = p.speed; arrival = p.arrival }

-- each of the three has a bit pattern of its own
pub record AreNumbers (p : DiagramPoint) : Type 0 where
  pub position : T (not (is_nan p.position))
  pub speed : T (not (is_nan p.speed))
  pub arrival : T (not (is_nan p.arrival))

-- the bytes of point i
unfoldable pub point_at : ℕ → List ℕ → List ℕ → ℕ → List ℕ
point_at step speeds times i =
    rules.point_bytes (rules.record_of (i * step) (root (entry speeds i)).number (entry times i)) (rules.dot (root (entry speeds i)))

-- those of so many points
unfoldable pub points_of : ℕ → ℕ → List ℕ → List ℕ → List ℕ
points_of points step speeds times = joined (point_at step speeds times) points
