-- What the code of the rules after 3 rests on. No rule of the paper is said here.
use Rattle.std.specs.Prelude.{◌≤◌}
use Rattle.values.specs.declared.decoded.Line.{Line}
use Rattle.values.specs.declared.decoded.Train.{Train}

-- the sizes of a line
pub record Sized (l : Line) : Type 0 where
  pub points : 3 ≤ l.points
  pub step : 1 ≤ l.step
  pub limit_least : 1 ≤ l.limit_count
  pub limit_most : l.limit_count ≤ 64
  pub block-least : 1 ≤ l.block_count
  pub block-most : l.block_count ≤ 32

-- the entries in use of a train's arrays are there
pub record Counted (t : Train) : Type 0 where
  pub bands : t.band_count ≤ 64
  pub stops : t.stop_count ≤ 64
