-- Document 02, "Req 01. Speed-distance diagram": for each point a record of three doubles, and the bytes that receive it. "Req 02. Exact
-- speeds marked": the dot that follows each record.
use Rattle.std.specs.Prelude.{ℕ, zero, suc, ◌+◌, ◌*◌, ◌/◌, ◌%◌, ◌^◌, ◌≤◌, ◌<◌, Bool, cond, List, [], ◌∷◌, ◌++◌, ◌≡◌, T, leb, eqb, Float, pos, length, take, drop}
use Rattle.std.specs.Float.{binary64}
use Rattle.std.specs.Float.Ieee.{of_int, to_unsigned, in_unsigned, of_bits, to_bits}
use Rattle.rules.specs.Count.{entry}
use Rattle.rules.specs.Line.{Line, Train, line_of, train_of}
use Rattle.rules.specs.Run.{run_row}
use Rattle.rules.specs.Time.{Root, root, run_times}
use Rattle.rules.specs.Refusal.{Rule, rule, refusal, train_rules}
use Rattle.rules.specs.Calls.{lent_after}
use Rattle.rules.specs.Numbers.{Check, check, train_call_checks}
use Rattle.rules.specs.Text.{joined}

-- ---- the record of a point

-- a whole number as a double
unfoldable pub double : ℕ → Float
double n = of_int binary64 (pos n)

pub record DiagramPoint : Type 0 where
  pub position : Float
  pub speed : Float
  pub arrival : Float

-- position in metres, number of the root of the squared speed, arrival in microseconds
unfoldable pub record_of : ℕ → ℕ → ℕ → DiagramPoint
record_of position speed arrival = record { position = double position; speed = double speed; arrival = double arrival }

-- the record of point i of a train's run
unfoldable pub diagram_point : Line → Train → ℕ → DiagramPoint
diagram_point l t i = record_of (i * l.step) (root (entry (run_row l t) i)).number (entry (run_times l t) i)

-- 1 for a full dot where the speed is whole, 0 for an open one where it was rounded down
unfoldable pub dot : Root → ℕ
dot r = cond (eqb r.left 0) 1 0

-- the dot of point i
unfoldable pub diagram_dot : Line → Train → ℕ → ℕ
diagram_dot l t i = dot (root (entry (run_row l t) i))

-- ---- its bytes

-- a number in so many bytes, low byte first
unfoldable pub low_first : ℕ → ℕ → List ℕ
low_first zero n = []
low_first (suc bytes) n = n % 256 ∷ low_first bytes (n / 256)

-- a double in eight bytes
unfoldable pub double_bytes : Float → List ℕ
double_bytes x = low_first 8 (to_bits binary64 x)

-- the three doubles in this order
unfoldable pub figures_bytes : DiagramPoint → List ℕ
figures_bytes p = double_bytes p.position ++ (double_bytes p.speed ++ double_bytes p.arrival)

-- the record, followed by its dot
unfoldable pub point_bytes : DiagramPoint → ℕ → List ℕ
point_bytes p mark = figures_bytes p ++ (mark ∷ [])

-- how many bytes a record has, and a point (laws `figures_bytes_lem` and `point_bytes_lem`)
abbrev pub figures_size : ℕ
figures_size = 24

abbrev pub point_size : ℕ
point_size = 25

-- the diagram of a train's run: its points, in order
unfoldable pub diagram_bytes : Line → Train → List ℕ
diagram_bytes l t = joined (λ i. point_bytes (diagram_point l t i) (diagram_dot l t i)) l.points

-- ---- the diagram call

-- 11. The lent bytes have room for every point.
unfoldable pub room_for_points : Line → ℕ → Bool
room_for_points l bytes = leb (point_size * l.points) bytes

-- the file's rules and 10, then 11
abbrev pub diagram_rules : List ℕ → ℕ → ℕ → List Rule
diagram_rules file k bytes = train_rules file k ++ (rule 11 (room_for_points (line_of file) bytes) ∷ [])

-- the same in the paper's words
abbrev pub diagram_checks : List ℕ → ℕ → ℕ → List Check
diagram_checks file k bytes = train_call_checks file k ++ (check 11 (point_size * (line_of file).points ≤ bytes) ∷ [])

-- the number of refusal by how many bytes are lent, or 0
unfoldable pub diagram_refusal : List ℕ → ℕ → ℕ → ℕ
diagram_refusal file k bytes = refusal (diagram_rules file k bytes)

-- the lent bytes after the call
unfoldable pub diagram_after : List ℕ → ℕ → List ℕ → List ℕ
diagram_after file k bytes = lent_after (diagram_refusal file k (length bytes)) (diagram_bytes (line_of file) (train_of file k)) bytes

-- ---- what a drawing tool reads

-- the number of some bytes, low byte first
unfoldable pub from_low : List ℕ → ℕ
from_low [] = 0
from_low (b ∷ bs) = b + 256 * from_low bs

-- the double in the eight bytes from a place on
unfoldable pub double_at : List ℕ → ℕ → Float
double_at bytes place = of_bits binary64 (from_low (take 8 (drop place bytes)))

-- the speed in the record at a place
abbrev pub speed_at : List ℕ → ℕ → ℕ
speed_at bytes place = to_unsigned 64 (double_at bytes (place + 8))

-- The double at a place is a whole number, and turning it back gives n. Doubles hold every whole number below 2^53.
pub record Carries (bytes : List ℕ) (place n : ℕ) : Type 0 where
  pub small : n < 2 ^ 53
  pub whole : T (in_unsigned binary64 64 (double_at bytes place))
  pub back : to_unsigned 64 (double_at bytes place) ≡ n

-- The dot of the record at a place is 1 exactly if the squared speed w is the square of the speed in that record, else 0.
pub record Marks (bytes : List ℕ) (place w : ℕ) : Type 0 where
  pub full : entry bytes (place + figures_size) ≡ 1 → speed_at bytes place * speed_at bytes place ≡ w
  pub whole : speed_at bytes place * speed_at bytes place ≡ w → entry bytes (place + figures_size) ≡ 1
  pub rounded : (speed_at bytes place * speed_at bytes place ≡ w → ⊥) → entry bytes (place + figures_size) ≡ 0

-- the bytes carry the run's own figures, point after point, and mark its whole speeds
pub record CarriesRun (l : Line) (t : Train) (bytes : List ℕ) : Type 0 where
  pub positions : (i : ℕ) → i < l.points → Carries bytes (point_size * i) (i * l.step)
  pub speeds : (i : ℕ) → i < l.points → Carries bytes (point_size * i + 8) (root (entry (run_row l t) i)).number
  pub arrivals : (i : ℕ) → i < l.points → Carries bytes (point_size * i + 16) (entry (run_times l t) i)
  pub dots : (i : ℕ) → i < l.points → Marks bytes (point_size * i) (entry (run_row l t) i)
