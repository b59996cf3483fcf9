-- Document 01, "The run": root, cell time, arrivals, departures, and rival rows. Times are in microseconds. Document 02, "Req 02": the root
-- gives, with the number, what is left of the squared speed after its square.
use Rattle.std.specs.Prelude.{ℕ, zero, suc, ◌+◌, ◌-◌, ◌*◌, ◌/◌, ◌≤◌, ◌<◌, cond, ◌||◌, List, [], ◌∷◌, ◌≡◌, leb, eqb}
use Rattle.rules.specs.Count.{entry, row, ceil_div}
use Rattle.rules.specs.Line.{Line, Train}
use Rattle.rules.specs.Run.{Permitted, IsRun, run_row}

-- 2 r or 2 r + 1, whichever is the greatest whose square is at most w
unfoldable pub next_digit : ℕ → ℕ → ℕ
next_digit w r = cond (leb ((2 * r + 1) * (2 * r + 1)) w) (2 * r + 1) (2 * r)

-- the number of the root of w from that of a quarter of w, one binary digit more; k bounds the digits
unfoldable pub root_digits : ℕ → ℕ → ℕ
root_digits zero w = 0
root_digits (suc k) zero = 0
root_digits (suc k) (suc v) = next_digit (suc v) (root_digits k (suc v / 4))

-- a root: its number, and what is left of the squared speed after the square
pub record Root : Type 0 where
  pub number : ℕ
  pub left : ℕ

-- a number, and what its square leaves of w
unfoldable pub leaving : ℕ → ℕ → Root
leaving w r = record { number = r; left = w - r * r }

-- the root: the greatest whole number whose square is at most w, and what is left (law `root_is`)
unfoldable pub root : ℕ → Root
root w = leaving w (root_digits w w)

-- cell time between roots p and q over a step of L metres
unfoldable pub cell_time : ℕ → ℕ → ℕ → ℕ
cell_time L p q = ceil_div (720000000 * L) (p + q)

-- the dwell in seconds beside the stop at point i, or 0
unfoldable pub dwell_from : List ℕ → List ℕ → ℕ → ℕ
dwell_from [] ds i = 0
dwell_from (s ∷ ss) [] i = 0
dwell_from (s ∷ ss) (d ∷ ds) i = cond (eqb i s) d (dwell_from ss ds i)

-- the dwell at a stop other than points 0 and P - 1, else 0
unfoldable pub dwell : Line → Train → ℕ → ℕ
dwell l t i = cond (eqb i 0 || eqb (suc i) l.points) 0 (1000000 * dwell_from t.stops t.dwells i)

-- Arrival at point 0 is 0; arrival at i + 1 is departure at i plus the cell time. The row is the train's own or a rival's.
unfoldable pub arrival : Line → Train → List ℕ → ℕ → ℕ
arrival l t speeds zero = 0
arrival l t speeds (suc i) = arrival l t speeds i + dwell l t i + cell_time l.step (root (entry speeds i)).number (root (entry speeds (suc i))).number

-- departure is arrival plus the dwell
unfoldable pub departure : Line → Train → List ℕ → ℕ → ℕ
departure l t speeds i = arrival l t speeds i + dwell l t i

-- the arrivals of a row at all points, and those of the run
unfoldable pub arrivals : Line → Train → List ℕ → List ℕ
arrivals l t speeds = row (arrival l t speeds) l.points

abbrev pub run_times : Line → Train → List ℕ
run_times l t = arrivals l t (run_row l t)

-- a row reaches no point after the first of two zeros that stand side by side in it
abbrev pub Reaches : List ℕ → ℕ → Type 0
Reaches speeds i = (j : ℕ) → j < i → (entry speeds j ≡ 0) × (entry speeds (suc j) ≡ 0) → ⊥

-- The third demand for a train: the row is the run, the times are its arrivals, and no permitted rival reaches a point before the
-- arrival there.
pub record FastestRun (l : Line) (t : Train) (speeds times : List ℕ) : Type 0 where
  pub is_run : IsRun l t speeds
  pub timed : times ≡ arrivals l t speeds
  pub none_before :
      (rival : List ℕ) → Permitted l t rival → (i : ℕ) → i < l.points → Reaches rival i → entry times i ≤ arrival l t rival i
