-- Document 01, "The run", with the grown length of document 02, "Req 04", and the rows of "Req 05": braking loss, cap, traction step, permitted
-- rows, the run, and the row that leaves braking out.
-- Squared speeds are squares of hundredths of a km/h.
use Rattle.std.specs.Prelude.{ℕ, zero, suc, ◌+◌, ◌-◌, ◌*◌, ◌≤◌, ◌<◌, min, max, Bool, true, false, cond, List, [], ◌∷◌, ◌≡◌, leb, eqb, length}
use Rattle.std.proofs.Math.Option.{Option, none, some}
use Rattle.rules.specs.Count.{entry, row, lowest_from, last_below, ceil_div}
use Rattle.rules.specs.Line.{Line, Train, practice_rate}

-- the square of 100 times a speed in km/h
unfoldable pub squared : ℕ → ℕ
squared v = 100 * v * (100 * v)

-- the squared speed gained or lost over a step of L metres at a rate in cm/s², exactly
unfoldable pub change : ℕ → ℕ → ℕ
change rate L = rate * 2592 * L

-- G, the squared speed lost over one cell at the practice braking rate
unfoldable pub braking_loss : Line → Train → ℕ
braking_loss l t = change (practice_rate t.class) l.step

-- n, the train's length in steps, rounded up: rule 9 and the holds go by it
unfoldable pub train_cells : Line → Train → ℕ
train_cells l t = ceil_div t.train_length l.step

-- ---- position uncertainty: the train's length, for the cap alone

-- the place of balise k, in m from point 0
unfoldable pub balise_place : Line → ℕ → ℕ
balise_place l k = entry l.balise_points k * l.step + entry l.balise_metres k

-- the latest balise at or before the head, which is at point i
unfoldable pub latest_balise : Line → ℕ → Option ℕ
latest_balise l i = last_below (length l.balise_points) (λ k. leb (balise_place l k) (i * l.step))

-- the balise's place, or that of point 0 where there is none
abbrev pub place_or0 : Line → Option ℕ → ℕ
place_or0 l none = 0
place_or0 l (some k) = balise_place l k

-- the distance, in m, from the latest balise at or before the head, else from point 0
unfoldable pub distance : Line → ℕ → ℕ
distance l i = i * l.step - place_or0 l (latest_balise l i)

-- the length grown by 2 m and by the distance divided by 50, rounded up
unfoldable pub grown_length : Line → Train → ℕ → ℕ
grown_length l t i = t.train_length + 2 + ceil_div (distance l i) 50

-- n of the grown length, with the head at point i
unfoldable pub grown_cells : Line → Train → ℕ → ℕ
grown_cells l t i = ceil_div (grown_length l t i) l.step

-- ---- the cap

-- The limit of cell c: a limit holds from the cell at its point up to the next limit's point. `v` is what held before.
unfoldable pub limit_from : ℕ → List ℕ → List ℕ → ℕ → ℕ
limit_from v [] ks c = v
limit_from v (p ∷ ps) [] c = v
limit_from v (p ∷ ps) (k ∷ ks) c = cond (leb p c) (limit_from k ps ks c) v

unfoldable pub cell_limit : Line → ℕ → ℕ
cell_limit l c = limit_from 0 l.limit_points l.limits c

-- the last of a list, or v where it is empty
unfoldable pub last_or : ℕ → List ℕ → ℕ
last_or v [] = v
last_or v (x ∷ xs) = last_or x xs

-- the last band's top, in km/h
abbrev pub last_top : Train → ℕ
last_top t = last_or 0 t.tops

-- the lowest of m and the limits of cells i - n to i that exist; cells are 0 to points - 2
unfoldable pub lowest_covered : (ℕ → ℕ) → ℕ → ℕ → ℕ → ℕ → ℕ
lowest_covered limit m n points i =
    let first : ℕ = i - n in
    lowest_from limit m first (min (i + 1) (points - 1) - first)

-- the lowest of the limits of cells i - n to i that exist, n that of the grown length, and the last band's top, in km/h
unfoldable pub cap_speed : Line → Train → ℕ → ℕ
cap_speed l t i = lowest_covered (cell_limit l) (last_top t) (grown_cells l t i) l.points i

-- point i is among the points listed
unfoldable pub listed : ℕ → List ℕ → Bool
listed i [] = false
listed i (s ∷ ss) = cond (eqb i s) true (listed i ss)

-- the cap of a speed: 0 at a stop
unfoldable pub cap_of : List ℕ → ℕ → ℕ → ℕ
cap_of stops i v = cond (listed i stops) 0 (squared v)

-- the cap at point i
unfoldable pub cap : Line → Train → ℕ → ℕ
cap l t i = cap_of t.stops i (cap_speed l t i)

-- ---- the traction step

-- one band's part: the lesser of w with the gain and the square of 100 times its top
unfoldable pub band_step : ℕ → ℕ → ℕ → ℕ → ℕ
band_step L top rate w = min (w + change rate L) (squared top)

-- the greatest of the bands' parts
unfoldable pub bands_step : ℕ → List ℕ → List ℕ → ℕ → ℕ
bands_step L [] rs w = 0
bands_step L (v ∷ vs) [] w = 0
bands_step L (v ∷ vs) (r ∷ rs) w = max (band_step L v r w) (bands_step L vs rs w)

-- the traction step from squared speed w
unfoldable pub traction_step : Line → Train → ℕ → ℕ
traction_step l t w = bands_step l.step t.tops t.rates w

-- ---- permitted rows, and the run

-- a permitted row of squared speeds
pub record Permitted (l : Line) (t : Train) (speeds : List ℕ) : Type 0 where
  pub whole : length speeds ≡ l.points
  pub capped : (i : ℕ) → i < l.points → entry speeds i ≤ cap l t i
  pub drawn : (i : ℕ) → suc i < l.points → entry speeds (suc i) ≤ traction_step l t (entry speeds i)
  pub braked : (i : ℕ) → suc i < l.points → entry speeds i ≤ entry speeds (suc i) + braking_loss l t

-- the run: the permitted row with the greatest entry at every point
pub record IsRun (l : Line) (t : Train) (speeds : List ℕ) : Type 0 where
  pub permitted : Permitted l t speeds
  pub greatest : (other : List ℕ) → Permitted l t other → (i : ℕ) → i < l.points → entry other i ≤ entry speeds i

-- a row of n squared speeds, for the points from 0 on, that keeps to their caps and traction steps, braking left out
pub record Unbraked (l : Line) (t : Train) (n : ℕ) (speeds : List ℕ) : Type 0 where
  pub many : length speeds ≡ n
  pub capped : (i : ℕ) → i < n → entry speeds i ≤ cap l t i
  pub drawn : (i : ℕ) → suc i < n → entry speeds (suc i) ≤ traction_step l t (entry speeds i)

-- the greatest of these rows: no other is above it at any point
pub record IsForward (l : Line) (t : Train) (n : ℕ) (speeds : List ℕ) : Type 0 where
  pub unbraked : Unbraked l t n speeds
  pub greatest : (other : List ℕ) → Unbraked l t n other → (i : ℕ) → i < n → entry other i ≤ entry speeds i

-- The run, computed by two sweeps. Forward: each entry is at most its cap and the step from the entry before.
unfoldable pub forward_sweep : (ℕ → ℕ) → (ℕ → ℕ) → ℕ → ℕ
forward_sweep caps step zero = caps 0
forward_sweep caps step (suc i) = min (caps (suc i)) (step (forward_sweep caps step i))

-- Backward, at point i with k points behind it: each entry is at most its top and the next entry plus the loss.
unfoldable pub backward_before : (ℕ → ℕ) → ℕ → ℕ → ℕ → ℕ
backward_before tops loss zero i = tops i
backward_before tops loss (suc k) i = min (tops i) (backward_before tops loss k (suc i) + loss)

-- the backward sweep over n points
unfoldable pub backward_sweep : (ℕ → ℕ) → ℕ → ℕ → ℕ → ℕ
backward_sweep tops loss n i = backward_before tops loss (n - suc i) i

-- the greatest row that keeps to caps and traction steps, braking left out
unfoldable pub forward : Line → Train → ℕ → ℕ
forward l t i = forward_sweep (cap l t) (traction_step l t) i

unfoldable pub run_at : Line → Train → ℕ → ℕ
run_at l t i = backward_sweep (forward l t) (braking_loss l t) l.points i

-- the run's squared speeds
unfoldable pub run_row : Line → Train → List ℕ
run_row l t = row (run_at l t) l.points
