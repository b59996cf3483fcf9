-- The stops of a train under way, gone through once in the order of their points.
use Rattle.std.specs.Prelude.{ℕ, suc, ◌+◌, ◌*◌, ◌≤◌, ◌<◌, cond, Bool, false, List, [], ◌∷◌, ◌≡◌, leb, ltb, eqb, length, drop, Option, Some, None}
use Rattle.rules.specs.Count.{entry}
use Rattle.stops.specs.declared.Stop.{Stop}

-- how many stops in front lie before point i
unfoldable pub passed_by : List ℕ → ℕ → ℕ
passed_by [] i = 0
passed_by (s ∷ ss) i = cond (ltb s i) (suc (passed_by ss i)) 0

-- stop s, where there is one
abbrev pub stop_number : List ℕ → ℕ → Option Stop
stop_number stops s = cond (ltb s (length stops)) (Some (record { number = s; point = entry stops s })) None

-- the first stop from stop s on that is at point i or later
unfoldable pub stop_from : List ℕ → ℕ → ℕ → Option Stop
stop_from stops s i = stop_number stops (s + passed_by (drop s stops) i)

-- the first stop at point i or later, by the one before
unfoldable pub stop_ahead : List ℕ → Option Stop → ℕ → Option Stop
stop_ahead stops None i = None
stop_ahead stops (Some before) i = cond (leb i before.point) (Some before) (stop_from stops before.number i)

-- the point of a stop, or `end` where no stop is left
abbrev pub point_of : Option Stop → ℕ → ℕ
point_of None end = end
point_of (Some stop) end = stop.point

-- the stop is at point i
abbrev pub is_at : Option Stop → ℕ → Bool
is_at None i = false
is_at (Some stop) i = eqb stop.point i

-- the dwell in microseconds beside the stop, where that is at point i and i is not 0
unfoldable pub dwell_here : List ℕ → Option Stop → ℕ → ℕ
dwell_here dwells None i = 0
dwell_here dwells (Some stop) i = cond (eqb stop.point i) (cond (eqb i 0) 0 (1000000 * entry dwells stop.number)) 0

-- ---- what is known on the way

-- each stop is at least two points after the one before it
abbrev pub Apart : List ℕ → Type 0
Apart stops = (k : ℕ) → suc k < length stops → entry stops k + 2 ≤ entry stops (suc k)

-- the number of a stop, and the count of stops where there is none
abbrev pub number_of : List ℕ → Option Stop → ℕ
number_of stops None = length stops
number_of stops (Some stop) = stop.number

-- every stop before this one lies before point i
pub record Behind (stops : List ℕ) (stop : Option Stop) (i : ℕ) : Type 0 where
  pub at : stop ≡ stop_number stops (number_of stops stop)
  pub there : number_of stops stop ≤ length stops
  pub passed : (k : ℕ) → k < number_of stops stop → entry stops k < i

-- the stop is the first at point i or later; there is none where its number is the count of stops
pub record NextStop (stops : List ℕ) (stop : Option Stop) (i : ℕ) : Type 0 where
  pub behind : Behind stops stop i
  pub ahead : (k : ℕ) → number_of stops stop ≤ k → k < length stops → i ≤ entry stops k
