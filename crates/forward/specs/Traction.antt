-- The bands of a train as a run uses them: of each the gain over one step and the square of 100 times its top.
use Rattle.std.specs.Prelude.{ℕ, suc, ◌≤◌, ◌<◌, List, ◌≡◌, length}
use Rattle.rules.specs.Count.{entry}
use Rattle.rules.specs.Line.{Line, Train}
use Rattle.rules.specs.Run.{squared, change}

-- no band gains more than the one before it
abbrev pub Falls : ℕ → List ℕ → Type 0
Falls count gains = (k : ℕ) → suc k < count → entry gains (suc k) ≤ entry gains k

-- no top is below the one before it
abbrev pub Rises : ℕ → List ℕ → Type 0
Rises count squares = (k : ℕ) → suc k < count → entry squares k ≤ entry squares (suc k)

-- these are the bands of t for the step of l
pub record IsBands (l : Line) (t : Train) (count : ℕ) (gains squares : List ℕ) : Type 0 where
  pub count_is : count ≡ length t.tops
  pub gain : (k : ℕ) → k < count → entry gains k ≡ change (entry t.rates k) l.step
  pub square : (k : ℕ) → k < count → entry squares k ≡ squared (entry t.tops k)

-- bounds that keep a traction step within 32 bits, and tops in order
pub record BandBounds (count : ℕ) (gains squares : List ℕ) : Type 0 where
  pub count_most : count ≤ 8
  pub gain-most : (k : ℕ) → k < count → entry gains k ≤ 51840000
  pub square-most : (k : ℕ) → k < count → entry squares k ≤ 900000000
  pub squares_rise : Rises count squares
