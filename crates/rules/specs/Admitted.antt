-- Document 01, "Numbers of refusal", with 15 of document 02, "Req 04": each rule as a property of the line, of a train, of a sheet or of a
-- hold record. The tests of Refusal pass exactly where these hold (laws `rule_3_line` to `rule_15`).
use Rattle.std.specs.Prelude.{ℕ, suc, ◌+◌, ◌-◌, ◌*◌, ◌^◌, ◌≤◌, ◌<◌, ◌≡◌, length}
use Rattle.rules.specs.Count.{entry}
use Rattle.rules.specs.Line.{Line, Train}
use Rattle.rules.specs.Run.{train_cells, balise_place}
use Rattle.rules.specs.Hold.{Hold}
use Rattle.rules.specs.Sheet.{Sheet, begin, end, free_time, first_begin}

-- 3, of P, L, K, B, the count of balises and T
pub record Rule3Line (l : Line) (trains : ℕ) : Type 0 where
  pub points-least : 3 ≤ l.points
  pub points-most : l.points ≤ 4096
  pub step-least : 1 ≤ l.step
  pub step-most : l.step ≤ 100
  pub limits-least : 1 ≤ length l.limits
  pub limits-most : length l.limits ≤ 64
  pub blocks-least : 1 ≤ length l.block_starts
  pub blocks-most : length l.block_starts ≤ 32
  pub balises-most : length l.balise_points ≤ 64
  pub trains-least : 1 ≤ trains
  pub trains-most : trains ≤ 64

-- 3, of a class, a length, A and S
pub record Rule3Train (t : Train) : Type 0 where
  pub class-most : t.class ≤ 2
  pub length-least : 1 ≤ t.train_length
  pub length_most : t.train_length ≤ 1000
  pub bands-least : 1 ≤ length t.tops
  pub bands-most : length t.tops ≤ 8
  pub stops-most : length t.stops ≤ 32

-- 4
pub record Rule4 (l : Line) : Type 0 where
  pub from_zero : entry l.limit_points 0 ≡ 0
  pub rise : (k : ℕ) → suc k < length l.limit_points → entry l.limit_points k < entry l.limit_points (suc k)
  pub limit_point_most : (k : ℕ) → k < length l.limit_points → entry l.limit_points k ≤ l.points - 2

-- 5
pub record Rule5 (l : Line) : Type 0 where
  pub limit_least : (k : ℕ) → k < length l.limits → 1 ≤ entry l.limits k
  pub limit_most : (k : ℕ) → k < length l.limits → entry l.limits k ≤ 300

-- 6
pub record Rule6 (l : Line) : Type 0 where
  pub from_zero : entry l.block_starts 0 ≡ 0
  pub below : (k : ℕ) → k < length l.block_starts → entry l.block_starts k < entry l.block_ends k
  pub after : (k : ℕ) → suc k < length l.block_starts → entry l.block_ends k ≤ entry l.block_starts (suc k)
  pub end-most : (k : ℕ) → k < length l.block_ends → entry l.block_ends k ≤ l.points - 1

-- 15
pub record Rule15 (l : Line) : Type 0 where
  pub rise : (k : ℕ) → suc k < length l.balise_points → balise_place l k < balise_place l (suc k)
  pub metres_most : (k : ℕ) → k < length l.balise_points → entry l.balise_metres k < l.step
  pub place-most : (k : ℕ) → k < length l.balise_points → balise_place l k ≤ (l.points - 1) * l.step

-- 7
pub record Rule7 (t : Train) : Type 0 where
  pub rise : (k : ℕ) → suc k < length t.tops → entry t.tops k < entry t.tops (suc k)
  pub top_least : (k : ℕ) → k < length t.tops → 1 ≤ entry t.tops k
  pub top-most : (k : ℕ) → k < length t.tops → entry t.tops k ≤ 300
  pub rate_least : (k : ℕ) → k < length t.rates → 1 ≤ entry t.rates k
  pub rate_most : (k : ℕ) → k < length t.rates → entry t.rates k ≤ 200

-- 8
pub record Rule8 (l : Line) (t : Train) : Type 0 where
  pub apart : (k : ℕ) → suc k < length t.stops → entry t.stops k + 2 ≤ entry t.stops (suc k)
  pub stop_most : (k : ℕ) → k < length t.stops → entry t.stops k ≤ l.points - 1
  pub dwell-most : (k : ℕ) → k < length t.dwells → entry t.dwells k ≤ 3600

-- 9
pub record Rule9 (l : Line) (t : Train) : Type 0 where
  pub fits : entry l.block_ends (length l.block_ends - 1) + train_cells l t ≤ l.points - 1

-- the arrays of a file are parallel
pub record Parallel (l : Line) (t : Train) : Type 0 where
  pub limits : length l.limit_points ≡ length l.limits
  pub blocks : length l.block_ends ≡ length l.block_starts
  pub balises : length l.balise_points ≡ length l.balise_metres
  pub bands : length t.tops ≡ length t.rates
  pub stops : length t.stops ≡ length t.dwells

-- what an accepted file says of its line and of each of its trains
pub record Admitted (l : Line) (t : Train) : Type 0 where
  pub train_count : ℕ
  pub rule3_line : Rule3Line l train_count
  pub rule3_train : Rule3Train t
  pub rule4 : Rule4 l
  pub rule5 : Rule5 l
  pub rule6 : Rule6 l
  pub rule15 : Rule15 l
  pub rule7 : Rule7 t
  pub rule8 : Rule8 l t
  pub rule9 : Rule9 l t
  pub parallel : Parallel l t

-- 12, of a sheet
pub record Rule12 (s : Sheet) : Type 0 where
  pub blocks-least : 1 ≤ s.blocks
  pub blocks-most : s.blocks ≤ 32
  pub trains-most : s.trains ≤ 64
  pub free-most : (b : ℕ) → b < s.blocks → free_time s b ≤ s.trains * 2 ^ 44
  pub first_below : 1 ≤ s.trains → (b : ℕ) → b < s.blocks → first_begin s b < free_time s b

-- 14, of a hold record and the sheet's block count
pub record Rule14 (n : ℕ) (h : Hold) : Type 0 where
  pub count : h.blocks ≡ n
  pub ordered : (b : ℕ) → b < n → begin h b < end h b
  pub end-most : (b : ℕ) → b < n → end h b ≤ 2 ^ 44
