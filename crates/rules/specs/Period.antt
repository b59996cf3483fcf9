-- Document 02, "Req 03. The hour pattern": the period of a sheet and its percentage of an hour, the period call, and what it means to
-- repeat a sheet with this period.
use Rattle.std.specs.Prelude.{ℕ, ◌+◌, ◌-◌, ◌*◌, ◌/◌, ◌≤◌, ◌<◌, cond, List, [], ◌∷◌, ◌≡◌, eqb, length, get_or}
use Rattle.rules.specs.Count.{entry, greatest_below}
use Rattle.rules.specs.Hold.{Hold, empty_hold}
use Rattle.rules.specs.Sheet.{Sheet, begin, end, free_time, first_begin}
use Rattle.rules.specs.Refusal.{Rule, rule, refusal, sheet_rule}
use Rattle.rules.specs.Calls.{opened}
use Rattle.rules.specs.Admitted.{Rule12}
use Rattle.rules.specs.Numbers.{Check, check}
use Rattle.rules.specs.Demand.{answers, left_by, starts, trains}

-- The period of a sheet with trains: the greatest, over the blocks, of free time less the first train's beginning. Of an empty one: 0.
unfoldable pub period : Sheet → ℕ
period s = cond (eqb s.trains 0) 0 (greatest_below s.blocks (λ b. free_time s b - first_begin s b))

-- 3,600 seconds in microseconds
abbrev pub hour : ℕ
hour = 3600 * 1000000

-- the percentage of 3,600 seconds, rounded to the nearest, halves up
unfoldable pub percentage : ℕ → ℕ
percentage p = (2 * (100 * p) + hour) / (2 * hour)

-- ---- the period call

-- 12
abbrev pub period_rules : Sheet → List Rule
period_rules s = rule 12 (sheet_rule s) ∷ []

-- the same in the paper's words
abbrev pub period_checks : Sheet → List Check
period_checks s = check 12 (Rule12 s) ∷ []

-- the number 0, the period and the percentage, or the number of refusal, 0 and 0
pub record PeriodAnswer : Type 0 where
  pub number : ℕ
  pub period : ℕ
  pub percent : ℕ

unfoldable pub period_answer : Sheet → PeriodAnswer
period_answer s =
    cond (eqb (refusal (period_rules s)) 0) (record { number = 0; period = period s; percent = percentage (period s) })
    (record { number = refusal (period_rules s); period = 0; percent = 0 })

-- ---- the two figures in the paper's words

-- p is the period of the sheet s
pub record IsPeriod (s : Sheet) (p : ℕ) : Type 0 where
  pub empty : s.trains ≡ 0 → p ≡ 0
  pub each : 1 ≤ s.trains → (b : ℕ) → b < s.blocks → free_time s b ≤ first_begin s b + p
  pub attained : 1 ≤ s.trains → (b : ℕ) × (b < s.blocks) × (free_time s b ≡ first_begin s b + p)

-- x is the percentage of p: 100 times p is at most half an hour less than x hours, and less than half an hour more
pub record IsPercentage (p x : ℕ) : Type 0 where
  pub below : 2 * (x * hour) ≤ 2 * (100 * p) + hour
  pub above : 2 * (100 * p) < 2 * (x * hour) + hour

-- ---- the pattern: trains with the hold records hs and the starts ts, repeated with the period p

-- repetition r of train k starts at the train's start plus r times the period; both count from 0
abbrev pub repeated_start : List ℕ → ℕ → ℕ → ℕ → ℕ
repeated_start ts p k r = entry ts k + r * p

-- The time lies in the hold of block b by a train with this start. A hold contains its beginning and not its end.
pub record InHold (h : Hold) (start b time : ℕ) : Type 0 where
  pub begun : start + begin h b ≤ time
  pub unended : time < start + end h b

-- Among so many repetitions, some two holds of one block overlap: a time lies in both, and they are not of the same train in the same
-- repetition.
pub record Overlap (n : ℕ) (hs : List Hold) (ts : List ℕ) (p repetitions : ℕ) : Type 0 where
  pub block : ℕ
  pub train : ℕ
  pub repetition : ℕ
  pub other_train : ℕ
  pub other_repetition : ℕ
  pub time : ℕ
  pub block_within : block < n
  pub train-there : train < length hs
  pub repetition-there : repetition < repetitions
  pub other_train_there : other_train < length hs
  pub other_repetition_there : other_repetition < repetitions
  pub different : (train ≡ other_train) × (repetition ≡ other_repetition) → ⊥
  pub in_one : InHold (get_or hs train empty_hold) (repeated_start ts p train repetition) block time
  pub in_other : InHold (get_or hs other_train empty_hold) (repeated_start ts p other_train other_repetition) block time

-- The period p is possible, and shortest: with any number of repetitions no two holds of one block overlap, and from two repetitions on
-- some two do with one microsecond less.
pub record ShortestPeriod (n : ℕ) (hs : List Hold) (ts : List ℕ) (p : ℕ) : Type 0 where
  pub above_zero : 1 ≤ p
  pub possible : (repetitions : ℕ) → Overlap n hs ts p repetitions → ⊥
  pub shortest : (repetitions : ℕ) → 2 ≤ repetitions → Overlap n hs ts (p - 1) repetitions

-- The claim for the answer of the period call on the sheet s: for every list of adding calls, from a sheet just opened, that leaves s
-- with a train or more, the call is accepted, and the period is the shortest for the accepted trains at their starts.
abbrev pub HourPattern : Sheet → PeriodAnswer → Type 0
HourPattern s a =
    (n : ℕ) (calls : List Hold) → (opened n).number ≡ 0 → left_by (opened n).sheet calls ≡ s →
    1 ≤ length (starts (answers (opened n).sheet calls)) →
    (a.number ≡ 0)
    × ShortestPeriod n (trains calls (answers (opened n).sheet calls)) (starts (answers (opened n).sheet calls)) a.period
