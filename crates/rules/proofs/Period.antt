-- The period and its percentage, the period call, and the claim about repeated sheets. Assumes nothing.
use Prim.Native.Nat.{ℕ, zero, suc, ◌+◌, ◌-◌, ◌*◌, ◌^◌, ◌≤◌, ◌<◌}
use mathlib.Core.Bool.{cond}
use mathlib.Core.List.{List}
use mathlib.Core.Logic.{⊎_elim}
use mathlib.Core.Path.{◌≡◌, refl, sym, ap, ◌∙◌}
use native.Mathlib.Decide.{dec_lt}
use native.Mathlib.Nat.{eq-zero-or-pos, mul-le-mul_right, suc-mul}
use native.Mathlib.Omega.{arith}
use lib.Dec.{eqb}
use lib.ListN.{length, get_or}
use borrow.Author.Tests.{ne_eqb}
use Rattle.rules.specs.Count.{entry, or_zero, greatest_below}
use Rattle.rules.specs.Hold.{Hold, empty_hold}
use Rattle.rules.specs.Sheet.{Sheet, begin, end, free_time, first_begin, fresh}
use Rattle.rules.specs.Refusal.{refusal}
use Rattle.rules.specs.Calls.{Answer}
use Rattle.rules.specs.Admitted.{Rule12}
use Rattle.rules.specs.Numbers.{AnswersBy}
use Rattle.rules.specs.Demand.{answers, left_by, starts, trains, WithoutOverlap}
use Rattle.rules.specs.Period.{period, percentage, PeriodAnswer, period_answer, period_checks, IsPeriod, IsPercentage, repeated_start}
use Rattle.rules.specs.Period.{Overlap, ShortestPeriod, HourPattern}
use Rattle.rules.proofs.Count.{within_means, at_most-greatest, greatest-at_most, greatest-attained}
use Rattle.rules.proofs.Sheet.{rule_12, Sound, fresh-free, sound_fresh}
use Rattle.rules.proofs.Numbers.{judges_none, judges_first, answers_by}
use Rattle.rules.proofs.Demand.{sound_left, third_demand, opened-fresh, opened-count}
use Rattle.rules.proofs.Beyond.{blocks-left}
use Rattle.rules.proofs.Left.{Leaves, leaves}

pub percentage_is : (p : ℕ) → IsPercentage p (percentage p)
unfolding percentage
percentage_is p = record { below = omega arith; above = omega arith }

module _ (s : Sheet) (r : Rule12 s) where
  abbrev gap : ℕ → ℕ
  gap b = free_time s b - first_begin s b

  empty : s.trains ≡ 0 → period s ≡ 0
  unfolding period
  empty z = rw z

  -- a sheet without trains has the free time 0 in every block, so its period is the greatest too
  pub period-greatest : period s ≡ greatest_below s.blocks gap
  unfolding period
  period-greatest =
      ⊎_elim
      (λ z. empty z ∙ omega (arith, greatest-at_most s.blocks gap 0 (λ b l. omega (arith, z, r.free-most b l))))
      (λ m. rw (ne_eqb s.trains 0 (λ z. omega arith)))
      (eq-zero-or-pos s.trains)

  period-each : (b : ℕ) → b < s.blocks → free_time s b ≤ first_begin s b + period s
  period-each b l = omega (arith, period-greatest, at_most-greatest s.blocks gap b l)

  period-attained : 1 ≤ s.trains → (b : ℕ) × (b < s.blocks) × (free_time s b ≡ first_begin s b + period s)
  period-attained m =
      let some : 0 < greatest_below s.blocks gap =
      omega (arith, at_most-greatest s.blocks gap 0 r.blocks-least, r.first_below m 0 r.blocks-least) in
      let (b, l, e) = greatest-attained s.blocks gap some in
      (b, l, omega (arith, e, period-greatest, r.first_below m b l))

  pub period_is : IsPeriod s (period s)
  period_is = record { empty = empty; each = λ m. period-each; attained = period-attained }

  pub period-most : period s ≤ 64 * 2 ^ 44
  period-most =
      omega (arith, period-greatest, greatest-at_most s.blocks gap (64 * 2 ^ 44) (λ b l. omega (arith, r.free-most b l, r.trains-most)))

-- ---- the period call

pub period-number :
    (s : Sheet) →
    AnswersBy (period_checks s) (λ n. record { number = n; period = 0; percent = 0 })
    (record { number = 0; period = period s; percent = percentage (period s) }) (period_answer s)
unfolding refusal period_answer
period-number s =
    answers_by
    (λ o. cond {A = PeriodAnswer} (eqb (or_zero o) 0) (record { number = 0; period = period s; percent = percentage (period s) })
    (record { number = or_zero o; period = 0; percent = 0 })) (judges_first (rule_12 s) judges_none)

-- ---- the claim about repeated sheets

-- trains on a sheet of n blocks that had none, repeated with its period
module _ (n : ℕ) (hs : List Hold) (ts : List ℕ) (s : Sheet) (some-train : 1 ≤ length hs) (l : Leaves (fresh n) hs ts s) (few : n ≤ 32)
    (apart : WithoutOverlap n hs ts) (p : ℕ) (above_zero : 1 ≤ p) (each : (b : ℕ) → b < n → free_time s b ≤ first_begin s b + p)
    (attained : (b : ℕ) × (b < n) × (free_time s b ≡ first_begin s b + p)) where
  abbrev train : ℕ → Hold
  train k = get_or hs k empty_hold

  abbrev last : ℕ
  last = length hs - 1

  ordered : (k b : ℕ) → k < length hs → b < n → begin (train k) b < end (train k) b
  unfolding fresh
  ordered k b m i = (l.kept k m).ordered b i

  at_zero : entry ts 0 ≡ 0
  unfolding fresh
  at_zero = l.at_zero (λ b i. fresh-free n b (omega arith)) some-train

  first : (b : ℕ) → b < n → first_begin s b ≡ begin (train 0) b
  unfolding fresh
  first b i = l.first refl some-train b i

  free : (b : ℕ) → b < n → free_time s b ≡ entry ts last + end (train last) b
  unfolding fresh
  free b i = l.last last (omega arith) b i

  -- no train begins before the first one, and none ends after the last
  begins-after : (k b : ℕ) → k < length hs → b < n → first_begin s b ≤ entry ts k + begin (train k) b
  begins-after zero b m i = omega (arith, at_zero, first b i)
  begins-after (suc k) b m i = omega (arith, at_zero, first b i, ordered 0 b some-train i, apart 0 (suc k) b (omega arith) m i)

  ends-before : (k b : ℕ) → k < length hs → b < n → entry ts k + end (train k) b ≤ free_time s b
  ends-before k b m i = go (dec_lt k last)
    where
      go : Dec (k < last) → entry ts k + end (train k) b ≤ free_time s b
      go (yes d) = omega (arith, free b i, ordered last b (omega arith) i, apart k last b d (omega arith) i)
      go (no d) = let z : k ≡ last = omega arith in rw z (omega (arith, free b i))

  -- a hold ends no later than another begins
  abbrev Before : ℕ → ℕ → ℕ → ℕ → ℕ → Type 0
  Before b k r k' r' = repeated_start ts p k r + end (train k) b ≤ repeated_start ts p k' r' + begin (train k') b

  repetition-before : (b k r k' r' : ℕ) → b < n → k < length hs → k' < length hs → r < r' → Before b k r k' r'
  repetition-before b k r k' r' i m m' d =
      omega (arith, ends-before k b m i, each b i, begins-after k' b m' i, mul-le-mul_right p d, suc-mul r p)

  train-before : (b k r k' r' : ℕ) → b < n → k' < length hs → k < k' → r ≡ r' → Before b k r k' r'
  train-before b k r k' r' i m' d e = omega (arith, apart k k' b d m' i, ap (λ x. x * p) e)

  module _ (repetitions : ℕ) (o : Overlap n hs ts p repetitions) where
    abbrev b : ℕ
    b = o.block

    abbrev k : ℕ
    k = o.train

    abbrev r : ℕ
    r = o.repetition

    abbrev k' : ℕ
    k' = o.other_train

    abbrev r' : ℕ
    r' = o.other_repetition

    one_first : Before b k r k' r' → ⊥
    one_first h = omega (arith, h, o.in_one.unended, o.in_other.begun)

    other_first : Before b k' r' k r → ⊥
    other_first h = omega (arith, h, o.in_other.unended, o.in_one.begun)

    by_train : r ≡ r' → Dec (k < k') → Dec (k' < k) → ⊥
    by_train e (yes d) d' = one_first (train-before b k r k' r' o.block_within o.other_train_there d e)
    by_train e (no d) (yes d') = other_first (train-before b k' r' k r o.block_within o.train-there d' (sym e))
    by_train e (no d) (no d') = o.different (omega arith, e)

    by_repetition : Dec (r < r') → Dec (r' < r) → ⊥
    by_repetition (yes d) d' = one_first (repetition-before b k r k' r' o.block_within o.train-there o.other_train_there d)
    by_repetition (no d) (yes d') = other_first (repetition-before b k' r' k r o.block_within o.other_train_there o.train-there d')
    by_repetition (no d) (no d') = by_train (omega arith) (dec_lt k k') (dec_lt k' k)

    possible : ⊥
    possible = by_repetition (dec_lt r r') (dec_lt r' r)

  -- the last train and the first train's next repetition
  shortest : (repetitions : ℕ) → 2 ≤ repetitions → Overlap n hs ts (p - 1) repetitions
  shortest repetitions two =
      let (b, i, e) = attained in
      record {
        block = b;
        train = last;
        repetition = 0;
        other_train = 0;
        other_repetition = 1;
        time = free_time s b - 1;
        block_within = i;
        train-there = omega arith;
        repetition-there = omega arith;
        other_train_there = some-train;
        other_repetition_there = two;
        different = λ same. absurd (omega (arith, same.1));
        in_one =
            record {
              begun = omega (arith, free b i, ordered last b (omega arith) i);
              unended = omega (arith, free b i, ordered last b (omega arith) i);
            };
        in_other =
            record {
              begun = omega (arith, e, at_zero, first b i);
              unended = omega (arith, e, at_zero, first b i, ordered 0 b some-train i);
            };
      }

  repeats : ShortestPeriod n hs ts p
  repeats = record { above_zero = above_zero; possible = possible; shortest = shortest }

-- a list of adding calls from a fresh sheet
module _ (n : ℕ) (low : 1 ≤ n) (high : n ≤ 32) (calls : List Hold) where
  abbrev left : Sheet
  left = left_by (fresh n) calls

  abbrev got : List Answer
  got = answers (fresh n) calls

  from_fresh : 1 ≤ length (starts got) → ((period_answer left).number ≡ 0) × ShortestPeriod n (trains calls got) (starts got) (period_answer left).period
  unfolding fresh
  from_fresh m =
      let ok : Sound (fresh n) = sound_fresh n low high in
      let l = leaves (fresh n) ok calls in
      let demand = third_demand n low high calls in
      let r : Rule12 left = (sound_left (fresh n) ok calls).keeps in
      let some-train : 1 ≤ length (trains calls got) = omega (arith, demand.as_many) in
      let with-trains : 1 ≤ left.trains = omega (arith, l.count) in
      let count : left.blocks ≡ n = blocks-left (fresh n) calls in
      let (b, i, e) = period-attained left r with-trains in
      rw ((period-number left).1 r) (
        refl,
        repeats n (trains calls got) (starts got) left some-train l high demand.apart (period left) (omega (arith, e, r.first_below with-trains b i))
            (λ b i. period-each left r b (rw count i)) (b, omega (arith, i, count), e),
      )

hour_pattern : (s : Sheet) → HourPattern s (period_answer s)
hour_pattern s n calls o e =
    let c = opened-count n o in
    let (low, high) = within_means 1 32 n c in
    rw (← e, opened-fresh n c) (from_fresh n low high calls)

-- the claim for an answer that is known by its equation
pub answer_told : (s : Sheet) {a : PeriodAnswer} → a ≡ period_answer s → (a ≡ period_answer s) × HourPattern s a
answer_told s e = (e, rw e (hour_pattern s))
