-- Laws of cell times, dwells, arrivals and departures; no permitted rival arrives before the run. Assumes nothing.
use Prim.Native.Nat.{ℕ, zero, suc, ◌+◌, ◌*◌, ◌^◌, ◌≤◌, ◌<◌}
use mathlib.Core.Bool.{Bool, true, false, cond, ◌||◌, or-true}
use mathlib.Core.List.{List, [], ◌∷◌}
use mathlib.Core.Logic.{◌⊎◌, ⊎_elim}
use mathlib.Core.Path.{◌≡◌, refl, sym}
use native.Mathlib.Nat.{le_refl, eq-or-lt_of_le, le_of_suc-le-suc, suc_inj, lt_of_not-le}
use native.Mathlib.Omega.{arith}
use lib.Dec.{eqb}
use lib.ListN.{length}
use borrow.Author.Tests.{eq-eqb, ne_eqb}
use Rattle.rules.specs.Count.{entry}
use Rattle.rules.specs.Line.{Line, Train}
use Rattle.rules.specs.Run.{run_row}
use Rattle.rules.specs.Time.{root, cell_time, dwell_from, dwell, arrival, departure, arrivals, run_times, Reaches, FastestRun}
use Rattle.rules.specs.Admitted.{Admitted}
use Rattle.rules.specs.Meaning.{IsRoundedUp, IsStop, IsDwell}
use Rattle.rules.proofs.Count.{rises_far, length-row, entry_row, rounded_up, ceil_antitone}
use Rattle.rules.proofs.Cap.{stops-rise, find_stop}
use Rattle.rules.proofs.Run.{run_is, run_moves, no_two_zeros}
use Rattle.rules.proofs.Root.{root_mono, root-least}

-- ---- cell times

pub cell_time_is : (L p q : ℕ) → 0 < p + q → IsRoundedUp (720000000 * L) (p + q) (cell_time L p q)
unfolding cell_time
cell_time_is L p q h = rounded_up (720000000 * L) h

-- greater roots, a shorter time
pub time_antitone : (L : ℕ) {p q p' q' : ℕ} → 0 < p + q → p ≤ p' → q ≤ q' → cell_time L p' q' ≤ cell_time L p q
unfolding cell_time
time_antitone L {p} {q} {p'} {q'} h k m = ceil_antitone (720000000 * L) h (omega arith)

-- ---- dwells

dwell-at : (ss ds : List ℕ) → ((k : ℕ) → suc k < length ss → entry ss k + 2 ≤ entry ss (suc k)) → length ss ≡ length ds → (k : ℕ) → k < length ss →
    dwell_from ss ds (entry ss k) ≡ entry ds k
unfolding dwell_from
dwell-at [] ds r e k h = absurd (omega arith)
dwell-at (s ∷ ss) [] r e k h = absurd (omega arith)
dwell-at (s ∷ ss) (d ∷ ds) r e zero h = rw (eq-eqb s s refl)
dwell-at (s ∷ ss) (d ∷ ds) r e (suc k) h =
    let g : entry ss k ≡ s → ⊥ = λ q. omega (
      arith,
      r 0 (omega arith),
      rises_far (entry (s ∷ ss)) (suc (length ss)) (λ j m. omega (arith, r j m)) 1 (suc k)
          (omega arith) h,
    ) in
    rw (ne_eqb (entry ss k) s g) (dwell-at ss ds (λ j m. r (suc j) (omega arith)) (suc_inj e) k (omega arith))

pub dwell-none : (ss ds : List ℕ) (i : ℕ) → ((k : ℕ) → k < length ss → entry ss k ≡ i → ⊥) → dwell_from ss ds i ≡ 0
unfolding dwell_from
dwell-none [] ds i h = refl
dwell-none (s ∷ ss) [] i h = refl
dwell-none (s ∷ ss) (d ∷ ds) i h = rw (ne_eqb i s (λ e. h 0 (omega arith) (sym e))) (dwell-none ss ds i (λ k g. h (suc k) (omega arith)))

pub cond_zero : (b : Bool) → ◌≡◌ {A = ℕ} (cond b 0 0) 0
cond_zero true = refl
cond_zero false = refl

pub dwell_is : (l : Line) (t : Train) → Admitted l t → (i : ℕ) → IsDwell l t i (dwell l t i)
unfolding dwell
dwell_is l t a i =
    record {
      at_stop = λ k s p q.
          let beside : dwell_from t.stops t.dwells i ≡ entry t.dwells k =
          rw (← s.here) (dwell-at t.stops t.dwells a.rule8.apart a.parallel.stops k s.there) in
          rw (ne_eqb i 0 (λ e. omega arith), ne_eqb (suc i) l.points (λ e. omega arith), beside);
      elsewhere = λ h. rw (dwell-none t.stops t.dwells i (λ k g e. h k (record { there = g; here = e })))
          (cond_zero (eqb i 0 || eqb (suc i) l.points));
      first = λ e. rw (eq-eqb i 0 e);
      last = λ e. rw (eq-eqb (suc i) l.points e, or-true);
    }

-- ---- arrivals and departures

module _ (l : Line) (t : Train) (speeds : List ℕ) where
  pub arrival-first : arrival l t speeds 0 ≡ 0
  unfolding arrival
  arrival-first = refl

  pub departure_is : (i : ℕ) → departure l t speeds i ≡ arrival l t speeds i + dwell l t i
  unfolding departure
  departure_is i = refl

  pub arrival_next :
      (i : ℕ) →
      arrival l t speeds (suc i) ≡ departure l t speeds i + cell_time l.step (root (entry speeds i)).number (root (entry speeds (suc i))).number
  unfolding arrival departure
  arrival_next i = refl

  pub departs_before : (i j : ℕ) → i < j → departure l t speeds i ≤ arrival l t speeds j
  unfolding arrival departure
  departs_before i zero h = absurd (omega arith)
  departs_before i (suc j) h =
      ⊎_elim (λ e. rw e (omega arith)) (λ g. omega (arith, departs_before i j g)) (eq-or-lt_of_le (le_of_suc-le-suc h))

pub length_times : (l : Line) (t : Train) → length (run_times l t) ≡ l.points
unfolding arrivals
length_times l t = length-row (arrival l t (run_row l t)) l.points

pub entry_times : (l : Line) (t : Train) (i : ℕ) → i < l.points → entry (run_times l t) i ≡ arrival l t (run_row l t) i
unfolding arrivals
entry_times l t i h = entry_row (arrival l t (run_row l t)) l.points i h

-- ---- a faster row arrives no later

-- where not both squared speeds are 0, not both roots are
roots_above_zero : (x y : ℕ) → ((x ≡ 0) × (y ≡ 0) → ⊥) → 0 < (root x).number + (root y).number
roots_above_zero zero zero h = absurd (h (refl, refl))
roots_above_zero zero (suc y) h = omega (arith, root-least 1 {w = suc y} (omega arith))
roots_above_zero (suc x) y h = omega (arith, root-least 1 {w = suc x} (omega arith))

module _ (l : Line) (t : Train) where
  faster : (slow fast : List ℕ) → ((i : ℕ) → i < l.points → entry slow i ≤ entry fast i) → (i : ℕ) → i < l.points → Reaches slow i →
      arrival l t fast i ≤ arrival l t slow i
  unfolding arrival
  faster slow fast g zero h r = le_refl 0
  faster slow fast g (suc i) h r =
      omega (
        arith,
        faster slow fast g i (omega arith) (λ j k. r j (omega arith)),
        time_antitone l.step (roots_above_zero (entry slow i) (entry slow (suc i)) (r i (omega arith))) (root_mono (g i (omega arith)))
            (root_mono (g (suc i) h)),
      )

  module _ (a : Admitted l t) where
    pub fastest : FastestRun l t (run_row l t) (run_times l t)
    fastest =
        record {
          is_run = run_is l t a;
          timed = refl;
          none_before = λ rival p i h r. rw (entry_times l t i h) (faster rival (run_row l t) ((run_is l t a).greatest rival p) i h r);
        }

    pub run_reaches : (i : ℕ) → i < l.points → Reaches (run_row l t) i
    run_reaches i h j k = no_two_zeros l t a j (omega arith)

    -- ---- the run arrives in time

    time-most : (x y : ℕ) → (2592 ≤ x) ⊎ (2592 ≤ y) → cell_time l.step (root x).number (root y).number ≤ 1440000000
    time-most x y h =
        let g : 50 ≤ (root x).number + (root y).number = ⊎_elim (λ m. omega (arith, root-least 50 {w = x} (omega arith)))
        (λ m. omega (arith, root-least 50 {w = y} (omega arith))) h in
        (cell_time_is l.step (root x).number (root y).number (omega arith)).least 1440000000 (omega arith)

    dwell-most : (i k : ℕ) → IsStop t k i → suc i < l.points → dwell l t i ≤ 3600000000
    dwell-most zero k s h = omega (arith, (dwell_is l t a 0).first refl)
    dwell-most (suc i) k s h = omega (arith, (dwell_is l t a (suc i)).at_stop k s (omega arith) h, a.rule8.dwell-most k (omega arith))

    -- 1440 seconds for each cell and an hour for each of the first n stops, where the others are not yet passed
    arrival_by : (i : ℕ) → i < l.points → (n : ℕ) → ((k : ℕ) → n ≤ k → k < length t.stops → i ≤ entry t.stops k) →
        arrival l t (run_row l t) i ≤ 1440000000 * i + 3600000000 * n
    unfolding arrival
    arrival_by zero h n f = omega arith
    arrival_by (suc i) h n f =
        let cell : cell_time l.step (root (entry (run_row l t) i)).number (root (entry (run_row l t) (suc i))).number ≤ 1440000000 =
        time-most _ _ (run_moves l t a i h) in
        ⊎_elim
        (λ (k, s). let g : k < n = lt_of_not-le (λ m. omega (arith, f k m s.there)) in
        omega (arith, arrival_by i (omega arith) k (λ j m q. omega (arith, stops-rise l t a k j m q)), dwell-most i k s h))
        (λ none. omega (arith, arrival_by i (omega arith) n (λ j m q. omega (arith, f j m q)), (dwell_is l t a i).elsewhere none))
        (find_stop t i)

    pub arrival-most : (i : ℕ) → i < l.points → arrival l t (run_row l t) i < 2 ^ 43
    arrival-most i h = omega (arith, arrival_by i h (length t.stops) (λ k p q. absurd (omega arith)))
