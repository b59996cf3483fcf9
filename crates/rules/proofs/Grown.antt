-- Laws of the grown length: the latest balise, the distance from it, and the rear of the train, which never moves back. Assumes nothing.
use Prim.Native.Nat.{ℕ, zero, suc, ◌+◌, ◌-◌, ◌*◌, ◌≤◌, ◌<◌}
use mathlib.Core.Bool.{Bool}
use mathlib.Core.Logic.{◌↔◌, ◌⊎◌, inl, inr, ⊎_elim}
use mathlib.Core.Option.{none, some}
use mathlib.Core.Path.{◌≡◌}
use native.Mathlib.Nat.{le_antisymm, le_of_mul-le-mul_right, mul-le-mul_right, add-mul, zero-mul, suc-mul}
use native.Mathlib.Omega.{arith}
use lib.Dec.{leb}
use lib.ListN.{length}
use borrow.Author.Tests.{leb-true, leb-false, le-leb, lt-leb}
use Rattle.rules.specs.Count.{ceil_div}
use Rattle.rules.specs.Line.{Line, Train}
use Rattle.rules.specs.Run.{balise_place, latest_balise, place_or0, distance, grown_length, grown_cells}
use Rattle.rules.specs.Admitted.{Admitted}
use Rattle.rules.specs.Meaning.{IsRoundedUp, IsDistance, IsGrownCells}
use Rattle.rules.proofs.Count.{rises_far, last_passes, last_none, find_first, rounded_up}

-- the rear of the grown train, in m from point 0
abbrev pub rear : Line → Train → ℕ → ℕ
rear l t i = i * l.step - grown_length l t i

-- the place from which the distance runs
abbrev pub distance_from : Line → ℕ → ℕ
distance_from l i = place_or0 l (latest_balise l i)

-- balise k is the last in the list at or before the head
pub record LastPassed (l : Line) (i k : ℕ) : Type 0 where
  pub found : latest_balise l i ≡ some k
  pub there : k < length l.balise_points
  pub passed : balise_place l k ≤ i * l.step
  pub last : (j : ℕ) → j < length l.balise_points → balise_place l j ≤ i * l.step → j ≤ k

-- no balise is at or before the head
pub record NonePassed (l : Line) (i : ℕ) : Type 0 where
  pub found : latest_balise l i ≡ none
  pub ahead : (j : ℕ) → j < length l.balise_points → i * l.step < balise_place l j

module _ (l : Line) (i : ℕ) where
  abbrev test : ℕ → Bool
  test k = leb (balise_place l k) (i * l.step)

  pub last-passed : (k : ℕ) → k < length l.balise_points → balise_place l k ≤ i * l.step → (j : ℕ) × LastPassed l i j
  unfolding latest_balise
  last-passed k h m =
      let (j, f) = last_passes (length l.balise_points) test k h (le-leb _ _ m) in
      (j, record { found = f.found; there = f.there; passed = leb-true _ _ f.passes; last = λ p q r. f.last p q (le-leb _ _ r) })

  pub none_passed : ((k : ℕ) → k < length l.balise_points → i * l.step < balise_place l k) → latest_balise l i ≡ none
  unfolding latest_balise
  none_passed h = last_none (length l.balise_points) test (λ k m. lt-leb _ _ (h k m))

  pub passed_cases : ((k : ℕ) × LastPassed l i k) ⊎ NonePassed l i
  passed_cases =
      ⊎_elim
      (λ none. let ahead : (k : ℕ) → k < length l.balise_points → i * l.step < balise_place l k = λ k m. leb-false _ _ (none k m) in
      inr (record { found = none_passed ahead; ahead = ahead }))
      (λ (k, f). inl (last-passed k f.there (leb-true _ _ f.passes)))
      (find_first (length l.balise_points) test)

module _ (l : Line) (t : Train) (a : Admitted l t) where
  pub places-rise : (j k : ℕ) → j ≤ k → k < length l.balise_points → balise_place l j ≤ balise_place l k
  places-rise = rises_far (balise_place l) (length l.balise_points) (λ k h. omega (arith, a.rule15.rise k h))

  -- every balise that the head has passed lies at or before that place
  pub from_latest : (i k : ℕ) → k < length l.balise_points → balise_place l k ≤ i * l.step → balise_place l k ≤ distance_from l i
  from_latest i k h m = let (j, f) = last-passed l i k h m in rw f.found (places-rise k j (f.last k h m) f.there)

  pub distance_is : (i : ℕ) → IsDistance l i (distance l i)
  unfolding distance
  distance_is i =
      ⊎_elim
      (λ (k, f).
      let latest : (j : ℕ) → j < length l.balise_points → balise_place l j ≤ i * l.step → balise_place l j ≤ balise_place l k =
      λ j h m. places-rise j k (f.last j h m) f.there in
      record {
        from_balise = λ j b. let same : balise_place l j ≡ balise_place l k =
            le_antisymm (latest j b.there b.at_or_before) (b.latest k f.there f.passed) in
            rw (f.found, same) (omega (arith, f.passed));
        from_point_0 = λ h. absurd (h k (record { there = f.there; at_or_before = f.passed; latest = latest }));
      })
      (λ f. record {
        from_balise = λ j b. absurd (omega (arith, f.ahead j b.there, b.at_or_before));
        from_point_0 = λ h. rw f.found (omega arith);
      })
      (passed_cases l i)

  pub grown_cells_lem : (i : ℕ) → IsGrownCells l t i (grown_cells l t i)
  unfolding grown_cells grown_length
  grown_cells_lem i =
      record {
        distance = distance l i;
        growth = ceil_div (distance l i) 50;
        distance_is = distance_is i;
        growth_is = rounded_up (distance l i) (omega arith);
        cells_are = rounded_up (t.train_length + 2 + ceil_div (distance l i) 50) a.rule3_line.step-least;
      }

  -- ---- the rear of the grown train

  -- the rear is past point p exactly where its cell is
  pub rear_reaches : (i p : ℕ) → (p ≤ i - grown_cells l t i) ↔ (p * l.step ≤ rear l t i)
  unfolding grown_cells
  rear_reaches i zero = (λ h. rw zero-mul (omega arith), λ h. omega arith)
  rear_reaches i (suc p) = (
    λ h.
        let far : (suc p + grown_cells l t i) * l.step ≤ i * l.step = mul-le-mul_right l.step (omega arith) in
        omega (arith, add-mul (suc p) (grown_cells l t i) l.step, cells.enough),
    λ h.
        let there : suc p * l.step ≤ i * l.step = omega arith in
        let before : suc p ≤ i = le_of_mul-le-mul_right there a.rule3_line.step-least in
        let parts : i - suc p + suc p ≡ i = omega arith in
        let left : grown_length l t i ≤ (i - suc p) * l.step =
        omega (arith, rw parts at (add-mul (i - suc p) (suc p) l.step), suc-mul p l.step, a.rule3_line.step-least) in
        omega (arith, cells.least (i - suc p) left),
  )
    where
      cells : IsRoundedUp (grown_length l t i) l.step (grown_cells l t i)
      cells = unfold grown_cells in rounded_up (grown_length l t i) a.rule3_line.step-least

  -- from one point to the next it does not move back
  rear_on : (i : ℕ) → rear l t i ≤ rear l t (suc i)
  unfolding grown_length distance
  rear_on i =
      let from : distance_from l i ≤ distance_from l (suc i) = from_on in
      let grown : ceil_div (distance l (suc i)) 50 ≤ ceil_div (distance l i) 50 + l.step =
      (rounded_up (distance l (suc i)) {b = 50} (omega arith)).least (ceil_div (distance l i) 50 + l.step)
      (omega (arith, suc-mul i l.step, (rounded_up (distance l i) {b = 50} (omega arith)).enough)) in
      omega (arith, suc-mul i l.step)
    where
      from_on : distance_from l i ≤ distance_from l (suc i)
      from_on =
          ⊎_elim (λ (k, f). rw f.found (from_latest (suc i) k f.there (omega (arith, suc-mul i l.step, f.passed))))
          (λ f. rw f.found (omega arith)) (passed_cases l i)

  pub rear_far : (i j : ℕ) → i ≤ j → rear l t i ≤ rear l t j
  rear_far i j h = rises_far (rear l t) (suc j) (λ k m. rear_on k) i j h (omega arith)
