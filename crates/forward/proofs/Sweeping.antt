-- The forward sweep, one point after the other. Assumes nothing.
use Prim.Native.Nat.{ℕ, zero, suc, ◌+◌, ◌≤◌, min}
use mathlib.Core.Bool.{Bool, true, false, cond}
use mathlib.Core.Path.{◌≡◌, refl, ◌∙◌}
use native.Mathlib.Nat.{le_trans}
use native.Mathlib.Omega.{arith}
use Rattle.rules.specs.Line.{Line, Train}
use Rattle.rules.specs.Run.{squared, last_top, listed, cap_speed, cap_of, cap, traction_step, forward_sweep, forward}
use Rattle.rules.specs.Admitted.{Admitted}
use Rattle.rules.proofs.Step.{step_mono, step_keeps, squared-most, last_top-most}
use Rattle.rules.proofs.Cap.{cap-top}
use Rattle.caps.specs.declared.Course.{Course}
use Rattle.caps.proofs.Walk.{IsCourse}
use Rattle.forward.specs.declared.bands.Bands.{Bands}
use Rattle.forward.specs.Stretch.{Before}
use Rattle.forward.specs.Traction.{IsBands}

-- this course and these bands are those of a train on a line, and the sweep ends on it
pub record OnCourse (l : Line) (t : Train) (c : Course) (b : Bands) (end : ℕ) : Type 0 where
  pub admitted : Admitted l t
  pub course : IsCourse l t c
  pub bands : IsBands l t b.count b.gains b.squares
  pub on_line : end ≤ l.points

pub before-start : (l : Line) (t : Train) → Before l t 0 900000000
before-start l t = record { at-start = λ e. refl; later = λ j e. absurd (omega arith) }

pub before_next : (l : Line) (t : Train) (i : ℕ) {w : ℕ} → w ≡ forward l t i → Before l t (i + 1) w
before_next l t i q =
    record { at-start = λ e. absurd (omega arith); later = λ j e. let z : i ≡ j = omega arith in rw z at q }

module _ (l : Line) (t : Train) (a : Admitted l t) where
  -- from 900,000,000 the step reaches the last band's top
  above-cap : cap l t 0 ≤ traction_step l t 900000000
  above-cap =
      le_trans (cap-top l t 0)
      (le_trans (step_keeps l t a (squared (last_top t)) (omega arith)) (step_mono l t (squared-most (last_top-most l t a))))

  pub forward-at : (i : ℕ) {w c s v : ℕ} → Before l t i w → c ≡ cap l t i → s ≡ traction_step l t w → v ≡ min c s → v ≡ forward l t i
  unfolding forward forward_sweep
  forward-at zero b p q r = r ∙ rw (p, q, b.at-start refl) (omega (arith, above-cap))
  forward-at (suc i) b p q r = r ∙ rw (p, q, b.later i refl)

  -- the cap by the cap speed and the stops
  pub cap-at : (i : ℕ) {lowest : ℕ} {b : Bool} {v : ℕ} → lowest ≡ cap_speed l t i → b ≡ listed i t.stops → v ≡ cond b 0 (squared lowest) → v ≡ cap l t i
  unfolding cap cap_of
  cap-at i u e q = q ∙ rw (e, u)

-- a cap is at most the square of its speed
pub capped-most : (b : Bool) {c m : ℕ} → c ≡ cond b 0 m → c ≤ m
capped-most true e = omega arith
capped-most false e = omega arith
