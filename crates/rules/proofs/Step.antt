-- Laws of the braking loss, of the last band's top and of the traction step. Assumes nothing.
use Prim.Native.Nat.{ℕ, zero, suc, ◌-◌, ◌*◌, ◌≤◌, ◌<◌}
use mathlib.Core.List.{List, [], ◌∷◌}
use mathlib.Core.Path.{◌≡◌, refl, ap, ◌∙◌}
use native.Mathlib.Decide.{dec_le}
use native.Mathlib.Nat.{mul-le-mul, mul-le-mul_left, mul-le-mul_right, le-mul_of_pos_right, suc_inj}
use native.Mathlib.Omega.{arith}
use lib.ListN.{length}
use Rattle.rules.specs.Count.{entry}
use Rattle.rules.specs.Line.{Line, Train, practice_rates, practice_rate}
use Rattle.rules.specs.Run.{squared, change, braking_loss, last_or, last_top, band_step, bands_step, traction_step}
use Rattle.rules.specs.Admitted.{Admitted}
use Rattle.rules.specs.Meaning.{band_part, IsStep}

-- ---- squares and changes

pub squared_mono : {v w : ℕ} → v ≤ w → squared v ≤ squared w
unfolding squared
squared_mono h = mul-le-mul (mul-le-mul_left 100 h) (mul-le-mul_left 100 h)

pub squared-least : {v : ℕ} → 1 ≤ v → 10000 ≤ squared v
unfolding squared
squared-least h = squared_mono h

pub squared-most : {v : ℕ} → v ≤ 300 → squared v ≤ 900000000
unfolding squared
squared-most h = squared_mono h

change-least : (m : ℕ) {rate L : ℕ} → m ≤ rate → 1 ≤ L → m * 2592 ≤ change rate L
unfolding change
change-least m {rate} {L} h k = let g : rate * 2592 ≤ rate * 2592 * L = le-mul_of_pos_right (rate * 2592) k in omega arith

pub change-most : (m : ℕ) {rate L : ℕ} → rate ≤ m → L ≤ 100 → change rate L ≤ m * 2592 * 100
unfolding change
change-most m h k = mul-le-mul (mul-le-mul_right 2592 h) k

-- ---- the braking loss

rate_least : (class : ℕ) → class ≤ 2 → 31 ≤ practice_rate class
rate_least zero h = omega arith
rate_least (suc zero) h = omega arith
rate_least (suc (suc zero)) h = omega arith
rate_least (suc (suc (suc n))) h = absurd (omega arith)

practice_most : (class : ℕ) → practice_rate class ≤ 60
practice_most zero = omega arith
practice_most (suc zero) = omega arith
practice_most (suc (suc zero)) = omega arith
practice_most (suc (suc (suc n))) = omega arith

pub loss_is : (l : Line) (t : Train) → braking_loss l t ≡ entry practice_rates t.class * 2592 * l.step
unfolding braking_loss change
loss_is l t = refl

pub loss_least : (l : Line) (t : Train) → Admitted l t → 2592 ≤ braking_loss l t
unfolding braking_loss
loss_least l t a = omega (arith, change-least 31 (rate_least t.class a.rule3_train.class-most) a.rule3_line.step-least)

pub loss_most : (l : Line) (t : Train) → Admitted l t → braking_loss l t ≤ 15552000
unfolding braking_loss
loss_most l t a = change-most 60 (practice_most t.class) a.rule3_line.step-most

-- ---- the bands

last_entry : (v : ℕ) (vs : List ℕ) → last_or v vs ≡ entry (v ∷ vs) (length vs)
unfolding last_or
last_entry v [] = refl
last_entry v (u ∷ vs) = last_entry u vs

module _ (L : ℕ) where
  bands_mono : (vs rs : List ℕ) {v w : ℕ} → v ≤ w → bands_step L vs rs v ≤ bands_step L vs rs w
  unfolding bands_step band_step
  bands_mono [] rs h = omega arith
  bands_mono (v ∷ vs) [] h = omega arith
  bands_mono (v ∷ vs) (r ∷ rs) h = omega (arith, bands_mono vs rs h)

  bands-each : (w : ℕ) (vs rs : List ℕ) → length vs ≡ length rs → (k : ℕ) → k < length vs → band_step L (entry vs k) (entry rs k) w ≤ bands_step L vs rs w
  unfolding bands_step
  bands-each w [] rs e k h = absurd (omega arith)
  bands-each w (v ∷ vs) [] e k h = absurd (omega arith)
  bands-each w (v ∷ vs) (r ∷ rs) e zero h = omega arith
  bands-each w (v ∷ vs) (r ∷ rs) e (suc k) h = omega (arith, bands-each w vs rs (suc_inj e) k (omega arith))

  -- a greatest part above 0 is one of the parts
  abbrev Attained : ℕ → List ℕ → List ℕ → Type 0
  Attained w vs rs = (k : ℕ) × (k < length vs) × (bands_step L vs rs w ≡ band_step L (entry vs k) (entry rs k) w)

  bands-attained : (w : ℕ) (vs rs : List ℕ) → 0 < bands_step L vs rs w → Attained w vs rs
  unfolding bands_step
  bands-attained w [] rs h = absurd (omega arith)
  bands-attained w (v ∷ vs) [] h = absurd (omega arith)
  bands-attained w (v ∷ vs) (r ∷ rs) h = go (dec_le (bands_step L vs rs w) (band_step L v r w)) (bands-attained w vs rs)
    where
      go : Dec (bands_step L vs rs w ≤ band_step L v r w) → (0 < bands_step L vs rs w → Attained w vs rs) → Attained w (v ∷ vs) (r ∷ rs)
      go (yes g) f = (0, omega arith, omega arith)
      go (no g) f = let (k, p, e) = f (omega arith) in (suc k, omega arith, omega arith)

pub step_mono : (l : Line) (t : Train) {v w : ℕ} → v ≤ w → traction_step l t v ≤ traction_step l t w
unfolding traction_step
step_mono l t h = bands_mono l.step t.tops t.rates h

-- ---- the traction step of an admitted train

module _ (l : Line) (t : Train) (a : Admitted l t) where
  pub last-top : last_top t ≡ entry t.tops (length t.tops - 1)
  last-top =
      let e : length t.tops ≡ suc (length t.tops - 1) = omega arith in
      last_entry 0 t.tops ∙ ap (entry (0 ∷ t.tops)) e

  pub last_top-least : 1 ≤ last_top t
  last_top-least = rw last-top (a.rule7.top_least (length t.tops - 1) (omega arith))

  pub last_top-most : last_top t ≤ 300
  last_top-most = rw last-top (a.rule7.top-most (length t.tops - 1) (omega arith))

  step-each : (w k : ℕ) → k < length t.tops → band_part l t w k ≤ traction_step l t w
  unfolding traction_step band_step change squared
  step-each w = bands-each l.step w t.tops t.rates a.parallel.bands

  pub step-least : (w : ℕ) → 2592 ≤ traction_step l t w
  unfolding change squared
  step-least w =
      omega (
        arith,
        step-each w 0 (omega arith),
        change-least 1 (a.rule7.rate_least 0 (omega arith)) a.rule3_line.step-least,
        squared-least (a.rule7.top_least 0 (omega arith)),
      )

  pub step_is : (w : ℕ) → IsStep l t w (traction_step l t w)
  unfolding traction_step band_step change squared
  step_is w =
      record { each = step-each w; attained = bands-attained l.step w t.tops t.rates (omega (arith, step-least w)) }

  -- a squared speed within the last band can be kept
  pub step_keeps : (w : ℕ) → w ≤ squared (last_top t) → w ≤ traction_step l t w
  unfolding squared
  step_keeps w h =
      let g : w ≤ squared (entry t.tops (length t.tops - 1)) = rw last-top at h in
      omega (arith, step-each w (length t.tops - 1) (omega arith))
