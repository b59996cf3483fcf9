-- Laws of a train's decoded bands and of the traction step by them. Assumes nothing.
use Prim.Native.Nat.{ℕ, zero, suc, ◌+◌, ◌-◌, ◌≤◌, ◌<◌, min}
use mathlib.Core.List.{List, [], ◌∷◌}
use mathlib.Core.Path.{◌≡◌, refl, sym, ap, ◌∙◌}
use native.Mathlib.Decide.{dec_lt}
use native.Mathlib.Nat.{le_antisymm, le_refl, le_trans, add-zero}
use native.Mathlib.Omega.{arith}
use lib.ListN.{length, take}
use lib.Seq.{length-take-le, get_or-take}
use Rattle.rules.specs.Count.{entry, row, greatest_below}
use Rattle.rules.specs.Line.{Line, Train}
use Rattle.rules.specs.Run.{squared, change, last_or, last_top, traction_step}
use Rattle.rules.specs.Admitted.{Admitted}
use Rattle.rules.specs.Meaning.{band_part}
use Rattle.rules.proofs.Count.{below_suc, at_most-greatest, greatest-at_most, length-row, entry_row}
use Rattle.rules.proofs.Step.{change-most, squared_mono, squared-most, last-top, step_is}
use Rattle.rules.proofs.Fill.{Filled}
use Rattle.values.specs.Values.{as_line, as_train}
use Rattle.values.specs.declared.decoded.Line as decoded_line
use Rattle.values.specs.declared.decoded.Train as decoded
use Rattle.forward.specs.Traction.{Falls, IsBands, BandBounds}

-- ---- the last band

last-at : (v : ℕ) (vs : List ℕ) → 1 ≤ length vs → last_or v vs ≡ entry vs (length vs - 1)
unfolding last_or
last-at v [] h = absurd (omega arith)
last-at v (u ∷ []) h = refl
last-at v (u ∷ w ∷ vs) h =
    let z : length (u ∷ w ∷ vs) - 1 ≡ suc (length (w ∷ vs) - 1) = omega arith in
    rw z (last-at u (w ∷ vs) (omega arith))

pub last_of_row : (f : ℕ → ℕ) (n : ℕ) → 1 ≤ n → last_or 0 (row f n) ≡ f (n - 1)
last_of_row f n h =
    last-at 0 (row f n) (rw length-row h) ∙ ap (λ (k : ℕ). entry (row f n) (k - 1)) (length-row f n) ∙ entry_row f n (n - 1) (omega arith)

-- ---- the bands in use of a decoded train

module _ (l : Line) (t : decoded.Train) (a : Admitted l (as_train t)) where
  pub count-least : 1 ≤ t.band_count
  count-least = omega (arith, length-row (entry t.tops) t.band_count)

  pub count_most : t.band_count ≤ 8
  count_most = omega (arith, length-row (entry t.tops) t.band_count)

  pub rate_most : (k : ℕ) → k < t.band_count → entry t.rates k ≤ 200
  rate_most k h = rw entry_row at (a.rule7.rate_most k (rw length-row h))

  pub top-most : (k : ℕ) → k < t.band_count → entry t.tops k ≤ 300
  top-most k h = rw entry_row at (a.rule7.top-most k (rw length-row h))

-- two arrays filled with the gains and the squares hold the bands
pub bands_are :
    (line : decoded_line.Line) (train : decoded.Train) {k : ℕ} {gains₀ gains squares₀ squares : List ℕ} → train.band_count ≤ k →
    Filled (λ j. change (entry train.rates j) line.step) 0 k gains₀ gains → Filled (λ j. squared (entry train.tops j)) 0 k squares₀ squares →
    IsBands (as_line line) (as_train train) train.band_count gains squares
bands_are line train m g s =
    record {
      count_is = sym (length-row _ _);
      gain = λ k h. g.inside k (omega arith) (omega arith) ∙ ap (λ (r : ℕ). change r line.step) (sym (entry_row _ _ k h));
      square = λ k h. s.inside k (omega arith) (omega arith) ∙ ap squared (sym (entry_row _ _ k h));
    }

-- ---- the traction step

-- one band more that does not reach above w, and one more that gains no more than the one before it
pub passed_more : (squares : List ℕ) {w n : ℕ} → ((j : ℕ) → j < n → entry squares j ≤ w) → entry squares n ≤ w → (j : ℕ) → j < n + 1 → entry squares j ≤ w
passed_more squares {w} {n} all here j h = below_suc (λ j. entry squares j ≤ w) n all here j (omega arith)

-- of the gains in use
pub falls_taken : (gains : List ℕ) (count : ℕ) → count ≤ length gains → Falls (length (take count gains)) (take count gains) → Falls count gains
falls_taken gains count h falls k l =
    let long : length (take count gains) ≡ count = length-take-le count gains h in
    rw (get_or-take count gains k 0 (omega arith), get_or-take count gains (suc k) 0 l) at (falls k (omega arith))

-- of gains that fall, that of an earlier band is the greater
falls_far : (gains : List ℕ) (count : ℕ) → Falls count gains → (j d : ℕ) → j + d < count → entry gains (j + d) ≤ entry gains j
falls_far gains count falls j zero h = rw add-zero (le_refl _)
falls_far gains count falls j (suc d) h =
    let e : j + suc d ≡ suc (j + d) = omega arith in
    rw e (le_trans (falls (j + d) (omega arith)) (falls_far gains count falls j d (omega arith)))

-- the first band with its top above w gives the step where the gains fall and it does not pass this top
pub band_gives :
    (count : ℕ) (gains squares : List ℕ) (w band : ℕ) → Falls count gains → band < count → ((k : ℕ) → k < band → entry squares k ≤ w) →
    w + entry gains band ≤ entry squares band → w + entry gains band ≡ greatest_below count (λ k. min (w + entry gains k) (entry squares k))
band_gives count gains squares w band falls h passed room =
    le_antisymm (omega (arith, at_most-greatest count part band h)) (greatest-at_most count part (w + entry gains band) (λ k l. part_most k l (dec_lt k band)))
  where
    part : ℕ → ℕ
    part k = min (w + entry gains k) (entry squares k)

    part_most : (k : ℕ) → k < count → Dec (k < band) → part k ≤ w + entry gains band
    part_most k l (yes b) = omega (arith, passed k b)
    part_most k l (no b) =
        let e : band + (k - band) ≡ k = omega arith in
        omega (arith, ap (entry gains) e, falls_far gains count falls band (k - band) (omega arith))

-- a cap at most w and the last band's most is at most the step from w
pub cap_reached :
    (count : ℕ) (gains squares : List ℕ) (w c : ℕ) → 1 ≤ count → c ≤ w → c ≤ entry squares (count - 1) →
    c ≡ min c (greatest_below count (λ k. min (w + entry gains k) (entry squares k)))
cap_reached count gains squares w c h p q =
    omega (arith, at_most-greatest count (λ k. min (w + entry gains k) (entry squares k)) (count - 1) (omega arith))

module _ (l : Line) (t : Train) (a : Admitted l t) {count : ℕ} {gains squares : List ℕ} (h : IsBands l t count gains squares) where
  pub bands_bounded : BandBounds count gains squares
  bands_bounded =
      record {
        count_most = omega arith;
        gain-most = λ k m. rw (h.gain k m) (change-most 200 (a.rule7.rate_most k (omega arith)) a.rule3_line.step-most);
        square-most = λ k m. rw (h.square k m) (squared-most (a.rule7.top-most k (omega arith)));
        squares_rise = λ k m. rw (h.square k (omega arith), h.square (suc k) m) (squared_mono (omega (arith, a.rule7.rise k (omega arith))));
      }

  part_is : (w k : ℕ) → k < count → min (w + entry gains k) (entry squares k) ≡ band_part l t w k
  unfolding change squared
  part_is w k m = rw (h.gain k m, h.square k m)

  pub traction_is : (w : ℕ) → greatest_below count (λ k. min (w + entry gains k) (entry squares k)) ≡ traction_step l t w
  traction_is w =
      let part : ℕ → ℕ = λ k. min (w + entry gains k) (entry squares k) in
      let (k, m, e) = (step_is l t a w).attained in
      le_antisymm (greatest-at_most count part (traction_step l t w) (λ k m. omega (arith, part_is w k m, (step_is l t a w).each k (omega arith))))
      (omega (arith, part_is w k (omega arith), at_most-greatest count part k (omega arith)))

  -- the last band's most is the square of 100 times its top
  pub last-most : (1 ≤ count) × (entry squares (count - 1) ≡ squared (last_top t))
  last-most =
      let n : 1 ≤ count = omega (arith, h.count_is) in
      (n, h.square (count - 1) (omega arith) ∙ ap squared (rw h.count_is (sym (last-top l t a))))
