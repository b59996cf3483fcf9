-- Approach points and hold records are what the paper says, and a hold from an accepted file never breaks rule 14. Assumes nothing.
use Prim.Native.Nat.{ℕ, zero, suc, ◌+◌, ◌-◌, ◌*◌, ◌≤◌, ◌<◌}
use mathlib.Core.Bool.{Bool}
use mathlib.Core.List.{List}
use mathlib.Core.Logic.{◌⊎◌, inl, inr}
use mathlib.Core.Path.{◌≡◌, refl, sym, ap, ◌∙◌}
use native.Mathlib.Decide.{dec_lt}
use native.Mathlib.Nat.{mul-suc, eq-or-lt_of_le, le_of_suc-le-suc}
use native.Mathlib.Omega.{arith}
use lib.Dec.{leb}
use lib.ListN.{length}
use borrow.Author.Tests.{leb-true, le-leb, lt-leb}
use Rattle.rules.specs.Count.{entry, or_zero}
use Rattle.rules.specs.File.{set_up_time, release_time, train_count}
use Rattle.rules.specs.Line.{Line, Train, line_of, train_of}
use Rattle.rules.specs.Run.{braking_loss, train_cells, run_row}
use Rattle.rules.specs.Hold.{approach_point, hold_begin, hold_end, hold_with, hold_of}
use Rattle.rules.specs.Calls.{file_refusal}
use Rattle.rules.specs.Admitted.{Admitted, Rule14}
use Rattle.rules.specs.Meaning.{Brakes, IsApproachPoint, IsHold}
use Rattle.rules.proofs.Count.{rises_far, last_passes, last_none, last-at_most, last_agree}
use Rattle.rules.proofs.Fill.{padded-within, padded-beyond}
use Rattle.rules.proofs.Accepted.{admitted}
use Rattle.rules.proofs.Time.{departs_before, arrival-most}

-- ---- the approach point

module _ (speeds : List ℕ) (loss b : ℕ) where
  -- point i qualifies
  abbrev brakes : ℕ → Bool
  brakes i = leb (entry speeds i) (loss * (b - i))

  pub approach_is : IsApproachPoint speeds loss b (approach_point speeds loss b)
  unfolding approach_point
  approach_is =
      record {
        at_most = omega (arith, last-at_most (suc b) brakes);
        greatest = λ i h.
            let near : i < suc b = omega (arith, h.before) in
            let slow = le-leb (entry speeds i) (loss * (b - i)) h.slow in
            let (j, f) = last_passes (suc b) brakes i near slow in
            rw f.found (record { before = omega (arith, f.there); slow = leb-true _ _ f.passes }, f.last i near slow);
        none = λ h.
            rw (last_none (suc b) brakes (λ i l. lt-leb (entry speeds i) (loss * (b - i)) (fast h i l (dec_lt (loss * (b - i)) (entry speeds i)))));
      }
    where
      fast : ((i : ℕ) → Brakes speeds loss b i → ⊥) → (i : ℕ) → i < suc b → Dec (loss * (b - i) < entry speeds i) → loss * (b - i) < entry speeds i
      fast h i l (yes g) = g
      fast h i l (no g) = absurd (h i (record { before = omega arith; slow = omega arith }))

  -- a point whose successors up to b are all too fast, and which itself brakes in time or is point 0
  pub approach_at :
      (i : ℕ) → i ≤ b → (0 < i → entry speeds i ≤ loss * (b - i)) → ((k : ℕ) → i < k → k ≤ b → loss * (b - k) < entry speeds k) →
      i ≡ approach_point speeds loss b
  approach_at i l slow fast = go (dec_lt (loss * (b - i)) (entry speeds i))
    where
      first : loss * (b - i) < entry speeds i → Dec (0 < i) → i ≡ 0
      first g (yes m) = absurd (omega (arith, slow m))
      first g (no m) = omega arith

      none : i ≡ 0 → loss * (b - i) < entry speeds i → (k : ℕ) → Brakes speeds loss b k → Dec (i < k) → ⊥
      none z g k h (yes m) = omega (arith, fast k m h.before, h.slow)
      none z g k h (no m) =
          let e : k ≡ i = omega arith in
          let slow : entry speeds i ≤ loss * (b - i) = rw e at h.slow in
          omega arith

      last : (a : ℕ) → Brakes speeds loss b a → i ≤ a → Dec (i < a) → i ≡ a
      last a h m (yes n) = absurd (omega (arith, fast a n h.before, h.slow))
      last a h m (no n) = omega arith

      go : Dec (loss * (b - i) < entry speeds i) → i ≡ approach_point speeds loss b
      go (yes g) = let z = first g (dec_lt 0 i) in z ∙ sym (approach_is.none (λ k h. none z g k h (dec_lt i k)))
      go (no g) =
          let (h, m) = approach_is.greatest i (record { before = l; slow = omega arith }) in
          last (approach_point speeds loss b) h m (dec_lt i (approach_point speeds loss b))

  -- where braking holds, all points after one that is too fast are too fast
  pub fast_on :
      ((k : ℕ) → k < b → entry speeds k ≤ entry speeds (suc k) + loss) → {i : ℕ} → loss * (b - i) < entry speeds i → (k : ℕ) → i ≤ k → k ≤ b →
      loss * (b - k) < entry speeds k
  fast_on braked {i} g zero l m = let e : i ≡ 0 = omega arith in rw e at g
  fast_on braked {i} g (suc k) l m = go (eq-or-lt_of_le l) (λ n. fast_on braked g k n (omega arith))
    where
      go : (i ≡ suc k) ⊎ (i < suc k) → (i ≤ k → loss * (b - k) < entry speeds k) → loss * (b - suc k) < entry speeds (suc k)
      go (inl e) before = rw e at g
      go (inr n) before =
          let e : b - k ≡ suc (b - suc k) = omega arith in
          let d : loss * suc (b - suc k) < entry speeds k = rw e at (before (le_of_suc-le-suc n)) in
          omega (arith, braked k (omega arith), mul-suc loss (b - suc k))

  pub approach_slow : 0 < approach_point speeds loss b → entry speeds (approach_point speeds loss b) ≤ loss * (b - approach_point speeds loss b)
  approach_slow h = go (dec_lt (loss * (b - approach_point speeds loss b)) (entry speeds (approach_point speeds loss b)))
    where
      go : Dec (loss * (b - approach_point speeds loss b) < entry speeds (approach_point speeds loss b)) →
          entry speeds (approach_point speeds loss b) ≤ loss * (b - approach_point speeds loss b)
      go (yes g) = absurd (omega (arith, approach_is.none (λ i k. omega (arith, (approach_is.greatest i k).0.slow))))
      go (no g) = omega arith

-- the approach point goes by the speeds up to the block
pub approach_agree : (s r : List ℕ) (loss b : ℕ) → ((i : ℕ) → i ≤ b → entry s i ≡ entry r i) → approach_point s loss b ≡ approach_point r loss b
unfolding approach_point
approach_agree s r loss b e = ap or_zero (last_agree (suc b) _ _ (λ i h. rw (e i (le_of_suc-le-suc h))))

-- ---- the hold record

pub hold_is : (l : Line) (t : Train) (speeds : List ℕ) → length l.block_starts ≤ 32 → IsHold l t speeds (hold_with l t speeds)
unfolding hold_with hold_begin hold_end
hold_is l t speeds m =
    record {
      count = refl;
      begins = λ j h. (
        approach_point speeds (braking_loss l t) (entry l.block_starts j),
        approach_is speeds (braking_loss l t) (entry l.block_starts j),
        padded-within _ h (omega arith),
      );
      ends = λ j h. padded-within _ h (omega arith);
      beyond = λ j h. (padded-beyond _ 32 j h, padded-beyond _ 32 j h);
    }

-- ---- its block is cleared on the line

-- block ends rise with the blocks
ends-rise : (l : Line) (t : Train) → Admitted l t → (j k : ℕ) → j ≤ k → k < length l.block_starts → entry l.block_ends j ≤ entry l.block_ends k
ends-rise l t a =
    rises_far (entry l.block_ends) (length l.block_starts) (λ k h. omega (arith, a.rule6.after k h, a.rule6.below (suc k) h))

-- the tail clears every block before the last point
pub clears-within : (l : Line) (t : Train) → Admitted l t → (j : ℕ) → j < length l.block_starts → entry l.block_ends j + train_cells l t < l.points
clears-within l t a j h =
    let last : length l.block_ends - 1 ≡ length l.block_starts - 1 = ap (λ (n : ℕ). n - 1) a.parallel.blocks in
    let fits : entry l.block_ends (length l.block_starts - 1) + train_cells l t ≤ l.points - 1 = rw last at a.rule9.fits in
    omega (arith, ends-rise l t a j (length l.block_starts - 1) (omega arith) (omega arith), a.rule3_line.points-least)

-- ---- it never breaks rule 14

pub hold-fits :
    (l : Line) (t : Train) → Admitted l t → l.set_up < 65536 → l.release < 65536 → Rule14 (length l.block_starts) (hold_of l t)
hold-fits l t a s r =
    let speeds = run_row l t in
    let h : IsHold l t speeds (hold_of l t) = hold_is l t speeds a.rule3_line.blocks-most in
    record {
      count = h.count;
      ordered = λ j m.
          let (p, is, e) = h.begins j m in
          let q : p < entry l.block_ends j + train_cells l t = omega (arith, is.at_most, a.rule6.below j m) in
          omega (arith, h.ends j m, departs_before l t speeds p (entry l.block_ends j + train_cells l t) q);
      end-most = λ j m. omega (arith, h.ends j m, arrival-most l t a (entry l.block_ends j + train_cells l t) (clears-within l t a j m));
    }

-- the hold of a train of an accepted file
pub file_hold :
    (file : List ℕ) → set_up_time file < 65536 → release_time file < 65536 → file_refusal file ≡ 0 → (k : ℕ) → k < train_count file →
    Rule14 (length (line_of file).block_starts) (hold_of (line_of file) (train_of file k))
unfolding line_of
file_hold file s r ok k h = hold-fits (line_of file) (train_of file k) (admitted file ok k h) s r
