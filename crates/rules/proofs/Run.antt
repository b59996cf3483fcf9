-- The two sweeps give the permitted row with the greatest entry at every point, and no other row is that. Assumes nothing.
use Prim.Native.Nat.{ℕ, zero, suc, ◌+◌, ◌-◌, ◌≤◌, ◌<◌, min}
use mathlib.Core.Bool.{Bool, true, false}
use mathlib.Core.List.{List}
use mathlib.Core.Logic.{◌⊎◌, inl, inr, ⊎_elim}
use mathlib.Core.Path.{◌≡◌, refl, sym, ◌∙◌}
use native.Mathlib.Decide.{dec_le}
use native.Mathlib.Nat.{le_trans, le_antisymm}
use native.Mathlib.Omega.{arith}
use lib.ListN.{length}
use lib.Seq.{ext_get_or}
use Rattle.rules.specs.Count.{entry, row}
use Rattle.rules.specs.Line.{Line, Train}
use Rattle.rules.specs.Run.{
  braking_loss,
  listed,
  cap,
  traction_step,
  Permitted,
  IsRun,
  Unbraked,
  IsForward,
  forward_sweep,
  backward_before,
  backward_sweep,
  forward,
  run_at,
  run_row,
}
use Rattle.rules.specs.Admitted.{Admitted}
use Rattle.rules.proofs.Count.{length-row, entry_row}
use Rattle.rules.proofs.Step.{loss_least, step_mono, step-least, step_keeps}
use Rattle.rules.proofs.Cap.{cap-top, cap-least, one_is_no_stop}
use Rattle.rules.proofs.Sweep.{backward_next, backward_le}

module _ (l : Line) (t : Train) where
  pub length_run : length (run_row l t) ≡ l.points
  unfolding run_row
  length_run = length-row (run_at l t) l.points

  pub entry_run : (i : ℕ) → i < l.points → entry (run_row l t) i ≡ run_at l t i
  unfolding run_row
  entry_run i h = entry_row (run_at l t) l.points i h

  -- ---- the forward sweep

  pub forward-cap : (i : ℕ) → forward l t i ≤ cap l t i
  unfolding forward forward_sweep
  forward-cap zero = omega arith
  forward-cap (suc i) = omega arith

  forward-drawn : (i : ℕ) → forward l t (suc i) ≤ traction_step l t (forward l t i)
  unfolding forward forward_sweep
  forward-drawn i = omega arith

  forward-above : (n : ℕ) (speeds : List ℕ) → Unbraked l t n speeds → (i : ℕ) → i < n → entry speeds i ≤ forward l t i
  unfolding forward forward_sweep
  forward-above n speeds u zero h = u.capped 0 h
  forward-above n speeds u (suc i) h = omega (arith, u.capped (suc i) h, u.drawn i h, step_mono l t (forward-above n speeds u i (omega arith)))

  -- braking left out, the forward sweep is the greatest row, up to any point
  pub forward_is : (n : ℕ) → IsForward l t n (row (forward l t) n)
  forward_is n =
      record {
        unbraked = record {
          many = length-row (forward l t) n;
          capped = λ i h. rw (entry_row (forward l t) n i h) (forward-cap i);
          drawn = λ i h. rw (entry_row (forward l t) n (suc i) h, entry_row (forward l t) n i (omega arith)) (forward-drawn i);
        };
        greatest = λ other u i h. rw (entry_row (forward l t) n i h) (forward-above n other u i h);
      }

  -- ---- no permitted row is above the run

  row-forward : (speeds : List ℕ) → Permitted l t speeds → (i : ℕ) → i < l.points → entry speeds i ≤ forward l t i
  row-forward speeds p = forward-above l.points speeds (record { many = p.whole; capped = p.capped; drawn = p.drawn })

  row_backward : (speeds : List ℕ) → Permitted l t speeds → (k i : ℕ) → i + k < l.points → entry speeds i ≤ backward_before (forward l t) (braking_loss l t) k i
  unfolding backward_before
  row_backward speeds p zero i h = row-forward speeds p i (omega arith)
  row_backward speeds p (suc k) i h =
      omega (arith, row-forward speeds p i (omega arith), p.braked i (omega arith), row_backward speeds p k (suc i) (omega arith))

  run_above : (speeds : List ℕ) → Permitted l t speeds → (i : ℕ) → i < l.points → entry speeds i ≤ run_at l t i
  unfolding run_at backward_sweep
  run_above speeds p i h = row_backward speeds p (l.points - suc i) i (omega arith)

  -- ---- the run is permitted

  run_before : (i : ℕ) → suc i < l.points → run_at l t i ≡ min (forward l t i) (run_at l t (suc i) + braking_loss l t)
  unfolding run_at
  run_before i h = backward_next (forward l t) (braking_loss l t) l.points i (suc i) refl h

  run_forward : (i : ℕ) → run_at l t i ≤ forward l t i
  unfolding run_at
  run_forward i = backward_le (forward l t) (braking_loss l t) l.points i

  run_cap : (i : ℕ) → run_at l t i ≤ cap l t i
  run_cap i = le_trans (run_forward i) (forward-cap i)

  module _ (a : Admitted l t) where
    run_drawn : (i : ℕ) → suc i < l.points → run_at l t (suc i) ≤ traction_step l t (run_at l t i)
    run_drawn i h = go (dec_le (forward l t i) (run_at l t (suc i) + braking_loss l t))
      where
        go : Dec (forward l t i ≤ run_at l t (suc i) + braking_loss l t) → run_at l t (suc i) ≤ traction_step l t (run_at l t i)
        go (yes g) =
            let f : run_at l t i ≡ forward l t i = omega (arith, run_before i h) in
            rw f (le_trans (run_forward (suc i)) (forward-drawn i))
        go (no g) =
            le_trans (step_keeps l t a (run_at l t (suc i)) (le_trans (run_cap (suc i)) (cap-top l t (suc i))))
            (step_mono l t (omega (arith, run_before i h)))

    run_permitted : Permitted l t (run_row l t)
    run_permitted =
        record {
          whole = length_run;
          capped = λ i h. rw (entry_run i h) (run_cap i);
          drawn = λ i h. rw (entry_run (suc i) h, entry_run i (omega arith)) (run_drawn i h);
          braked = λ i h. rw (entry_run (suc i) h, entry_run i (omega arith)) (omega (arith, run_before i h));
        }

    pub run_is : IsRun l t (run_row l t)
    run_is = record { permitted = run_permitted; greatest = λ other p i h. rw (entry_run i h) (run_above other p i h) }

    pub run_only : (speeds : List ℕ) → IsRun l t speeds → speeds ≡ run_row l t
    run_only speeds r =
        ext_get_or 0 speeds (run_row l t) (r.permitted.whole ∙ sym length_run)
        (λ i h. let g : i < l.points = omega (arith, r.permitted.whole) in
        le_antisymm (run_is.greatest speeds r.permitted i g) (r.greatest (run_row l t) run_permitted i g))

    -- ---- the run stands still at stops alone

    forward-least : (i : ℕ) → listed i t.stops ≡ false → 2592 ≤ forward l t i
    unfolding forward forward_sweep
    forward-least zero e = omega (arith, cap-least l t a 0 e)
    forward-least (suc i) e = omega (arith, cap-least l t a (suc i) e, step-least l t a (forward l t i))

    backward_least : (k i : ℕ) → listed i t.stops ≡ false → 2592 ≤ backward_before (forward l t) (braking_loss l t) k i
    unfolding backward_before
    backward_least zero i e = forward-least i e
    backward_least (suc k) i e = omega (arith, forward-least i e, loss_least l t a)

    run_least : (i : ℕ) → i < l.points → listed i t.stops ≡ false → 2592 ≤ entry (run_row l t) i
    unfolding run_at backward_sweep
    run_least i h e = rw (entry_run i h) (backward_least (l.points - suc i) i e)

    pub run_moves : (i : ℕ) → suc i < l.points → (2592 ≤ entry (run_row l t) i) ⊎ (2592 ≤ entry (run_row l t) (suc i))
    run_moves i h = go (listed i t.stops) (listed (suc i) t.stops) refl refl
      where
        go : (b c : Bool) → listed i t.stops ≡ b → listed (suc i) t.stops ≡ c → (2592 ≤ entry (run_row l t) i) ⊎ (2592 ≤ entry (run_row l t) (suc i))
        go false c e f = inl (run_least i (omega arith) e)
        go true false e f = inr (run_least (suc i) h f)
        go true true e f = absurd (one_is_no_stop l t a i e f)

    pub no_two_zeros : (i : ℕ) → suc i < l.points → (entry (run_row l t) i ≡ 0) × (entry (run_row l t) (suc i) ≡ 0) → ⊥
    no_two_zeros i h z = ⊎_elim (λ g. omega arith) (λ g. omega arith) (run_moves i h)
