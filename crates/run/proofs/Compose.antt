-- The run by its two sweeps: a buffer that begins with the forward row and is swept backward begins with the run. Assumes nothing.
use Prim.Native.Nat.{ℕ, zero, suc, ◌+◌, ◌-◌, ◌≤◌, ◌<◌, min}
use mathlib.Core.List.{List}
use mathlib.Core.Path.{◌≡◌, sym, ap, ◌∙◌}
use native.Mathlib.Nat.{le_trans}
use native.Mathlib.Omega.{arith}
use Rattle.rules.specs.Count.{entry, row}
use Rattle.rules.specs.Line.{Line, Train}
use Rattle.rules.specs.Run.{braking_loss, backward_before, backward_sweep, forward, run_at, run_row}
use Rattle.rules.specs.Admitted.{Admitted}
use Rattle.rules.specs.Calls.{written}
use Rattle.rules.proofs.Count.{length-row, entry_row}
use Rattle.rules.proofs.Loops.{row_agree}
use Rattle.rules.proofs.Step.{loss_most}
use Rattle.rules.proofs.Cap.{cap-most}
use Rattle.rules.proofs.Run.{forward-cap, length_run}
use Rattle.rules.proofs.Written.{written_entries, written_over}

-- the backward sweep depends on its tops below n alone
module _ (tops others : ℕ → ℕ) (loss n : ℕ) (same : (k : ℕ) → k < n → tops k ≡ others k) where
  before_same : (k i : ℕ) → i + k < n → backward_before tops loss k i ≡ backward_before others loss k i
  unfolding backward_before
  before_same zero i h = same i (omega arith)
  before_same (suc k) i h = let z : i < n = omega arith in rw (same i z, before_same k (suc i) (omega arith))

  pub backward_same : (i : ℕ) → i < n → backward_sweep tops loss n i ≡ backward_sweep others loss n i
  unfolding backward_sweep
  backward_same i h = before_same (n - suc i) i (omega arith)

-- an admitted train's braking loss has 32 bits
pub loss_narrow :
    (l : Line) (t : Train) {loss narrowed : ℕ} → Admitted l t → loss ≡ braking_loss l t → narrowed ≡ min loss 4294967295 → narrowed ≡ braking_loss l t
loss_narrow l t a e f = omega (arith, loss_most l t a)

-- s₀ begins with the forward row
module _ (l : Line) (t : Train) (s₀ : List ℕ) (swept : (k : ℕ) → k < l.points → entry s₀ k ≡ forward l t k) where
  pub forward-most : Admitted l t → (k : ℕ) → k < l.points → entry s₀ k ≤ 900000000
  forward-most a k h = rw (swept k h) (le_trans (forward-cap l t k) (cap-most l t a k))

  pub sweeps_run :
      {s : List ℕ} → s ≡ written s₀ 0 (row (backward_sweep (entry s₀) (braking_loss l t) l.points) l.points) → s ≡ written s₀ 0 (run_row l t)
  unfolding run_row run_at
  sweeps_run e =
      e ∙ ap (written s₀ 0) (row_agree _ _ l.points (λ k h. backward_same (entry s₀) (forward l t) (braking_loss l t) l.points swept k h))

-- s₁ is s₀ after the forward sweep
module _ (l : Line) (t : Train) (s₀ : List ℕ) {s₁ : List ℕ} (e : s₁ ≡ written s₀ 0 (row (forward l t) l.points)) where
  pub forward_entries : (k : ℕ) → k < l.points → entry s₁ k ≡ forward l t k
  forward_entries k h = written_entries s₀ _ e k (rw length-row h) ∙ entry_row (forward l t) l.points k h

  pub run_over : {s : List ℕ} → s ≡ written s₁ 0 (run_row l t) → s ≡ written s₀ 0 (run_row l t)
  run_over q = q ∙ rw e (written_over s₀ _ (run_row l t) (length-row _ l.points ∙ sym (length_run l t)))
