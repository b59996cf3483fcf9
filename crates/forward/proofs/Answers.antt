-- What a sweep up to a point leaves in the buffer, refused and accepted. Assumes nothing.
use Prim.Native.Nat.{ℕ, ◌≤◌}
use mathlib.Core.List.{List}
use mathlib.Core.Path.{◌≡◌, sym, ◌∙◌}
use native.Mathlib.Omega.{arith}
use lib.ListN.{length, take}
use Rattle.rules.specs.Calls.{written}
use Rattle.rules.specs.Count.{row}
use Rattle.rules.specs.Line.{Line, Train}
use Rattle.rules.specs.Refusal.{refusal, rules_on}
use Rattle.rules.specs.Run.{IsForward, forward}
use Rattle.rules.proofs.Calls.{lent_written, lent_kept}
use Rattle.rules.proofs.Run.{forward_is}
use Rattle.rules.proofs.Written.{row_taken}
use Rattle.forward.specs.Calls.{entries_to, swept_on}

pub entries_most : (point points room : ℕ) → (entries_to point points room ≤ points) × (entries_to point points room ≤ room)
unfolding entries_to
entries_most point points room = (omega arith, omega arith)

module _ (l : Line) (t : Train) (point : ℕ) (speeds : List ℕ) where
  pub not_swept : (refusal (rules_on l t) ≡ 0 → ⊥) → speeds ≡ swept_on l t point speeds
  unfolding swept_on
  not_swept h = sym (lent_kept _ speeds h)

  swept_written :
      refusal (rules_on l t) ≡ 0 → swept_on l t point speeds ≡ written speeds 0 (row (forward l t) (entries_to point l.points (length speeds)))
  unfolding swept_on
  swept_written z = rw z (lent_written _ speeds)

  module _ {end : ℕ} {after : List ℕ} (e : end ≡ entries_to point l.points (length speeds)) (w : after ≡ written speeds 0 (row (forward l t) end)) where
    pub swept : refusal (rules_on l t) ≡ 0 → after ≡ swept_on l t point speeds
    swept z = w ∙ rw e (sym (swept_written z))

    pub greatest : IsForward l t (entries_to point l.points (length speeds)) (take (entries_to point l.points (length speeds)) after)
    greatest = rw (← e, row_taken (forward l t) end speeds w) (forward_is l t end)

-- a sweep to a point behind the last takes in the whole line
entries_whole : (points room : ℕ) → points ≤ room → entries_to points points room ≡ points
unfolding entries_to
entries_whole points room h = omega arith

pub whole_line :
    (l : Line) (t : Train) (speeds : List ℕ) {after : List ℕ} →
    refusal (rules_on l t) ≡ 0 → l.points ≤ length speeds → after ≡ swept_on l t l.points speeds → after ≡ written speeds 0 (row (forward l t) l.points)
whole_line l t speeds z h e = e ∙ swept_written l t l.points speeds z ∙ rw (entries_whole l.points (length speeds) h)
