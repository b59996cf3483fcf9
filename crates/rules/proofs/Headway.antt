-- The headway call: the second train's start after a first one at 0, or the first refusal met. Assumes nothing.
use Prim.Native.Nat.{ℕ, ◌≤◌}
use mathlib.Core.Bool.{true, false}
use mathlib.Core.Path.{◌≡◌, refl}
use native.Mathlib.Omega.{arith}
use Rattle.rules.specs.Hold.{Hold}
use Rattle.rules.specs.Sheet.{Sheet, fresh, least_start, sheet_after}
use Rattle.rules.specs.Refusal.{first_broken, count_rule, room_rule, hold_rule}
use Rattle.rules.specs.Calls.{accept, refuse, added, headway_of, no_headway, headway}
use Rattle.rules.specs.Admitted.{Rule12, Rule14}
use Rattle.rules.proofs.Count.{within_means}
use Rattle.rules.proofs.Sheet.{rule_12, start_zero, added-kept, added-broken, all_kept_lem, Sound, sound_after, fresh-free, sound_fresh}
use Rattle.rules.proofs.Demand.{opened-fresh, opened-refused}

-- the first train starts at 0
pub fresh_start : (n : ℕ) → n ≤ 32 → (h : Hold) → least_start (fresh n) h ≡ 0
unfolding fresh
fresh_start n high h = start_zero (fresh n) h (λ b l. fresh-free n b (omega arith))

-- a record that breaks 14 is refused by that number, where 12 and 13 are kept
added_14 : (s : Sheet) (h : Hold) → Rule12 s → room_rule s.trains ≡ true → hold_rule s.blocks h ≡ false → added s h ≡ refuse s 14
unfolding first_broken
added_14 s h k e f = added-broken s h 14 (rw ((rule_12 s).1 k, e, f))

-- the first refusal met: the count's, the first record's, the second's
pub headway_12 : (first second : Hold) → count_rule first.blocks ≡ false → headway first second ≡ no_headway 12
unfolding headway
headway_12 first second e = rw (opened-refused first.blocks e)

module _ (first second : Hold) (c : count_rule first.blocks ≡ true) where
  ok : Sound (fresh first.blocks)
  ok = let (low, high) = within_means 1 32 first.blocks c in sound_fresh first.blocks low high

  pub headway_first_14 : hold_rule first.blocks first ≡ false → headway first second ≡ no_headway 14
  unfolding headway fresh
  headway_first_14 e = rw (opened-fresh first.blocks c, added_14 (fresh first.blocks) first ok.keeps refl e)

  module _ (f : Rule14 first.blocks first) where
    one : added (fresh first.blocks) first ≡ accept (fresh first.blocks) first
    unfolding fresh
    one = added-kept (fresh first.blocks) first ((all_kept_lem (fresh first.blocks) first).1 (ok.keeps, refl, f))

    at_zero : least_start (fresh first.blocks) first ≡ 0
    at_zero = fresh_start first.blocks (within_means 1 32 first.blocks c).1 first

    after : Sound (sheet_after (fresh first.blocks) first 0)
    unfolding fresh
    after = rw at_zero at (sound_after (fresh first.blocks) ok first refl f)

    pub headway_second_14 : hold_rule first.blocks second ≡ false → headway first second ≡ no_headway 14
    unfolding headway fresh sheet_after
    headway_second_14 e =
        rw (opened-fresh first.blocks c, one, at_zero, added_14 (sheet_after (fresh first.blocks) first 0) second after.keeps refl e)

    -- the headway is the second train's start after a first one at 0
    pub headway_of_lem : Rule14 first.blocks second → headway first second ≡ headway_of (least_start (sheet_after (fresh first.blocks) first 0) second)
    unfolding headway fresh sheet_after
    headway_of_lem g =
        let two = added-kept (sheet_after (fresh first.blocks) first 0) second
        ((all_kept_lem (sheet_after (fresh first.blocks) first 0) second).1 (after.keeps, refl, g)) in
        rw (opened-fresh first.blocks c, one, at_zero, two)
