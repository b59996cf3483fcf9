-- Document 02, request 07, over the definitions: the block named where several fix a start. Each entry is proved by computation.
-- Assumes nothing.
use Prim.Native.Nat.{ℕ}
use mathlib.Core.List.{◌∷◌}
use mathlib.Core.Path.{◌≡◌, refl}
use lib.ListN.{replicate}
use Rattle.rules.specs.Count.{◌and◌, every, within, set_below, greatest_below, last_below}
use Rattle.rules.specs.Sheet.{Sheet, least_start, block_named, sheet_after}
use Rattle.rules.specs.Refusal.{first_broken, sheet_rule, hold_rule}
use Rattle.rules.specs.Calls.{Answer, accepted, added}

-- a sheet of three blocks with one train
pub one : Sheet
one = record { blocks = 3; trains = 1; free = 10 ∷ 20 ∷ 30 ∷ 40 ∷ replicate 28 0; first = replicate 32 0 }

-- the answer to a train with these beginnings; the fourth place, beyond the block count, would fix a start of 6 as well
pub answer : ℕ → ℕ → ℕ → Answer
answer b₁ b₂ b₃ =
    (added one (record { blocks = 3; begins = b₁ ∷ b₂ ∷ b₃ ∷ 34 ∷ replicate 28 0; ends = 50 ∷ 50 ∷ 50 ∷ replicate 29 0 })).answer

pub record Ties : Type 0 where
  pub all : answer 4 14 24 ≡ accepted 6 3
  pub first_and_last : answer 4 15 24 ≡ accepted 6 3
  pub last_short_of_it : answer 4 14 25 ≡ accepted 6 2
  pub first_alone : answer 4 15 25 ≡ accepted 6 1
  pub start_of_0 : answer 10 20 30 ≡ accepted 0 0

pub ties : Ties
unfolding one answer ◌and◌ every within set_below greatest_below last_below least_start block_named sheet_after first_broken sheet_rule hold_rule added
ties = record { all = refl; first_and_last = refl; last_short_of_it = refl; first_alone = refl; start_of_0 = refl }
