-- Document 02, request 06, over the definitions: one more train among two placed ones, in two blocks. Each entry is proved by computation.
-- Assumes nothing.
use Prim.Native.Nat.{ℕ}
use mathlib.Core.List.{[], ◌∷◌}
use mathlib.Core.Path.{◌≡◌, refl}
use lib.ListN.{replicate}
use Rattle.rules.specs.Count.{◌and◌, every, within, first_below, is_there}
use Rattle.rules.specs.Hold.{Hold}
use Rattle.rules.specs.Refusal.{first_broken, refusal, hold_rule}
use Rattle.rules.specs.Path.{PlacedRows, row_holds, in_order, placed_behind, place_of, least_in_window, rows_rule, window_rule, path_of, no_path}
use Rattle.rules.specs.Path.{path_answer}

-- the new hold, from 0 on in the first block and from 5 on in the second
pub new : ℕ → ℕ → Hold
new one two = record { blocks = 2; begins = 0 ∷ 5 ∷ replicate 30 0; ends = one ∷ two ∷ replicate 30 0 }

-- two trains that hold each block for 10
pub placed : ℕ → ℕ → PlacedRows
placed one two = record { starts = one ∷ two ∷ []; begins = 0 ∷ 5 ∷ 0 ∷ 5 ∷ []; ends = 10 ∷ 15 ∷ 10 ∷ 15 ∷ [] }

pub none : PlacedRows
none = record { starts = []; begins = []; ends = [] }

pub record OneMore : Type 0 where
  pub just_between : path_answer (new 20 25) (placed 0 30) 0 60 ≡ path_of 10 1
  pub too_long_in_one_block : path_answer (new 20 26) (placed 0 30) 0 60 ≡ path_of 40 2
  pub before_all : path_answer (new 20 25) (placed 25 50) 3 60 ≡ path_of 3 0
  pub window_of_one_start : path_answer (new 20 25) (placed 0 30) 10 10 ≡ path_of 10 1
  pub window_ends_before : path_answer (new 20 25) (placed 0 30) 0 9 ≡ no_path 17
  pub no_rows : path_answer (new 20 25) none 7 9 ≡ path_of 7 0
  pub rows_touch : path_answer (new 20 25) (placed 0 10) 0 60 ≡ path_of 20 2
  pub rows_overlap : path_answer (new 20 25) (placed 0 9) 0 60 ≡ no_path 16
  pub rows_out_of_order : path_answer (new 20 25) (placed 30 0) 0 60 ≡ no_path 16
  pub window_ends_first : path_answer (new 20 25) (placed 0 30) 5 4 ≡ no_path 16
  pub empty_hold-first : path_answer (new 0 25) (placed 0 30) 5 4 ≡ no_path 14

pub one_more : OneMore
unfolding new placed none ◌and◌ every within first_below is_there first_broken refusal hold_rule row_holds in_order placed_behind place_of least_in_window rows_rule
    window_rule path_answer
one_more =
    record {
      just_between = refl;
      too_long_in_one_block = refl;
      before_all = refl;
      window_of_one_start = refl;
      window_ends_before = refl;
      no_rows = refl;
      rows_touch = refl;
      rows_overlap = refl;
      rows_out_of_order = refl;
      window_ends_first = refl;
      empty_hold-first = refl;
    }
