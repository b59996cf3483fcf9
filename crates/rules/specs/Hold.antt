-- Document 01, "The hold of a block": approach point and hold record. Times are in microseconds.
use Rattle.std.specs.Prelude.{ℕ, suc, ◌+◌, ◌-◌, ◌*◌, List, leb, length, replicate}
use Rattle.rules.specs.Count.{entry, row, padded, or_zero, last_below}
use Rattle.rules.specs.Line.{Line, Train}
use Rattle.rules.specs.Run.{braking_loss, train_cells, run_row}
use Rattle.rules.specs.Time.{arrival, departure}

-- A hold record: the block count, and for each block the beginning and the end of its hold, which contains its beginning and not
-- its end. The field calls the time from one to the other the blocking time of the block.
pub record Hold : Type 0 where
  pub blocks : ℕ
  pub begins : List ℕ
  pub ends : List ℕ

-- a record of no blocks, 0 at every place: what a refused hold call gives, and what stands past the end of a list of records
abbrev pub empty_hold : Hold
empty_hold = record { blocks = 0; begins = replicate 32 0; ends = replicate 32 0 }

-- The approach point of a block from b: the greatest i at most b whose squared speed is at most G times (b - i), or 0 if there is none.
unfoldable pub approach_point : List ℕ → ℕ → ℕ → ℕ
approach_point speeds loss b = or_zero (last_below (suc b) (λ i. leb (entry speeds i) (loss * (b - i))))

-- the hold of a block from b begins at the departure from the approach point
unfoldable pub hold_begin : Line → Train → List ℕ → ℕ → ℕ
hold_begin l t speeds b = departure l t speeds (approach_point speeds (braking_loss l t) b)

-- the hold of a block to e ends at the arrival at e + n, plus release time, set-up time and 5 seconds of communication
unfoldable pub hold_end : Line → Train → List ℕ → ℕ → ℕ
hold_end l t speeds e = arrival l t speeds (e + train_cells l t) + 100000 * l.release + 100000 * l.set_up + 5000000

-- a figure for each of n blocks, in the 32 places of a record: those beyond the block count are 0
abbrev pub in_places : ℕ → (ℕ → ℕ) → List ℕ
in_places n f = padded 32 (row f n)

-- the hold record of a train with these speeds
unfoldable pub hold_with : Line → Train → List ℕ → Hold
hold_with l t speeds =
    record {
      blocks = length l.block_starts;
      begins = in_places (length l.block_starts) (λ j. hold_begin l t speeds (entry l.block_starts j));
      ends = in_places (length l.block_starts) (λ j. hold_end l t speeds (entry l.block_ends j));
    }

-- the hold record of a train
abbrev pub hold_of : Line → Train → Hold
hold_of l t = hold_with l t (run_row l t)
