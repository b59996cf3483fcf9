-- Document 01, "The sheet of starts": hold records and sheets with any contents, the least start, the block named and the sheet after.
-- Document 02, "Req 03": a sheet keeps the first train's beginnings; "Req 07": of several blocks that fix a start equally the last is named.
use Rattle.std.specs.Prelude.{ℕ, ◌+◌, ◌-◌, cond, List, eqb, replicate}
use Rattle.rules.specs.Count.{entry, set_below, greatest_below, counted_from1, last_below}
use Rattle.rules.specs.Hold.{Hold}

-- the block count, the number of trains, and for each block its free time and the beginning of the first train's hold
pub record Sheet : Type 0 where
  pub blocks : ℕ
  pub trains : ℕ
  pub free : List ℕ
  pub first : List ℕ

-- the beginning and the end of the hold of block b, its free time, and the first train's beginning there; b counts from 0
abbrev pub begin : Hold → ℕ → ℕ
begin h b = entry h.begins b

abbrev pub end : Hold → ℕ → ℕ
end h b = entry h.ends b

abbrev pub free_time : Sheet → ℕ → ℕ
free_time s b = entry s.free b

abbrev pub first_begin : Sheet → ℕ → ℕ
first_begin s b = entry s.first b

-- a fresh sheet of n blocks; the places beyond the block count are 0 too
unfoldable pub fresh : ℕ → Sheet
fresh n = record { blocks = n; trains = 0; free = replicate 32 0; first = replicate 32 0 }

-- The least start, 0 or more, such that start plus beginning is at least the free time in every block: the greatest wait of a block.
unfoldable pub least_start : Sheet → Hold → ℕ
least_start s h = greatest_below s.blocks (λ b. free_time s b - begin h b)

-- The block named, counted from 1: the last where start plus beginning equals the free time before the addition, or 0 if the start is 0.
unfoldable pub block_named : Sheet → Hold → ℕ → ℕ
block_named s h start = cond (eqb start 0) 0 (counted_from1 (last_below s.blocks (λ b. eqb (start + begin h b) (free_time s b))))

-- The sheet after an addition at this start: one train more, and each free time is start plus end. The first train's beginnings are set by
-- the first addition alone. Places beyond the block count stay.
unfoldable pub sheet_after : Sheet → Hold → ℕ → Sheet
sheet_after s h start =
    record {
      blocks = s.blocks;
      trains = s.trains + 1;
      free = set_below s.blocks (λ b. start + end h b) s.free;
      first = cond (eqb s.trains 0) (set_below s.blocks (λ b. begin h b) s.first) s.first;
    }
