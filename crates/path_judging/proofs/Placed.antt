-- The tests that the code makes of placed rows, beside rule 16. Assumes nothing.
use Prim.Native.Nat.{ℕ, zero, suc, ◌+◌, ◌-◌, ◌*◌, ◌^◌, ◌≤◌, ◌<◌, min}
use mathlib.Core.Bool.{true}
use mathlib.Core.List.{List}
use mathlib.Core.Logic.{◌↔◌, ⊎_elim}
use mathlib.Core.Path.{◌≡◌, refl, ap, ◌∙◌}
use native.Mathlib.Decide.{dec_lt}
use native.Mathlib.Nat.{mul-le-mul_right, suc-mul, zero-mul, eq-or-lt_of_le, le_of_suc-le-suc}
use native.Mathlib.Omega.{arith}
use lib.Dec.{leb, ltb}
use lib.ListN.{length, get_or, drop, length-drop}
use lib.Seq.{length-take-le, get_or-take, get_or-drop}
use borrow.Author.Tests.{leb-true, le-leb, ltb-true, lt-ltb}
use Rattle.rules.specs.Count.{◌and◌, entry}
use Rattle.rules.specs.Hold.{Hold, empty_hold}
use Rattle.rules.specs.Sheet.{begin, end}
use Rattle.rules.specs.Admitted.{Rule14}
use Rattle.rules.specs.Path.{PlacedRows, placed_holds, begun_at, ended_at, rows_rule}
use Rattle.rules.proofs.Count.{and_left, and_right, and_both, every-at, every_all, same_test}
use Rattle.rules.proofs.Path.{holds_count, hold_at, rule_16_rows}
use Rattle.order.proofs.Clear.{clear_means}
use Rattle.sheet_judging.specs.Times.{times_kept}
use Rattle.path_judging.specs.Rows.{row_of, next_clear, each_clear}

-- where row k of the m rows of n entries lies
row_within : (n m k : ℕ) → k < m → k * n + n ≤ m * n
row_within n m k l = omega (arith, suc-mul k n, mul-le-mul_right n (let le : suc k ≤ m = omega arith in le))

pub row-length : (n m k : ℕ) (entries : List ℕ) → k < m → length entries ≡ m * n → length (row_of n k entries) ≡ n
row-length n m k entries l long =
    length-take-le n (drop (k * n) entries) (omega (arith, length-drop (k * n) entries, row_within n m k l, long))

-- an entry of the slices is an entry of a row
record EntryOf (n m i : ℕ) : Type 0 where
  row : ℕ
  block : ℕ
  row-there : row < m
  block-there : block < n
  at : row * n + block ≡ i

entry_of : (n m i : ℕ) → i < m * n → EntryOf n m i
entry_of n zero i l = absurd (omega (arith, l, zero-mul n))
entry_of n (suc m) i l = go (dec_lt i (m * n)) (entry_of n m i)
  where
    go : Dec (i < m * n) → (i < m * n → EntryOf n m i) → EntryOf n (suc m) i
    go (yes g) r =
        let e = r g in
        record { row = e.row; block = e.block; row-there = omega (arith, e.row-there); block-there = e.block-there; at = e.at }
    go (no g) r = record { row = m; block = i - m * n; row-there = omega arith; block-there = omega (arith, l, suc-mul m n); at = omega arith }

module _ (n : ℕ) (p : PlacedRows) (begins-rows : length p.begins ≡ length p.starts * n) (ends-rows : length p.ends ≡ length p.starts * n) where
  abbrev m : ℕ
  m = length p.starts

  abbrev hs : List Hold
  hs = placed_holds n p

  row_at : (k : ℕ) → k < m → get_or hs k empty_hold ≡ record { blocks = n; begins = row_of n k p.begins; ends = row_of n k p.ends }
  row_at k l = hold_at n m k (k * n) p.begins p.ends refl l

  entry_at : (entries : List ℕ) (k b : ℕ) → b < n → entry (row_of n k entries) b ≡ entry entries (k * n + b)
  entry_at entries k b c = get_or-take n (drop (k * n) entries) b 0 c ∙ get_or-drop (k * n) entries b 0

  begin-at : (k b : ℕ) → k < m → b < n → begin (get_or hs k empty_hold) b ≡ entry p.begins (k * n + b)
  begin-at k b l c = ap (λ (h : Hold). begin h b) (row_at k l) ∙ entry_at p.begins k b c

  end-at : (k b : ℕ) → k < m → b < n → end (get_or hs k empty_hold) b ≡ entry p.ends (k * n + b)
  end-at k b l c = ap (λ (h : Hold). end h b) (row_at k l) ∙ entry_at p.ends k b c

  -- an entry of a row is within the slices
  within : (k b : ℕ) → k < m → b < n → k * n + b < length p.ends
  within k b l c = omega (arith, row_within n m k l, ends-rows)

  pub kept-rows : times_kept p.begins p.ends ≡ true → (k : ℕ) → k < m → Rule14 n (get_or hs k empty_hold)
  unfolding times_kept
  kept-rows e k l =
      let at : (b : ℕ) → b < n → (ltb (entry p.begins (k * n + b)) (entry p.ends (k * n + b)) and leb (entry p.ends (k * n + b)) (2 ^ 44)) ≡ true =
      λ b c. every-at _ (min (length p.begins) (length p.ends)) e (k * n + b) (omega (arith, begins-rows, ends-rows, within k b l c)) in
      record {
        count = ap (λ (h : Hold). h.blocks) (row_at k l);
        ordered = λ b c. rw (begin-at k b l c, end-at k b l c) (ltb-true _ _ (and_left _ _ (at b c)));
        end-most = λ b c. rw (end-at k b l c) (leb-true _ _ (and_right _ _ (at b c)));
      }

  pub rows_tested : ((k : ℕ) → k < m → Rule14 n (get_or hs k empty_hold)) → times_kept p.begins p.ends ≡ true
  unfolding times_kept
  rows_tested kept =
      every_all _ (min (length p.begins) (length p.ends)) (λ i l.
      let e = entry_of n m i (omega (arith, ends-rows, l)) in
      let k = e.row in
      let b = e.block in
      let r = kept k e.row-there in
      rw (← e.at)
      (and_both
      (lt-ltb _ _ (rw (begin-at k b e.row-there e.block-there, end-at k b e.row-there e.block-there) at (r.ordered b e.block-there)))
      (le-leb _ _ (rw (end-at k b e.row-there e.block-there) at (r.end-most b e.block-there)))))

  -- row k is clear of the next
  next_clear_lem : (k : ℕ) → suc k < m → (next_clear n p k ≡ true) ↔ ((b : ℕ) → b < n → ended_at hs p.starts k b ≤ begun_at hs p.starts (suc k) b)
  unfolding next_clear
  next_clear_lem k l =
      let next : k + 1 ≡ suc k = omega arith in
      let means = clear_means (entry p.starts k) (entry p.starts (suc k)) n (row_of n k p.ends) (row_of n (suc k) p.begins)
      (row-length n m k p.ends (omega arith) ends-rows) (row-length n m (suc k) p.begins l begins-rows) in
      rw (next, row_at k (omega arith), row_at (suc k) l) means

  -- where no row is empty, rows that are clear of the next are clear of all behind them
  all_clear :
      ((k : ℕ) → k < m → Rule14 n (get_or hs k empty_hold)) →
      ((k : ℕ) → suc k < m → (b : ℕ) → b < n → ended_at hs p.starts k b ≤ begun_at hs p.starts (suc k) b) →
      (i j b : ℕ) → i < j → j < m → b < n → ended_at hs p.starts i b ≤ begun_at hs p.starts j b
  all_clear kept next i zero b l c d = absurd (omega arith)
  all_clear kept next i (suc j) b l c d =
      ⊎_elim (λ e. rw e (next j c b d))
      (λ g. omega (arith, all_clear kept next i j b g (omega arith) d, (kept j (omega arith)).ordered b d, next j c b d))
      (eq-or-lt_of_le (le_of_suc-le-suc l))

  module _ (few : m ≤ 64) (early : (k : ℕ) → k < m → entry p.starts k ≤ 2 ^ 50) (kept : (k : ℕ) → k < m → Rule14 n (get_or hs k empty_hold)) where
    -- the last part of rule 16 decides where the others are kept
    pub clear_rows : each_clear n p ≡ rows_rule n p
    unfolding each_clear
    clear_rows =
        same_test (each_clear n p) (rows_rule n p)
        (λ e.
        (rule_16_rows n p).1
        (record {
          begins-rows = begins-rows;
          ends-rows = ends-rows;
          rows-most = few;
          start-most = early;
          rows-kept = kept;
          apart = λ i j b l c d.
              all_clear kept (λ k g. (next_clear_lem k g).0 (every-at _ (m - 1) e k (omega arith))) i j b l (omega (arith, c, holds_count n m p.begins p.ends)) d;
        }))
        (λ e.
        let r = (rule_16_rows n p).0 e in
        every_all _ (m - 1) (λ k l.
        (next_clear_lem k (omega arith)).1 (λ b d. r.apart k (suc k) b (omega arith) (omega (arith, l, holds_count n m p.begins p.ends)) d)))
