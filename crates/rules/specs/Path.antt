-- Document 02, "Req 06. A path for one more train": placed rows, a place in their order, the least start of a window that has one, the rules
-- 16 and 17, and the path call. The new hold's block count is that of every row.
use Rattle.std.specs.Prelude.{ℕ, zero, suc, ◌+◌, ◌-◌, ◌*◌, ◌^◌, ◌≤◌, ◌<◌, Bool, cond, List, [], ◌∷◌, ◌++◌, ◌↔◌, ◌≡◌, leb, eqb, length, get_or, take, drop}
use Rattle.std.proofs.Math.Option.{Option}
use Rattle.rules.specs.Count.{◌and◌, entry, every, or_zero, is_there, first_below}
use Rattle.rules.specs.Hold.{Hold, empty_hold}
use Rattle.rules.specs.Sheet.{begin, end}
use Rattle.rules.specs.Refusal.{Rule, rule, refusal, count_rule, hold_rule}
use Rattle.rules.specs.Admitted.{Rule14}
use Rattle.rules.specs.Numbers.{Check, check}
use Rattle.rules.specs.Demand.{WithoutOverlap}

-- ---- placed rows

-- Trains already sold, in running order: their starts, and the beginnings and ends of their holds, train by train.
pub record PlacedRows : Type 0 where
  pub starts : List ℕ
  pub begins : List ℕ
  pub ends : List ℕ

-- the hold records of so many rows of n entries: the first n entries are the first train's, the next n the second's, and so on
unfoldable pub row_holds : ℕ → ℕ → List ℕ → List ℕ → List Hold
row_holds n zero begins ends = []
row_holds n (suc rows) begins ends =
    record { blocks = n; begins = take n begins; ends = take n ends } ∷ row_holds n rows (drop n begins) (drop n ends)

-- the hold records of the placed rows, one for each start
abbrev pub placed_holds : ℕ → PlacedRows → List Hold
placed_holds n p = row_holds n (length p.starts) p.begins p.ends

-- when train i, counted from 0, begins and ends its hold of block b: its start plus beginning and its start plus end
abbrev pub begun_at : List Hold → List ℕ → ℕ → ℕ → ℕ
begun_at hs ts i b = entry ts i + begin (get_or hs i empty_hold) b

abbrev pub ended_at : List Hold → List ℕ → ℕ → ℕ → ℕ
ended_at hs ts i b = entry ts i + end (get_or hs i empty_hold) b

-- The no-overlap rule of the third demand, as a test: in every block each train comes after every train before it.
unfoldable pub in_order : ℕ → List Hold → List ℕ → Bool
in_order n hs ts = every (length hs) (λ j. every j (λ i. every n (λ b. leb (ended_at hs ts i b) (begun_at hs ts j b))))

-- ---- a place in the order

-- A start has its place behind the first k trains: in every block the new hold comes after all trains before that place and before all
-- others. A hold does not contain its end, so two may touch.
unfoldable pub placed_behind : Hold → List Hold → List ℕ → ℕ → ℕ → Bool
placed_behind h hs ts start k =
    every k (λ i. every h.blocks (λ b. leb (ended_at hs ts i b) (start + begin h b)))
    and every (length hs - k) (λ i. every h.blocks (λ b. leb (start + end h b) (begun_at hs ts (k + i) b)))

-- the number of trains before the place of a start, where it has one
unfoldable pub place_of : Hold → List Hold → List ℕ → ℕ → Option ℕ
place_of h hs ts start = first_below (suc (length hs)) (placed_behind h hs ts start)

-- the least start in the window that has a place; both ends of the window are included
unfoldable pub least_in_window : Hold → List Hold → List ℕ → ℕ → ℕ → Option ℕ
least_in_window h hs ts low high = first_below (suc high) (λ start. leb low start and is_there (place_of h hs ts start))

-- a list with one more behind its first k
unfoldable pub put_in : {A : Type 0} → ℕ → A → List A → List A
put_in k x list = take k list ++ (x ∷ drop k list)

-- ---- the path call

-- 16, of the rows: the slices hold exactly one row of n entries for each start, there are at most 64 rows, no start exceeds 2^50, and the
-- rows keep 14 and are in order without overlap.
unfoldable pub rows_rule : ℕ → PlacedRows → Bool
rows_rule n p =
    eqb (length p.begins) (length p.starts * n)
    and eqb (length p.ends) (length p.starts * n)
    and leb (length p.starts) 64
    and every (length p.starts) (λ k. leb (entry p.starts k) (2 ^ 50))
    and every (length p.starts) (λ k. hold_rule n (get_or (placed_holds n p) k empty_hold))
    and in_order n (placed_holds n p) p.starts

-- 16, of the window: neither end exceeds 2^50, and it does not end before it begins.
unfoldable pub window_rule : ℕ → ℕ → Bool
window_rule low high = leb low (2 ^ 50) and leb high (2 ^ 50) and leb low high

-- 12 and 14, of the new hold by its own block count
abbrev pub new_hold_rules : Hold → List Rule
new_hold_rules h = rule 12 (count_rule h.blocks) ∷ rule 14 (hold_rule h.blocks h) ∷ []

-- then 16
abbrev pub placing_rules : Hold → PlacedRows → ℕ → ℕ → List Rule
placing_rules h p low high = new_hold_rules h ++ (rule 16 (rows_rule h.blocks p and window_rule low high) ∷ [])

-- the least start among the placed rows
abbrev pub path_start : Hold → PlacedRows → ℕ → ℕ → Option ℕ
path_start h p low high = least_in_window h (placed_holds h.blocks p) p.starts low high

-- then 17: some start in the window will do
abbrev pub path_rules : Hold → PlacedRows → ℕ → ℕ → List Rule
path_rules h p low high = placing_rules h p low high ++ (rule 17 (is_there (path_start h p low high)) ∷ [])

-- the number 0, the least start and the number of trains before it, or the number of refusal, 0 and 0
pub record PathAnswer : Type 0 where
  pub number : ℕ
  pub start : ℕ
  pub before : ℕ

abbrev pub path_of : ℕ → ℕ → PathAnswer
path_of start before = record { number = 0; start = start; before = before }

-- the answer with this start
abbrev pub path_at : Hold → PlacedRows → ℕ → PathAnswer
path_at h p start = path_of start (or_zero (place_of h (placed_holds h.blocks p) p.starts start))

abbrev pub no_path : ℕ → PathAnswer
no_path n = record { number = n; start = 0; before = 0 }

unfoldable pub path_answer : Hold → PlacedRows → ℕ → ℕ → PathAnswer
path_answer h p low high =
    cond (eqb (refusal (path_rules h p low high)) 0) (path_at h p (or_zero (path_start h p low high))) (no_path (refusal (path_rules h p low high)))

-- ---- the same in the paper's words

-- 16, of the rows
pub record Rule16Rows (n : ℕ) (p : PlacedRows) : Type 0 where
  pub begins-rows : length p.begins ≡ length p.starts * n
  pub ends-rows : length p.ends ≡ length p.starts * n
  pub rows-most : length p.starts ≤ 64
  pub start-most : (k : ℕ) → k < length p.starts → entry p.starts k ≤ 2 ^ 50
  pub rows-kept : (k : ℕ) → k < length p.starts → Rule14 n (get_or (placed_holds n p) k empty_hold)
  pub apart : WithoutOverlap n (placed_holds n p) p.starts

-- 16, of the window
pub record Rule16Window (low high : ℕ) : Type 0 where
  pub low_most : low ≤ 2 ^ 50
  pub high_most : high ≤ 2 ^ 50
  pub not_before : low ≤ high

-- A start has the place behind the first k trains.
pub record IsPlace (h : Hold) (hs : List Hold) (ts : List ℕ) (start k : ℕ) : Type 0 where
  pub there : k ≤ length hs
  pub after : (i b : ℕ) → i < k → b < h.blocks → ended_at hs ts i b ≤ start + begin h b
  pub before : (i b : ℕ) → k ≤ i → i < length hs → b < h.blocks → start + end h b ≤ begun_at hs ts i b

-- some start in the window has a place
pub record SomePath (h : Hold) (hs : List Hold) (ts : List ℕ) (low high : ℕ) : Type 0 where
  pub start : ℕ
  pub place : ℕ
  pub from_low : low ≤ start
  pub to_high : start ≤ high
  pub placed : IsPlace h hs ts start place

-- 12, 14, 16 and 17
abbrev pub path_checks : Hold → PlacedRows → ℕ → ℕ → List Check
path_checks h p low high =
    check 12 ((1 ≤ h.blocks) × (h.blocks ≤ 32))
    ∷ check 14 (Rule14 h.blocks h)
    ∷ check 16 (Rule16Rows h.blocks p × Rule16Window low high)
    ∷ check 17 (SomePath h (placed_holds h.blocks p) p.starts low high)
    ∷ []

-- The start is in the window and has exactly this place, and no smaller start in the window has any; the trains with the new one put in at
-- its place meet the no-overlap rule.
pub record LeastPath (h : Hold) (hs : List Hold) (ts : List ℕ) (low high start place : ℕ) : Type 0 where
  pub from_low : low ≤ start
  pub to_high : start ≤ high
  pub placed : IsPlace h hs ts start place
  pub only_place : (other : ℕ) → IsPlace h hs ts start other → other ≡ place
  pub least : (earlier other : ℕ) → low ≤ earlier → earlier < start → IsPlace h hs ts earlier other → ⊥
  pub apart : WithoutOverlap h.blocks (put_in place h hs) (put_in place start ts)

-- the rules before 17 are kept
pub record Placeable (h : Hold) (p : PlacedRows) (low high : ℕ) : Type 0 where
  pub blocks-least : 1 ≤ h.blocks
  pub blocks-most : h.blocks ≤ 32
  pub new_hold : Rule14 h.blocks h
  pub rows : Rule16Rows h.blocks p
  pub window : Rule16Window low high

-- The claim for the answer of the path call: it is accepted exactly when a start in the window has a place, and refused by 17 if and only if
-- none has, both where the rules before are kept; the path accepted is the least.
pub record RightPath (h : Hold) (p : PlacedRows) (low high : ℕ) (a : PathAnswer) : Type 0 where
  pub accepted : (a.number ≡ 0) ↔ (Placeable h p low high × SomePath h (placed_holds h.blocks p) p.starts low high)
  pub refused_17 : (a.number ≡ 17) ↔ (Placeable h p low high × (SomePath h (placed_holds h.blocks p) p.starts low high → ⊥))
  pub path : a.number ≡ 0 → LeastPath h (placed_holds h.blocks p) p.starts low high a.start a.before
