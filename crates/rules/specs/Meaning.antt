-- The sentences of document 01, and of document 02 where it changes them, as properties, in the papers' words. proofs/ shows that the
-- definitions have them.
use Rattle.std.specs.Prelude.{ℕ, suc, ◌+◌, ◌-◌, ◌*◌, ◌≤◌, ◌<◌, min, true, false, List, [], ◌∷◌, ◌≡◌, length, get_or}
use Rattle.rules.specs.Count.{entry}
use Rattle.rules.specs.Line.{Line, Train}
use Rattle.rules.specs.Run.{last_top, train_cells, balise_place, grown_cells, cell_limit, braking_loss}
use Rattle.rules.specs.Time.{Root, departure, arrival}
use Rattle.rules.specs.Hold.{Hold}
use Rattle.rules.specs.Sheet.{Sheet, begin, end, free_time, first_begin}
use Rattle.rules.specs.Refusal.{Rule, rule}

-- x is a divided by b, rounded up: the least whole number that b times reaches a
pub record IsRoundedUp (a b x : ℕ) : Type 0 where
  pub enough : a ≤ x * b
  pub least : (y : ℕ) → a ≤ y * b → x ≤ y

-- ---- the run

-- balise k is the latest at or before the head, which is at point i
pub record IsLatestBalise (l : Line) (i k : ℕ) : Type 0 where
  pub there : k < length l.balise_points
  pub at_or_before : balise_place l k ≤ i * l.step
  pub latest : (j : ℕ) → j < length l.balise_points → balise_place l j ≤ i * l.step → balise_place l j ≤ balise_place l k

-- d is the distance from the latest balise at or before the head, else from point 0, to the head
pub record IsDistance (l : Line) (i d : ℕ) : Type 0 where
  pub from_balise : (k : ℕ) → IsLatestBalise l i k → balise_place l k + d ≡ i * l.step
  pub from_point_0 : ((k : ℕ) → IsLatestBalise l i k → ⊥) → d ≡ i * l.step

-- n is the train's length, grown by 2 m and by the distance divided by 50, rounded up, in steps, rounded up
pub record IsGrownCells (l : Line) (t : Train) (i n : ℕ) : Type 0 where
  pub distance : ℕ
  pub growth : ℕ
  pub distance_is : IsDistance l i distance
  pub growth_is : IsRoundedUp distance 50 growth
  pub cells_are : IsRoundedUp (t.train_length + 2 + growth) l.step n

-- limit k holds in cell c: from the cell at its point up to the next limit's point
pub record InForce (l : Line) (k c : ℕ) : Type 0 where
  pub there : k < length l.limit_points
  pub begun : entry l.limit_points k ≤ c
  pub unended : suc k < length l.limit_points → c < entry l.limit_points (suc k)

-- cell c is one of the cells i - n to i that exist, n that of the grown length
pub record Covers (l : Line) (t : Train) (i c : ℕ) : Type 0 where
  pub from_tail : i ≤ c + grown_cells l t i
  pub to_head : c ≤ i
  pub exists : suc c < l.points

-- v is the lowest of the limits of the cells covered and the last band's top
pub record IsCapSpeed (l : Line) (t : Train) (i v : ℕ) : Type 0 where
  pub top : v ≤ last_top t
  pub limits : (c : ℕ) → Covers l t i c → v ≤ cell_limit l c
  pub greatest : (u : ℕ) → u ≤ last_top t → ((c : ℕ) → Covers l t i c → u ≤ cell_limit l c) → u ≤ v

-- point i is the train's stop k
pub record IsStop (t : Train) (k i : ℕ) : Type 0 where
  pub there : k < length t.stops
  pub here : entry t.stops k ≡ i

-- w is the cap at point i
pub record IsCap (l : Line) (t : Train) (i w : ℕ) : Type 0 where
  pub at_stop : (k : ℕ) → IsStop t k i → w ≡ 0
  pub elsewhere : ((k : ℕ) → IsStop t k i → ⊥) → (v : ℕ) × IsCapSpeed l t i v × (w ≡ 100 * v * (100 * v))

-- the lesser of w with a band's gain and the square of 100 times its top
abbrev pub band_part : Line → Train → ℕ → ℕ → ℕ
band_part l t w k = min (w + entry t.rates k * 2592 * l.step) (100 * entry t.tops k * (100 * entry t.tops k))

-- v is the greatest of the bands' parts
pub record IsStep (l : Line) (t : Train) (w v : ℕ) : Type 0 where
  pub each : (k : ℕ) → k < length t.tops → band_part l t w k ≤ v
  pub attained : (k : ℕ) × (k < length t.tops) × (v ≡ band_part l t w k)

-- The number of r is the greatest whole number whose square is at most w. What is left is w less that square, 0 exactly if w is a square.
pub record IsRoot (w : ℕ) (r : Root) : Type 0 where
  pub square : r.number * r.number ≤ w
  pub greatest : (s : ℕ) → s * s ≤ w → s ≤ r.number
  pub rest : r.left ≡ w - r.number * r.number
  pub whole : r.left ≡ 0 → r.number * r.number ≡ w
  pub exact : (s : ℕ) → s * s ≡ w → r.left ≡ 0

-- d is the dwell at point i: that of a stop other than points 0 and P - 1, in microseconds, else 0
pub record IsDwell (l : Line) (t : Train) (i d : ℕ) : Type 0 where
  pub at_stop : (k : ℕ) → IsStop t k i → 0 < i → suc i < l.points → d ≡ 1000000 * entry t.dwells k
  pub elsewhere : ((k : ℕ) → IsStop t k i → ⊥) → d ≡ 0
  pub first : i ≡ 0 → d ≡ 0
  pub last : suc i ≡ l.points → d ≡ 0

-- ---- the hold of a block

-- point i is at most b and its squared speed is at most G times (b - i)
pub record Brakes (speeds : List ℕ) (loss b i : ℕ) : Type 0 where
  pub before : i ≤ b
  pub slow : entry speeds i ≤ loss * (b - i)

-- a is the greatest such point, or 0 if there is none
pub record IsApproachPoint (speeds : List ℕ) (loss b a : ℕ) : Type 0 where
  pub at_most : a ≤ b
  pub greatest : (i : ℕ) → Brakes speeds loss b i → Brakes speeds loss b a × (i ≤ a)
  pub none : ((i : ℕ) → Brakes speeds loss b i → ⊥) → a ≡ 0

-- h is the hold record of a train with these speeds
pub record IsHold (l : Line) (t : Train) (speeds : List ℕ) (h : Hold) : Type 0 where
  pub count : h.blocks ≡ length l.block_starts
  pub begins :
      (j : ℕ) → j < length l.block_starts →
      (a : ℕ) × IsApproachPoint speeds (braking_loss l t) (entry l.block_starts j) a × (begin h j ≡ departure l t speeds a)
  pub ends :
      (j : ℕ) → j < length l.block_starts →
      end h j ≡ arrival l t speeds (entry l.block_ends j + train_cells l t) + 100000 * l.release + 100000 * l.set_up + 5000000
  pub beyond : (j : ℕ) → length l.block_starts ≤ j → (begin h j ≡ 0) × (end h j ≡ 0)

-- ---- the sheet of starts

-- start plus beginning is at least the free time in every block
abbrev pub Clears : Sheet → Hold → ℕ → Type 0
Clears s h start = (b : ℕ) → b < s.blocks → free_time s b ≤ start + begin h b

-- the least start, 0 or more, that clears
pub record IsLeastStart (s : Sheet) (h : Hold) (start : ℕ) : Type 0 where
  pub clears : Clears s h start
  pub least : (other : ℕ) → Clears s h other → start ≤ other

-- start plus beginning equals the free time of block b
abbrev pub Binds : Sheet → Hold → ℕ → ℕ → Type 0
Binds s h start b = start + begin h b ≡ free_time s b

-- the block named, counted from 1: the last that binds, or 0 if the start is 0. A start above 0 always names one.
pub record IsBlockNamed (s : Sheet) (h : Hold) (start block : ℕ) : Type 0 where
  pub at_zero : start ≡ 0 → block ≡ 0
  pub last :
      0 < start →
      (b : ℕ) × (b < s.blocks) × (block ≡ b + 1) × Binds s h start b × ((c : ℕ) → c < s.blocks → Binds s h start c → c ≤ b)

-- the sheet after an addition at this start
pub record IsSheetAfter (s : Sheet) (h : Hold) (start : ℕ) (after : Sheet) : Type 0 where
  pub blocks : after.blocks ≡ s.blocks
  pub trains : after.trains ≡ s.trains + 1
  pub free-within : (b : ℕ) → b < s.blocks → b < length s.free → free_time after b ≡ start + end h b
  pub first-addition : s.trains ≡ 0 → (b : ℕ) → b < s.blocks → b < length s.first → first_begin after b ≡ begin h b
  pub later-addition : 1 ≤ s.trains → after.first ≡ s.first
  pub beyond : (b : ℕ) → s.blocks ≤ b → (free_time after b ≡ free_time s b) × (first_begin after b ≡ first_begin s b)
  pub free-places : length after.free ≡ length s.free
  pub first-places : length after.first ≡ length s.first

-- ---- numbers of refusal

-- past the end of a list of rules
abbrev pub no_rule : Rule
no_rule = rule 0 true

-- rule i is broken, and every rule that is checked before it is kept
pub record BrokenFirst (rules : List Rule) (i : ℕ) : Type 0 where
  pub there : i < length rules
  pub broken : (get_or rules i no_rule).kept ≡ false
  pub kept-before : (j : ℕ) → j < i → (get_or rules j no_rule).kept ≡ true

-- of several broken rules the first in checking order gives the number of refusal, and it is 0 exactly if no rule is broken
pub record IsFirstBroken (rules : List Rule) (n : ℕ) : Type 0 where
  pub none-broken : n ≡ 0 → (i : ℕ) → i < length rules → (get_or rules i no_rule).kept ≡ true
  pub all_kept_lem : ((i : ℕ) → i < length rules → (get_or rules i no_rule).kept ≡ true) → n ≡ 0
  pub first : (i : ℕ) → BrokenFirst rules i → n ≡ (get_or rules i no_rule).number

-- ---- lent buffers

-- the buffer after the values are written from place `at` on: the other entries, and the length, stay
pub record IsWritten (buffer : List ℕ) (at : ℕ) (values after : List ℕ) : Type 0 where
  pub inside : (i : ℕ) → i < length values → entry after (at + i) ≡ entry values i
  pub before : (i : ℕ) → i < at → entry after i ≡ entry buffer i
  pub behind : (i : ℕ) → at + length values ≤ i → entry after i ≡ entry buffer i
  pub places : length after ≡ length buffer

-- ---- text

-- the value of decimal digits, given what stands in front of them
unfoldable pub value_from : ℕ → List ℕ → ℕ
value_from before [] = before
value_from before (d ∷ ds) = value_from (10 * before + (d - 48)) ds

-- ds are the decimal digits of n, the most significant first, with no zero in front
pub record IsDecimal (n : ℕ) (ds : List ℕ) : Type 0 where
  pub value : value_from 0 ds ≡ n
  pub some_digit : 1 ≤ length ds
  pub digits : (i : ℕ) → i < length ds → (48 ≤ entry ds i) × (entry ds i ≤ 57)
  pub no_zero_in_front : 1 < length ds → 48 < entry ds 0
