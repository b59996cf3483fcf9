-- Tests, rows and the entries of a list one number more, as loops go through them. Assumes nothing.
use Prim.Native.Nat.{ℕ, zero, suc, ◌+◌, ◌-◌, ◌≤◌, ◌<◌, max}
use mathlib.Core.Bool.{Bool, true, false, not}
use mathlib.Core.Logic.{⊎_elim}
use mathlib.Core.List.{List}
use mathlib.Core.Path.{◌≡◌, refl, sym, subst, ap, ap₂, ◌∙◌}
use native.Mathlib.Nat.{le_antisymm, le_of_suc-le-suc, eq-or-lt_of_le}
use native.Mathlib.Numerals.{add-one}
use native.Mathlib.Omega.{arith}
use lib.Dec.{leb}
use lib.ListN.{length, set}
use borrow.Author.Tests.{le-leb, lt-leb, not-true, not-false}
use Rattle.rules.specs.Count.{◌and◌, entry, row_from, row, set_below, greatest_below, every, within, all_within, below_by, rises_by}
use Rattle.rules.proofs.Count.{and_false, every_agree, length-row, entry_row}

-- two tests that the code holds as x and y
pub and_of : {r x y a b : Bool} → r ≡ (x and y) → x ≡ a → y ≡ b → r ≡ (a and b)
and_of e f g = e ∙ ap₂ ◌and◌ f g

-- a branch on a call that answers a test: where `!r` is false the test passes, and where it is true the test fails
pub passed : {r test : Bool} → r ≡ test → not r ≡ false → test ≡ true
passed {r} e h = sym e ∙ not-false r h

pub failed : {r test : Bool} → r ≡ test → not r ≡ true → test ≡ false
failed {r} e h = sym e ∙ not-true r h

-- what holds of the counter at the loop's end holds of the count
at-end : (P : ℕ → Type 0) {i n : ℕ} → i ≤ n → n ≤ i → P i → P n
at-end P l m h = subst P (le_antisymm l m) h

-- ---- every

module _ (test : ℕ → Bool) where
  pub every-none : every 0 test ≡ true
  unfolding every
  every-none = refl

  pub every_more : (i : ℕ) → every i test ≡ true → test i ≡ true → every (i + 1) test ≡ true
  unfolding every ◌and◌
  every_more i before here = rw (add-one, before, here)

  pub every-broken : (n i : ℕ) → i < n → test i ≡ false → every n test ≡ false
  unfolding every ◌and◌
  every-broken zero i l here = absurd (omega arith)
  every-broken (suc n) i l here =
      ⊎_elim (λ e. ap (λ (b : Bool). every n test and b) (ap test (sym e) ∙ here) ∙ and_false (every n test))
      (λ lt. ap (λ (b : Bool). b and test n) (every-broken n i lt here)) (eq-or-lt_of_le (le_of_suc-le-suc l))

  -- a loop that has come to the end has tried every number
  pub every_done : {i n : ℕ} → i ≤ n → n ≤ i → every i test ≡ true → every n test ≡ true
  every_done l m all = at-end (λ k. every k test ≡ true) l m all

-- ---- the greatest

module _ (f : ℕ → ℕ) where
  pub greatest-none : 0 ≡ greatest_below 0 f
  unfolding greatest_below
  greatest-none = refl

  pub greatest_more : (i : ℕ) {m w r : ℕ} → m ≡ greatest_below i f → w ≡ f i → r ≡ max m w → r ≡ greatest_below (i + 1) f
  unfolding greatest_below
  greatest_more i e g h = rw add-one (h ∙ ap₂ max e g)

  pub greatest_done : {g i n : ℕ} → i ≤ n → n ≤ i → g ≡ greatest_below i f → g ≡ greatest_below n f
  greatest_done {g} l m e = at-end (λ k. g ≡ greatest_below k f) l m e

-- ---- the first entries of a list set

module _ (f : ℕ → ℕ) (list : List ℕ) where
  pub set_none : list ≡ set_below 0 f list
  unfolding set_below
  set_none = refl

  pub set_next : (i : ℕ) {t : ℕ} {l : List ℕ} → l ≡ set_below i f list → t ≡ f i → set l i t ≡ set_below (i + 1) f list
  unfolding set_below
  set_next i e g = rw (add-one, e, g)

  pub set_done : {l : List ℕ} {i n : ℕ} → i ≤ n → n ≤ i → l ≡ set_below i f list → l ≡ set_below n f list
  set_done {l} p q e = at-end (λ k. l ≡ set_below k f list) p q e

-- ---- rows

from_agree : (f g : ℕ → ℕ) (a k : ℕ) → ((i : ℕ) → a ≤ i → i < a + k → f i ≡ g i) → row_from f a k ≡ row_from g a k
unfolding row_from
from_agree f g a zero h = refl
from_agree f g a (suc k) h = rw (h a (omega arith) (omega arith), from_agree f g (suc a) k (λ i p q. h i (omega arith) (omega arith)))

pub row_agree : (f g : ℕ → ℕ) (n : ℕ) → ((i : ℕ) → i < n → f i ≡ g i) → row f n ≡ row g n
row_agree f g n h = from_agree f g 0 n (λ i p q. h i (omega arith))

-- ---- tests of a row are tests of what it was made of

module _ (f : ℕ → ℕ) (n : ℕ) where
  pub within-row : (low high : ℕ) → all_within low high (length (row f n)) (entry (row f n)) ≡ all_within low high n f
  within-row low high = rw (length-row f n) (every_agree _ _ n (λ i l. ap (within low high) (entry_row f n i l)))

  pub rises_row : (gap : ℕ) → rises_by gap (length (row f n)) (entry (row f n)) ≡ rises_by gap n f
  rises_row gap = rw (length-row f n) (every_agree _ _ (n - 1)
      (λ i l. ap₂ (λ x y. leb (x + gap) y) (entry_row f n i (omega arith)) (entry_row f n (i + 1) (omega arith))))

  pub below_row : (g : ℕ → ℕ) (gap : ℕ) → below_by gap (length (row f n)) (entry (row f n)) (entry (row g n)) ≡ below_by gap n f (λ i. g (i + 0))
  below_row g gap =
      rw (length-row f n) (every_agree _ _ n (λ i l. ap₂ (λ x y. leb (x + gap) y) (entry_row f n i l) (entry_row g n i l ∙ ap g (omega arith))))

  -- at most the others one place on
  pub below_next_row : (g : ℕ → ℕ) (gap : ℕ) → below_by gap (length (row g n) - 1) (entry (row f n)) (λ i. entry (row g n) (i + 1)) ≡
      below_by gap (n - 1) f (λ i. g (i + 1))
  below_next_row g gap =
      rw (length-row g n) (every_agree _ _ (n - 1) (λ i l. ap₂ (λ x y. leb (x + gap) y) (entry_row f n i (omega arith)) (entry_row g n (i + 1) (omega arith))))

-- a test of a gap between numbers v and w that the code holds as x and y
pub gap_kept : (gap : ℕ) {x y v w : ℕ} → x ≡ v → y ≡ w → x + gap ≤ y → leb (v + gap) w ≡ true
gap_kept gap {x} {y} e f l = rw (← e, ← f) (le-leb (x + gap) y l)

pub gap_broken : (gap : ℕ) {x y v w : ℕ} → x ≡ v → y ≡ w → y < x + gap → leb (v + gap) w ≡ false
gap_broken gap {x} {y} e f l = rw (← e, ← f) (lt-leb (x + gap) y l)
