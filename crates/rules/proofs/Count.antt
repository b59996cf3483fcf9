-- Laws of the tests, choices and rows over the whole numbers below a count. Assumes nothing.
use Prim.Native.Nat.{ℕ, zero, suc, ◌+◌, ◌-◌, ◌*◌, ◌/◌, ◌≤◌, ◌<◌, min, max}
use mathlib.Core.Bool.{Bool, true, false, false≢true}
use mathlib.Core.Logic.{◌↔◌, ◌⊎◌, inl, inr, ⊎_elim}
use mathlib.Core.List.{List}
use mathlib.Core.Option.{none, some}
use mathlib.Core.Path.{◌≡◌, refl, sym, subst, ap, ap₂, ◌∙◌}
use native.Mathlib.Decide.{dec_le}
use native.Mathlib.Nat.{le_refl, le_trans, le-suc_iff, le_of_suc-le-suc, eq-or-lt_of_le, le-max_left, le-max_right, max-le, add-zero, zero-add}
use native.Mathlib.Nat.{lt-div-mul-add, div-lt_iff_lt-mul, suc-mul, mul-le-mul_left}
use native.Mathlib.Omega.{arith}
use lib.Dec.{leb}
use lib.ListN.{length, set, length-set}
use lib.Seq.{get_or-set_same, get_or-set_other}
use borrow.Author.Tests.{leb-true, le-leb}
use Rattle.rules.specs.Count.{◌and◌, entry, row_from, row, set_below, every, within, all_within, below_by, rises_by, greatest_below, lowest_from}
use Rattle.rules.specs.Count.{or_zero, is_there, if_passes, or_else, first_below, last_below, ceil_div}
use Rattle.rules.specs.Meaning.{IsRoundedUp}

-- what holds of each number below n, and of n, holds of each below n + 1
pub below_suc : (P : ℕ → Type 0) (n : ℕ) → ((i : ℕ) → i < n → P i) → P n → (i : ℕ) → i < suc n → P i
below_suc P n all here i l = ⊎_elim (λ e. subst P (sym e) here) (λ lt. all i lt) (eq-or-lt_of_le (le_of_suc-le-suc l))

-- ---- the first entries of a list set

module _ (f : ℕ → ℕ) (list : List ℕ) where
  pub length-set_below : (n : ℕ) → length (set_below n f list) ≡ length list
  unfolding set_below
  length-set_below zero = refl
  length-set_below (suc n) = length-set (set_below n f list) n (f n) ∙ length-set_below n

  pub set_below-at : (n i : ℕ) → i < n → i < length list → entry (set_below n f list) i ≡ f i
  unfolding set_below
  set_below-at zero i l m = absurd (omega arith)
  set_below-at (suc n) i l m =
      below_suc (λ i. i < length list → entry (set (set_below n f list) n (f n)) i ≡ f i) n
      (λ i l m. get_or-set_other (set_below n f list) n i (f n) 0 (omega arith) ∙ set_below-at n i l m)
      (λ m. get_or-set_same (set_below n f list) n (f n) 0 (omega (arith, length-set_below n)))
      i
      l
      m

  pub set_below-beyond : (n i : ℕ) → n ≤ i → entry (set_below n f list) i ≡ entry list i
  unfolding set_below
  set_below-beyond zero i l = refl
  set_below-beyond (suc n) i l = get_or-set_other (set_below n f list) n i (f n) 0 (omega arith) ∙ set_below-beyond n i (omega arith)

pub set_below_agree : (f g : ℕ → ℕ) (n : ℕ) (list : List ℕ) → ((i : ℕ) → i < n → f i ≡ g i) → set_below n f list ≡ set_below n g list
unfolding set_below
set_below_agree f g zero list h = refl
set_below_agree f g (suc n) list h = rw (set_below_agree f g n list (λ i l. h i (omega arith)), h n (omega arith))

-- ---- tests

pub and_left : (a b : Bool) → (a and b) ≡ true → a ≡ true
unfolding ◌and◌
and_left true b e = refl
and_left false b e = e

pub and_right : (a b : Bool) → (a and b) ≡ true → b ≡ true
unfolding ◌and◌
and_right true b e = e
and_right false b e = absurd (false≢true e)

pub and_both : {a b : Bool} → a ≡ true → b ≡ true → (a and b) ≡ true
unfolding ◌and◌
and_both e f = rw (e, f)

pub and_false : (b : Bool) → (b and false) ≡ false
unfolding ◌and◌
and_false true = refl
and_false false = refl

-- both fail where the first passes: the second fails
pub and_rest : {a b : Bool} → a ≡ true → (a and b) ≡ false → b ≡ false
unfolding ◌and◌
and_rest {a} {b} e f = rw e at f

-- two tests that pass together are equal
pub same_test : (a b : Bool) → (a ≡ true → b ≡ true) → (b ≡ true → a ≡ true) → a ≡ b
same_test true b f g = sym (f refl)
same_test false true f g = g refl
same_test false false f g = refl

-- a test that cannot pass fails
pub fails : (a : Bool) → (a ≡ true → ⊥) → false ≡ a
fails true f = absurd (f refl)
fails false f = refl

pub every-at : (test : ℕ → Bool) (n : ℕ) → every n test ≡ true → (i : ℕ) → i < n → test i ≡ true
unfolding every
every-at test zero e i l = absurd (omega arith)
every-at test (suc n) e i l =
    below_suc (λ i. test i ≡ true) n (every-at test n (and_left (every n test) (test n) e)) (and_right (every n test) (test n) e) i l

pub every_all : (test : ℕ → Bool) (n : ℕ) → ((i : ℕ) → i < n → test i ≡ true) → every n test ≡ true
unfolding every
every_all test zero h = refl
every_all test (suc n) h = and_both (every_all test n (λ i l. h i (omega arith))) (h n (omega arith))

-- a test that fails somewhere
pub every_some : (test : ℕ → Bool) (n : ℕ) → every n test ≡ false → (i : ℕ) × (i < n) × (test i ≡ false)
unfolding every
every_some test zero e = absurd (false≢true (sym e))
every_some test (suc n) e = go (every n test) refl (every_some test n)
  where
    go : (b : Bool) → every n test ≡ b → (every n test ≡ false → (i : ℕ) × (i < n) × (test i ≡ false)) → (i : ℕ) × (i < suc n) × (test i ≡ false)
    go true q r = (n, omega arith, and_rest q e)
    go false q r = let (i, l, f) = r q in (i, omega arith, f)

pub every_agree : (f g : ℕ → Bool) (n : ℕ) → ((i : ℕ) → i < n → f i ≡ g i) → every n f ≡ every n g
unfolding every
every_agree f g zero h = refl
every_agree f g (suc n) h = ap₂ ◌and◌ (every_agree f g n (λ i l. h i (omega arith))) (h n (omega arith))

pub within_means : (low high x : ℕ) → within low high x ≡ true → (low ≤ x) × (x ≤ high)
unfolding within
within_means low high x e = (leb-true low x (and_left (leb low x) (leb x high) e), leb-true x high (and_right (leb low x) (leb x high) e))

pub within_holds : (low high x : ℕ) → low ≤ x → x ≤ high → within low high x ≡ true
unfolding within
within_holds low high x l h = and_both (le-leb low x l) (le-leb x high h)

pub all_within_means : (low high n : ℕ) (f : ℕ → ℕ) → all_within low high n f ≡ true → (i : ℕ) → i < n → (low ≤ f i) × (f i ≤ high)
all_within_means low high n f e i l = within_means low high (f i) (every-at (λ i. within low high (f i)) n e i l)

pub all_within_holds : (low high n : ℕ) (f : ℕ → ℕ) → ((i : ℕ) → i < n → low ≤ f i) → ((i : ℕ) → i < n → f i ≤ high) → all_within low high n f ≡ true
all_within_holds low high n f l h = every_all (λ i. within low high (f i)) n (λ i m. within_holds low high (f i) (l i m) (h i m))

pub below_means : (gap n : ℕ) (f g : ℕ → ℕ) → below_by gap n f g ≡ true → (i : ℕ) → i < n → f i + gap ≤ g i
below_means gap n f g e i l = leb-true (f i + gap) (g i) (every-at (λ i. leb (f i + gap) (g i)) n e i l)

pub below_holds : (gap n : ℕ) (f g : ℕ → ℕ) → ((i : ℕ) → i < n → f i + gap ≤ g i) → below_by gap n f g ≡ true
below_holds gap n f g h = every_all (λ i. leb (f i + gap) (g i)) n (λ i l. le-leb (f i + gap) (g i) (h i l))

-- the next value, at i + 1 and at suc i
next : (f : ℕ → ℕ) (i : ℕ) → f (i + 1) ≡ f (suc i)
next f i = ap f (omega arith)

pub rises_means : (gap n : ℕ) (f : ℕ → ℕ) → rises_by gap n f ≡ true → (i : ℕ) → suc i < n → f i + gap ≤ f (suc i)
rises_means gap n f e i l = rw (next f i) at (below_means gap (n - 1) f (λ i. f (i + 1)) e i (omega arith))

pub rises_holds : (gap n : ℕ) (f : ℕ → ℕ) → ((i : ℕ) → suc i < n → f i + gap ≤ f (suc i)) → rises_by gap n f ≡ true
rises_holds gap n f h = below_holds gap (n - 1) f (λ i. f (i + 1)) (λ i l. rw (next f i) (h i (omega arith)))

-- where no value is above the next, none is above a later one
pub rises_far : (f : ℕ → ℕ) (n : ℕ) → ((k : ℕ) → suc k < n → f k ≤ f (suc k)) → (j k : ℕ) → j ≤ k → k < n → f j ≤ f k
rises_far f n r j zero h g = let e : j ≡ 0 = omega arith in rw e (omega arith)
rises_far f n r j (suc k) h g = ⊎_elim (λ p. le_trans (rises_far f n r j k p (omega arith)) (r k g)) (λ e. rw e (omega arith)) (le-suc_iff.0 h)

-- ---- the greatest, the lowest, the first, the last

pub at_most-greatest : (n : ℕ) (f : ℕ → ℕ) (i : ℕ) → i < n → f i ≤ greatest_below n f
unfolding greatest_below
at_most-greatest zero f i l = absurd (omega arith)
at_most-greatest (suc n) f i l =
    below_suc (λ i. f i ≤ max (greatest_below n f) (f n)) n (λ i l. le_trans (at_most-greatest n f i l) (le-max_left (greatest_below n f) (f n)))
    (le-max_right (greatest_below n f) (f n)) i l

pub greatest-at_most : (n : ℕ) (f : ℕ → ℕ) (k : ℕ) → ((i : ℕ) → i < n → f i ≤ k) → greatest_below n f ≤ k
unfolding greatest_below
greatest-at_most zero f k h = omega arith
greatest-at_most (suc n) f k h = max-le (greatest-at_most n f k (λ i l. h i (omega arith))) (h n (omega arith))

-- a greatest value above 0 is one of the values
pub greatest-attained : (n : ℕ) (f : ℕ → ℕ) → 0 < greatest_below n f → (i : ℕ) × (i < n) × (f i ≡ greatest_below n f)
unfolding greatest_below
greatest-attained zero f h = absurd (omega arith)
greatest-attained (suc n) f h = go (dec_le (greatest_below n f) (f n)) (greatest-attained n f)
  where
    go : Dec (greatest_below n f ≤ f n) → (0 < greatest_below n f → (i : ℕ) × (i < n) × (f i ≡ greatest_below n f)) → (i : ℕ) × (i < suc n) ×
        (f i ≡ max (greatest_below n f) (f n))
    go (yes g) r = (n, omega arith, omega arith)
    go (no g) r = let (i, l, e) = r (omega arith) in (i, omega arith, omega arith)

pub greatest_agree : (n : ℕ) (f g : ℕ → ℕ) → ((i : ℕ) → i < n → f i ≡ g i) → greatest_below n f ≡ greatest_below n g
unfolding greatest_below
greatest_agree zero f g h = refl
greatest_agree (suc n) f g h = ap₂ max (greatest_agree n f g (λ i l. h i (omega arith))) (h n (omega arith))

pub lowest_le : (f : ℕ → ℕ) (m a k : ℕ) → lowest_from f m a k ≤ m
unfolding lowest_from
lowest_le f m a zero = le_refl m
lowest_le f m a (suc k) = omega (arith, lowest_le f m (suc a) k)

pub lowest_each : (f : ℕ → ℕ) (m a k c : ℕ) → a ≤ c → c < a + k → lowest_from f m a k ≤ f c
unfolding lowest_from
lowest_each f m a zero c h g = absurd (omega arith)
lowest_each f m a (suc k) c h g = go (dec_le c a) (λ p. lowest_each f m (suc a) k c p (omega arith))
  where
    go : Dec (c ≤ a) → (a < c → lowest_from f m (suc a) k ≤ f c) → min (f a) (lowest_from f m (suc a) k) ≤ f c
    go (yes p) r = let e : c ≡ a = omega arith in rw e (omega arith)
    go (no p) r = omega (arith, r (omega arith))

pub lowest_greatest : (f : ℕ → ℕ) (m u a k : ℕ) → u ≤ m → ((c : ℕ) → a ≤ c → c < a + k → u ≤ f c) → u ≤ lowest_from f m a k
unfolding lowest_from
lowest_greatest f m u a zero h g = h
lowest_greatest f m u a (suc k) h g =
    omega (arith, g a (le_refl a) (omega arith), lowest_greatest f m u (suc a) k h (λ c p q. g c (omega arith) (omega arith)))

-- what the first number that passes is: none passes, or b does and none before it
abbrev pub NonePasses : ℕ → (ℕ → Bool) → Type 0
NonePasses n test = (i : ℕ) → i < n → test i ≡ false

pub record FirstPasses (n : ℕ) (test : ℕ → Bool) (b : ℕ) : Type 0 where
  pub there : b < n
  pub passes : test b ≡ true
  pub none_before : NonePasses b test

first-none : (n : ℕ) (test : ℕ → Bool) → NonePasses n test → first_below n test ≡ none
unfolding first_below
first-none zero test h = refl
first-none (suc n) test h = rw (first-none n test (λ i l. h i (omega arith)), h n (omega arith))

first_found : (n : ℕ) (test : ℕ → Bool) (b : ℕ) → FirstPasses n test b → first_below n test ≡ some b
unfolding first_below
first_found zero test b f = absurd (omega (arith, f.there))
first_found (suc n) test b f = go (dec_le n b) (first_found n test b)
  where
    go : Dec (n ≤ b) → (FirstPasses n test b → first_below n test ≡ some b) → or_else (first_below n test) (if_passes (test n) n) ≡ some b
    go (yes g) r =
        let e : n ≡ b = omega (arith, f.there) in
        let z : first_below n test ≡ none = first-none n test (rw (← e) at f.none_before) in
        let p : test n ≡ true = rw (← e) at f.passes in
        rw (z, p, e)
    go (no g) r = rw (r (record { there = omega arith; passes = f.passes; none_before = f.none_before }))

pub find_first : (n : ℕ) (test : ℕ → Bool) → NonePasses n test ⊎ ((b : ℕ) × FirstPasses n test b)
find_first zero test = inl (λ i l. absurd (omega arith))
find_first (suc n) test = go (find_first n test) (test n) refl
  where
    go : NonePasses n test ⊎ ((b : ℕ) × FirstPasses n test b) → (x : Bool) → test n ≡ x → NonePasses (suc n) test ⊎ ((b : ℕ) × FirstPasses (suc n) test b)
    go (inl h) true e = inr (n, record { there = omega arith; passes = e; none_before = h })
    go (inl h) false e = inl (below_suc (λ i. test i ≡ false) n h e)
    go (inr f) x e = inr (f.0, record { there = omega (arith, f.1.there); passes = f.1.passes; none_before = f.1.none_before })

-- the first number that passes, where there is one
pub first_known : (n : ℕ) (test : ℕ → Bool) → is_there (first_below n test) ≡ true → (b : ℕ) × (first_below n test ≡ some b) × FirstPasses n test b
unfolding is_there
first_known n test e =
    ⊎_elim (λ fails. absurd (false≢true (ap is_there (sym (first-none n test fails)) ∙ e))) (λ f. (f.0, first_found n test f.0 f.1, f.1)) (find_first n test)

-- there is one exactly where some number passes
pub first-there : (n : ℕ) (test : ℕ → Bool) → (is_there (first_below n test) ≡ true) ↔ ((i : ℕ) × (i < n) × (test i ≡ true))
unfolding is_there
first-there n test = (
  λ e. let (b, known, f) = first_known n test e in (b, f.there, f.passes),
  λ s. ⊎_elim (λ fails. absurd (false≢true (sym (fails s.0 s.1) ∙ s.2))) (λ f. ap is_there (first_found n test f.0 f.1)) (find_first n test),
)

-- the last number below suc n is n, if it passes, and otherwise the last below n
pub last-here : (n : ℕ) (test : ℕ → Bool) → test n ≡ true → last_below (suc n) test ≡ some n
unfolding last_below
last-here n test e = rw e

pub last_lower : (n : ℕ) (test : ℕ → Bool) → test n ≡ false → last_below (suc n) test ≡ last_below n test
unfolding last_below
last_lower n test e = rw e

-- the last number that passes
pub record LastPasses (n : ℕ) (test : ℕ → Bool) (j : ℕ) : Type 0 where
  pub found : last_below n test ≡ some j
  pub there : j < n
  pub passes : test j ≡ true
  pub last : (i : ℕ) → i < n → test i ≡ true → i ≤ j

-- there is one where some number passes
pub last_passes : (n : ℕ) (test : ℕ → Bool) (i : ℕ) → i < n → test i ≡ true → (j : ℕ) × LastPasses n test j
last_passes zero test i l e = absurd (omega arith)
last_passes (suc n) test i l e = go (test n) refl (λ h. last_passes n test i h e)
  where
    lower : test n ≡ false → (k : ℕ) → k < suc n → test k ≡ true → k < n
    lower q k m p = ⊎_elim (λ (z : k ≡ n). absurd (false≢true (sym q ∙ ap test (sym z) ∙ p))) (λ lt. lt) (eq-or-lt_of_le (le_of_suc-le-suc m))

    go : (b : Bool) → test n ≡ b → (i < n → (j : ℕ) × LastPasses n test j) → (j : ℕ) × LastPasses (suc n) test j
    go true q r = (n, record { found = last-here n test q; there = omega arith; passes = q; last = λ k m p. omega arith })
    go false q r =
        let (j, f) = r (lower q i l e) in (
          j,
          record {
            found = last_lower n test q ∙ f.found;
            there = omega (arith, f.there);
            passes = f.passes;
            last = λ k m p. f.last k (lower q k m p) p;
          },
        )

pub last_none : (n : ℕ) (test : ℕ → Bool) → NonePasses n test → last_below n test ≡ none
unfolding last_below
last_none zero test h = refl
last_none (suc n) test h = last_lower n test (h n (omega arith)) ∙ last_none n test (λ i l. h i (omega arith))

pub last_agree : (n : ℕ) (f g : ℕ → Bool) → ((i : ℕ) → i < n → f i ≡ g i) → last_below n f ≡ last_below n g
unfolding last_below
last_agree zero f g e = refl
last_agree (suc n) f g e = rw (e n (omega arith), last_agree n f g (λ i h. e i (omega arith)))

pub last-at_most : (n : ℕ) (test : ℕ → Bool) → or_zero (last_below n test) ≤ n - 1
unfolding last_below
last-at_most zero test = omega arith
last-at_most (suc n) test = go (test n) (last-at_most n test)
  where
    go : (b : Bool) → or_zero (last_below n test) ≤ n - 1 → or_zero (or_else (if_passes b n) (last_below n test)) ≤ suc n - 1
    go true h = omega arith
    go false h = omega arith

-- ---- rows

pub length_from : (f : ℕ → ℕ) (a k : ℕ) → length (row_from f a k) ≡ k
unfolding row_from
length_from f a zero = refl
length_from f a (suc k) = ap suc (length_from f (suc a) k)

pub length-row : (f : ℕ → ℕ) (n : ℕ) → length (row f n) ≡ n
length-row f n = length_from f 0 n

entry_from : (f : ℕ → ℕ) (a k i : ℕ) → i < k → entry (row_from f a k) i ≡ f (a + i)
unfolding row_from
entry_from f a zero i h = absurd (omega arith)
entry_from f a (suc k) zero h = rw add-zero
entry_from f a (suc k) (suc i) h = entry_from f (suc a) k i (omega arith) ∙ ap f (omega arith)

pub entry_row : (f : ℕ → ℕ) (n i : ℕ) → i < n → entry (row f n) i ≡ f i
entry_row f n i h = entry_from f 0 n i h ∙ ap f (zero-add i)

-- ---- rounding up

pub rounded_up : (a : ℕ) {b : ℕ} → 0 < b → IsRoundedUp a b (ceil_div a b)
unfolding ceil_div
rounded_up a {b} h =
    record {
      enough = let g : a + (b - 1) < (a + (b - 1)) / b * b + b = lt-div-mul-add h in omega arith;
      least = λ y k. let g : (a + (b - 1)) / b < suc y = (div-lt_iff_lt-mul h).1 (omega (arith, suc-mul y b)) in omega arith;
    }

-- a greater divisor, a lesser quotient
pub ceil_antitone : (a : ℕ) {r s : ℕ} → 0 < r → r ≤ s → ceil_div a s ≤ ceil_div a r
ceil_antitone a {r} {s} h k = let p : 0 < s = omega arith in
    (rounded_up a p).least (ceil_div a r) (le_trans (rounded_up a h).enough (mul-le-mul_left (ceil_div a r) k))
