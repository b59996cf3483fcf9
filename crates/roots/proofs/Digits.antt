-- The root digit by digit: where it lies once some digits are found; and from a guess. Assumes nothing.
use Rattle.std.proofs.Common.{◌≡◌, ℕ, zero, suc, pred, ◌+◌, ◌-◌, ◌*◌, ◌/◌, ◌%◌, ◌^◌, ◌<◌, ◌≤◌, eqb, leb, sym, refl, ap, ◌∙◌, le_trans, le_of_eq, lt_of_lt_of_le, mod-eq_of_lt, mul_comm, add-mul, mul-le-mul, one-mul, mul-one, mul-add, two-mul, arith, pow_pos, pow_mono, pow-add, shl_exact, eq-eqb, ne_eqb, le-leb}
use native.Mathlib.Nat.{two-pow-succ}
use native.Mathlib.Decide.{dec_le}
use lib.Count.{count_leading_zeros, leading_length}
use borrow.Author.Tests.{lt-leb}
use Rattle.rules.specs.Time.{Root, root}
use Rattle.rules.proofs.Root.{root_is, root_leaves, root_by}

-- at the loop's test: `found` is the root of the digits found, and `digits` counts those still to find
-- the root of w is from `found` on and below found + 2 ^ digits
pub record Within (w bit r left : ℕ) : Type 0 where
  pub found : ℕ
  pub digits : ℕ
  pub trial_bit : bit ≡ 2 ^ digits * 2 ^ digits / 4
  pub shifted : r ≡ found * 2 ^ digits
  pub rest : left + found * found ≡ w
  pub above : w < (found + 2 ^ digits) * (found + 2 ^ digits)
  pub room : found + 2 ^ digits ≤ 65536

first-square : (k : ℕ) → k ≤ 16 → (1 * 2 ^ (2 * k)) % 2 ^ 64 ≡ 2 ^ k * 2 ^ k
first-square k h = rw (shl_exact {a = 1} 1 (2 * k) 64 (omega arith) (omega arith), one-mul, two-mul) (pow-add 2 k k)

first : (w m z k : ℕ) → z + m ≡ 32 → w < 2 ^ m → k ≡ (33 - z) / 2 → Within w ((1 * 2 ^ (2 * k)) % 2 ^ 64 / 4) 0 w
first w m z k e h q =
    let b : k ≤ 16 = omega arith in
    let p : 2 ^ k ≤ 65536 = pow_mono b in
    let t : 0 + 2 ^ k ≡ 2 ^ k = omega arith in
    let g : w < 2 ^ k * 2 ^ k = lt_of_lt_of_le h (le_trans (pow_mono (omega arith)) (le_of_eq (pow-add 2 k k))) in
    record { found = 0; digits = k; trial_bit = rw (first-square k b); shifted = omega arith; rest = omega arith; above = rw t g; room = omega arith }

-- the first trial bit, from the count of leading zeros
pub within_first : (w : ℕ) → w < 2 ^ 32 → Within w ((1 * 2 ^ (2 * ((33 - count_leading_zeros 32 w) / 2))) % 2 ^ 64 / 4) 0 w
within_first w h = let l = leading_length 32 w h in first w l.0 (count_leading_zeros 32 w) _ l.1 l.2 refl

pub bit_fits : {w bit r left : ℕ} → Within w bit r left → bit < 2 ^ 32
bit_fits i = let h : 2 ^ i.digits ≤ 65536 = omega arith in omega (arith, mul-le-mul h h)

square_sum : (a b : ℕ) → (a + b) * (a + b) ≡ a * a + 2 * (a * b) + b * b
square_sum a b = simp (mul-add, add-mul) (omega (arith, mul_comm a b))

halves : (k : ℕ) → 0 < 2 ^ k * 2 ^ k / 4 → 2 ^ k ≡ 2 ^ pred k + 2 ^ pred k
halves zero h = absurd (omega arith)
halves (suc k) h = two-pow-succ k

-- a round: p is the digit on trial
module _ {w bit r left : ℕ} (i : Within w bit r left) (b : 0 < bit) where
  abbrev p : ℕ
  p = 2 ^ pred i.digits

  two : 2 ^ i.digits ≡ p + p
  two = halves i.digits (omega arith)

  bit_square : bit ≡ p * p
  bit_square = omega (arith, rw two at i.trial_bit, square_sum p p)

  r_twice : r ≡ 2 * (i.found * p)
  r_twice = omega (arith, rw (two, mul-add) at i.shifted)

  trial_square : (i.found + p) * (i.found + p) ≡ i.found * i.found + (r + bit)
  trial_square = omega (arith, square_sum i.found p, bit_square, r_twice)

  pub trial_fits : r + bit < 2 ^ 32
  trial_fits = let h : i.found + p ≤ 65535 = omega (arith, two, pow_pos (pred i.digits)) in omega (arith, mul-le-mul h h, trial_square)

  pub within_taken : r + bit ≤ left → Within w (bit / 4) (r / 2 + bit) (left - (r + bit))
  within_taken h =
      let z : i.found + p + p ≡ i.found + 2 ^ i.digits = omega (arith, two) in
      record {
        found = i.found + p;
        digits = pred i.digits;
        trial_bit = omega (arith, bit_square);
        shifted = rw add-mul (omega (arith, bit_square, r_twice));
        rest = omega (arith, trial_square);
        above = rw z i.above;
        room = omega (arith, two);
      }

  pub within-left : left < r + bit → Within w (bit / 4) (r / 2) left
  within-left h =
      record {
        found = i.found;
        digits = pred i.digits;
        trial_bit = omega (arith, bit_square);
        shifted = omega (arith, r_twice);
        rest = i.rest;
        above = omega (arith, trial_square);
        room = omega (arith, two);
      }

none_left : (k : ℕ) → 2 ^ k * 2 ^ k / 4 ≡ 0 → k ≡ 0
none_left zero h = refl
none_left (suc k) h = let p : 2 ≤ 2 ^ suc k = pow_mono {i = 1} (omega arith) in absurd (omega (arith, mul-le-mul p p))

-- no digit is still to find
pub within-last : {w bit r left : ℕ} → Within w bit r left → bit ≡ 0 → (record { number = r; left = left } ≡ root w) × (r ≤ 65535)
within-last {w} {bit} {r} {left} i h =
    let z : i.digits ≡ 0 = none_left i.digits (omega arith) in
    let e : r ≡ i.found = rw (z, mul-one) at i.shifted in
    let above : w < (i.found + 1) * (i.found + 1) = rw z at i.above in
    let leaves : left ≤ 2 * i.found = omega (arith, i.rest, square_sum i.found 1) in
    (rw e (root_by i.rest leaves), omega (arith, pow_pos i.digits))

-- a guess is the number of the root exactly if it leaves at most twice itself, modulo 2 ^ 32
module _ {w left r : ℕ} (h : r ≤ 65535) (e : (left + r * r) % 2 ^ 32 ≡ w) where
  guess_root : left ≤ 2 * r → r ≡ (root w).number
  guess_root k =
      let square = mul-le-mul h h in
      let whole : left + r * r ≡ w = sym (mod-eq_of_lt (omega arith)) ∙ e in
      ap (λ (a : Root). a.number) (root_by whole k)

  root_guess : left < 2 ^ 32 → r ≡ (root w).number → left ≤ 2 * r
  root_guess b q =
      let square : r * r ≤ w = rw q (root_is w).square in
      let leaves : w - r * r ≤ 2 * r = rw q (root_leaves w) in
      omega (arith, mul-le-mul h h)

  pub guessed : left < 2 ^ 32 → leb left (2 * r) ≡ eqb r (root w).number
  guessed b = go (dec_le left (2 * r))
    where
      go : Dec (left ≤ 2 * r) → leb left (2 * r) ≡ eqb r (root w).number
      go (yes k) = le-leb left (2 * r) k ∙ sym (eq-eqb r (root w).number (guess_root k))
      go (no k) = lt-leb left (2 * r) (omega arith) ∙ sym (ne_eqb r (root w).number (λ q. k (root_guess b q)))
