-- The root's number is the greatest whole number whose square is at most w, and grows with w. Assumes nothing.
use Prim.Native.Nat.{ℕ, zero, suc, ◌+◌, ◌-◌, ◌*◌, ◌/◌, ◌≤◌, ◌<◌}
use mathlib.Core.Bool.{Bool, true, false, cond}
use mathlib.Core.Path.{◌≡◌, refl}
use native.Mathlib.Nat.{mul-suc, suc-mul, mul-mul-mul_comm, mul-le-mul, lt_of_not-le, not-le_of_lt, le_antisymm, le_of_eq, le_of_suc-le-suc}
use native.Mathlib.Nat.{lt_of_le_of_lt, le_trans}
use native.Mathlib.Numerals.{add-one}
use native.Mathlib.Omega.{arith}
use lib.Dec.{leb}
use borrow.Author.Tests.{leb-true, leb-false}
use Rattle.rules.specs.Time.{next_digit, root_digits, leaving, root}
use Rattle.rules.specs.Meaning.{IsRoot}

square_suc : (r : ℕ) → suc r * suc r ≡ r * r + 2 * r + 1
square_suc r = omega (arith, mul-suc (suc r) r, suc-mul r r)

square_twice : (r : ℕ) → 2 * r * (2 * r) ≡ 4 * (r * r)
square_twice r = mul-mul-mul_comm 2 r 2 r

square_odd : (r : ℕ) → (2 * r + 1) * (2 * r + 1) ≡ 4 * (r * r) + 4 * r + 1
square_odd r = rw (add-one (2 * r)) (omega (arith, square_suc (2 * r), square_twice r))

-- w is from the square of r on and below the next square
record Between (w r : ℕ) : Type 0 where
  square : r * r ≤ w
  above : w < suc r * suc r

digit : (w r : ℕ) → Between (w / 4) r → Between w (next_digit w r)
unfolding next_digit
digit w r h = go (leb ((2 * r + 1) * (2 * r + 1)) w) refl
  where
    go : (b : Bool) → leb ((2 * r + 1) * (2 * r + 1)) w ≡ b → Between w (cond b (2 * r + 1) (2 * r))
    go true e = record { square = leb-true _ _ e; above = omega (arith, h.above, square_suc r, square_odd r, square_suc (2 * r + 1)) }
    go false e =
        record {
          square = omega (arith, h.square, square_twice r);
          above = omega (arith, leb-false ((2 * r + 1) * (2 * r + 1)) w e, square_odd r, square_twice r, square_suc (2 * r));
        }

root-digits : (k w : ℕ) → w ≤ k → Between w (root_digits k w)
unfolding root_digits
root-digits zero zero h = record { square = omega arith; above = omega arith }
root-digits zero (suc v) h = absurd (omega arith)
root-digits (suc k) zero h = record { square = omega arith; above = omega arith }
root-digits (suc k) (suc v) h = digit (suc v) (root_digits k (suc v / 4)) (root-digits k (suc v / 4) (omega arith))

greatest : {w r : ℕ} → Between w r → (s : ℕ) → s * s ≤ w → s ≤ r
greatest b s h = le_of_suc-le-suc (lt_of_not-le (λ m. not-le_of_lt (lt_of_le_of_lt h b.above) (mul-le-mul m m)))

pub root_is : (w : ℕ) → IsRoot w (root w)
unfolding root leaving
root_is w =
    let b = root-digits w w (omega arith) in
    record {
      square = b.square;
      greatest = greatest b;
      rest = refl;
      whole = λ z. omega (arith, b.square);
      exact = λ s e. let m = greatest b s (le_of_eq e) in omega (arith, mul-le-mul m m);
    }

pub root-least : (r : ℕ) {w : ℕ} → r * r ≤ w → r ≤ (root w).number
root-least r {w} h = (root_is w).greatest r h

pub root_leaves : (w : ℕ) → w - (root w).number * (root w).number ≤ 2 * (root w).number
unfolding root leaving
root_leaves w = omega (arith, (root-digits w w (omega arith)).above, square_suc (root_digits w w))

-- the root is told by its number, and this by what is left
pub root_told : (w : ℕ) {r : ℕ} → r ≡ (root w).number → record { number = r; left = w - r * r } ≡ root w
unfolding root leaving
root_told w q = rw q

pub root_by : {w r left : ℕ} → left + r * r ≡ w → left ≤ 2 * r → record { number = r; left = left } ≡ root w
root_by {w} {r} {left} e h =
    let b : Between w r = record { square = omega arith; above = omega (arith, square_suc r) } in
    let q : r ≡ (root w).number = le_antisymm (root-least r b.square) (greatest b (root w).number (root_is w).square) in
    let z : left ≡ w - r * r = omega arith in
    rw z (root_told w q)

pub root_mono : {v w : ℕ} → v ≤ w → (root v).number ≤ (root w).number
root_mono {v} h = root-least (root v).number (le_trans (root_is v).square h)
