-- Numbers in bytes, low byte first, and pieces of one length. Assumes nothing.
use Prim.Native.Nat.{ℕ, zero, suc, ◌+◌, ◌*◌, ◌/◌, ◌%◌, ◌^◌, ◌≤◌, ◌<◌}
use mathlib.Core.List.{List, [], ◌∷◌, ◌++◌, append_assoc, append-nil}
use mathlib.Core.Logic.{⊎_elim}
use mathlib.Core.Path.{◌≡◌, refl, sym, ap, ◌∙◌}
use native.Mathlib.Nat.{div-one, div-div-eq-div-mul, pow-suc, pow-succ', eq-or-lt_of_le, mul-zero, mul-suc}
use native.Mathlib.Omega.{arith}
use lib.ListN.{length, set, length-append}
use Rattle.std.specs.Int.{w64, byte_at, bytes_low_first, to_le_bytes}
use Rattle.rules.specs.Calls.{written}
use Rattle.rules.specs.Diagram.{low_first, from_low}
use Rattle.rules.specs.Text.{joined}
use Rattle.rules.proofs.Written.{written_one, written_then}

pub low_first-length : (k n : ℕ) → length (low_first k n) ≡ k
unfolding low_first
low_first-length zero n = refl
low_first-length (suc k) n = ap suc (low_first-length k (n / 256))

-- one byte more
low_first_more : (k n : ℕ) → low_first (suc k) n ≡ low_first k n ++ (n / 256 ^ k % 256 ∷ [])
unfolding low_first
low_first_more zero n = rw div-one
low_first_more (suc k) n = rw (low_first_more k (n / 256), div-div-eq-div-mul, ← pow-succ')

-- the bytes of n, read again
pub from_low-low_first : (k n : ℕ) → n < 256 ^ k → from_low (low_first k n) ≡ n
unfolding low_first from_low
from_low-low_first zero n h = omega arith
from_low-low_first (suc k) n h = rw (from_low-low_first k (n / 256) (omega (arith, pow-succ' 256 k))) (omega arith)

-- one byte behind those that are written
pub written_next :
    (buffer : List ℕ) (at next : ℕ) (xs : List ℕ) (x : ℕ) {after : List ℕ} → after ≡ written buffer at xs → next ≡ at + length xs →
    next < length buffer → next < length after → set after next x ≡ written buffer at (xs ++ (x ∷ []))
written_next buffer at next xs x {after} e q h k =
    written_one after next x k
    ∙ ap (λ (s : List ℕ). written s next (x ∷ [])) e
    ∙ written_then buffer at next xs (x ∷ []) q (omega arith)

-- the library's bytes of a number, from byte i on
byte_is : (i n : ℕ) → byte_at i n ≡ n / 256 ^ i % 256
byte_is zero n = rw div-one
byte_is (suc i) n = refl

low_first-from : (i k n : ℕ) → bytes_low_first i k n ≡ low_first k (n / 256 ^ i)
unfolding low_first
low_first-from i zero n = refl
low_first-from i (suc k) n = rw (byte_is, low_first-from (suc i) k n, div-div-eq-div-mul, ← pow-suc)

pub le_low_first : (n : ℕ) → to_le_bytes w64 n ≡ low_first 8 n
le_low_first n = rw (low_first-from 0 8 n, div-one)

-- ---- pieces one behind the other

module _ (piece : ℕ → List ℕ) where
  -- of one length
  pub joined_even : (w n : ℕ) → ((k : ℕ) → length (piece k) ≡ w) → length (joined piece n) ≡ w * n
  unfolding joined
  joined_even w zero h = sym (mul-zero w)
  joined_even w (suc n) h = rw (length-append, joined_even w n h, h n, mul-suc)

  -- what stands before piece k, this piece, and what stands behind it
  pub joined_split : (k n : ℕ) → k < n → (rest : List ℕ) × (joined piece n ≡ joined piece k ++ (piece k ++ rest))
  unfolding joined
  joined_split k zero h = absurd (omega arith)
  joined_split k (suc n) h =
      ⊎_elim
      (λ (e : k ≡ n). ([], rw (e, append-nil)))
      (λ l.
      let (rest, q) = joined_split k n l in
      (rest ++ piece n, rw (q, append_assoc, append_assoc)))
      (eq-or-lt_of_le (let le : k ≤ n = omega arith in le))
