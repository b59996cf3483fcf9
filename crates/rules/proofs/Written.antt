-- A lent buffer after values are written into it. Assumes nothing.
use Prim.Native.Nat.{ℕ, zero, suc, ◌+◌, ◌≤◌, ◌<◌}
use mathlib.Core.List.{List, [], ◌∷◌, ◌++◌, append_assoc}
use mathlib.Core.Logic.{⊎_elim}
use mathlib.Core.Path.{◌≡◌, refl, sym, ap, ap₂, ◌∙◌}
use native.Mathlib.Nat.{zero-add, add-zero, eq-or-lt_of_le}
use native.Mathlib.Numerals.{add-one}
use native.Mathlib.Omega.{arith}
use lib.ListN.{length, take, drop, set, length-append, length-take, length-drop, take-append-drop, get_or-append}
use lib.Seq.{take_at, drop_at, drop-append-add, drop-drop, set_split}
use Rattle.rules.specs.Calls.{written}
use Rattle.rules.specs.Count.{entry, row}
use Rattle.rules.specs.Text.{joined}
use Rattle.rules.proofs.Count.{length-row}
use Rattle.rules.proofs.Fill.{Filled, fill_done}

module _ (buffer : List ℕ) (at : ℕ) where
  pub written_none : buffer ≡ written buffer at []
  unfolding written
  written_none = rw (add-zero, take-append-drop)

  pub written_one : (value : ℕ) → at < length buffer → set buffer at value ≡ written buffer at (value ∷ [])
  unfolding written
  written_one value h = rw add-one (set_split buffer at value h)

  pub written_then :
      (next : ℕ) (xs ys : List ℕ) → next ≡ at + length xs → next + length ys ≤ length buffer →
      written (written buffer at xs) next ys ≡ written buffer at (xs ++ ys)
  unfolding written
  written_then next xs ys e h =
      let front : List ℕ = take at buffer ++ xs in
      let rest : List ℕ = drop (at + length xs) buffer in
      let long : length front ≡ next = simp (length-append, length-take) (omega arith) in
      let split : take at buffer ++ (xs ++ rest) ≡ front ++ rest = sym (append_assoc (take at buffer) xs rest) in
      let kept : take next (front ++ rest) ≡ front = take_at front rest next long in
      let both : at + length xs + length ys ≡ at + length (xs ++ ys) = rw length-append (omega arith) in
      let behind : drop (next + length ys) (front ++ rest) ≡ drop (at + length (xs ++ ys)) buffer =
      ap (λ (k : ℕ). drop (k + length ys) (front ++ rest)) (sym long)
      ∙ drop-append-add front rest (length ys)
      ∙ drop-drop (length ys) (at + length xs) buffer
      ∙ ap (λ (k : ℕ). drop k buffer) both in
      rw (split, kept, behind) (simp append_assoc)

-- ---- values at the beginning of the buffer

pub written_front : (s xs : List ℕ) → written s 0 xs ≡ xs ++ drop (length xs) s
unfolding written
written_front s xs = rw zero-add

module _ (s xs : List ℕ) where
  pub written_long : {s' : List ℕ} → s' ≡ written s 0 xs → length xs ≤ length s → length s' ≡ length s
  written_long e h = rw (e, written_front s xs) (simp (length-append, length-drop) (omega arith))

  pub written_entries : {s' : List ℕ} → s' ≡ written s 0 xs → (k : ℕ) → k < length xs → entry s' k ≡ entry xs k
  written_entries e k h = rw (e, written_front s xs) (get_or-append xs (drop (length xs) s) 0 k h)

-- values over as many others
pub written_over : (s xs ys : List ℕ) → length xs ≡ length ys → written (written s 0 xs) 0 ys ≡ written s 0 ys
written_over s xs ys e =
    rw (written_front s xs, written_front s ys, written_front (xs ++ drop (length xs) s) ys)
    (ap (◌++◌ ys) (drop_at xs (drop (length xs) s) (length ys) e ∙ ap (λ (k : ℕ). drop k s) e))

written_row : (f : ℕ → ℕ) (n : ℕ) (s : List ℕ) → written s 0 (row f n) ≡ row f n ++ drop n s
written_row f n s = rw length-row at (written_front s (row f n))

-- the first entries are the row
pub row_taken : (f : ℕ → ℕ) (n : ℕ) (s : List ℕ) {after : List ℕ} → after ≡ written s 0 (row f n) → take n after ≡ row f n
row_taken f n s e = rw (e, written_row f n s) (take_at (row f n) _ n (length-row f n))

-- a buffer whose first entries a loop has filled; k is the loop's count at its end
pub fill_written : {f : ℕ → ℕ} {k n : ℕ} {s₀ s : List ℕ} → Filled f 0 k s₀ s → k ≡ n → n ≤ length s₀ → s ≡ written s₀ 0 (row f n)
fill_written {f} {n = n} {s₀} {s} r e h = let filled : Filled f 0 n s₀ s = rw e at r in fill_done filled h ∙ sym (written_row f n s₀)

-- ---- pieces one behind the other

module _ (piece : ℕ → List ℕ) where
  pub joined_next : (k : ℕ) → joined piece (k + 1) ≡ joined piece k ++ piece k
  unfolding joined
  joined_next k = rw add-one

  pub joined_length : (k : ℕ) → length (joined piece (k + 1)) ≡ length (joined piece k) + length (piece k)
  joined_length k = rw (joined_next, length-append)

  -- equal pieces give equal texts
  pub joined_agree : (other : ℕ → List ℕ) (n : ℕ) → ((k : ℕ) → k < n → piece k ≡ other k) → joined piece n ≡ joined other n
  unfolding joined
  joined_agree other zero h = refl
  joined_agree other (suc n) h = ap₂ ◌++◌ (joined_agree other n (λ k l. h k (omega arith))) (h n (omega arith))

  -- the pieces up to k, and piece k, are among the first n
  pub joined-within : (k n : ℕ) → k < n → length (joined piece k) + length (piece k) ≤ length (joined piece n)
  unfolding joined
  joined-within k zero h = absurd (omega arith)
  joined-within k (suc n) h =
      ⊎_elim
      (λ (e : k ≡ n).
      let same : length (joined piece k) + length (piece k) ≡ length (joined piece n) + length (piece n) = rw e in
      rw length-append (omega arith))
      (λ l. let fewer = joined-within k n l in rw length-append (omega arith))
      (eq-or-lt_of_le (let le : k ≤ n = omega arith in le))
