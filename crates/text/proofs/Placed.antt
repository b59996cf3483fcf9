-- Text placed in a buffer, piece behind piece. Assumes nothing.
use Prim.Native.Nat.{ℕ, ◌+◌, ◌/◌, ◌%◌, ◌≤◌, ◌<◌}
use mathlib.Core.List.{List, [], ◌∷◌, ◌++◌, append_assoc}
use mathlib.Core.Path.{◌≡◌, refl, sym}
use native.Mathlib.Nat.{add-zero}
use native.Mathlib.Omega.{arith}
use lib.ListN.{length, set, length-append, length-set}
use Rattle.rules.specs.Text.{digit, decimal, field, train_line, joined}
use Rattle.rules.proofs.Decimal.{decimal_one, decimal_step, decimal_some}
use Rattle.rules.proofs.Written.{written_none, written_one, written_then, joined_next, joined-within}
use Rattle.rules.proofs.Lengths.{field-length, line_fields}
use Rattle.text.specs.Text.{Placed}

-- ---- the fields of a number

field_one : (n mark : ℕ) → n < 10 → field n mark ≡ (digit n ∷ []) ++ (mark ∷ [])
unfolding field
field_one n mark h = rw (decimal_one n h)

-- the digits before the last one, with the last one behind them, are a field
field_step : (n mark : ℕ) → 10 ≤ n → field n mark ≡ field (n / 10) (digit (n % 10)) ++ (mark ∷ [])
unfolding field
field_step n mark h = rw (decimal_step n h)

pub field_some : (n mark : ℕ) → 2 ≤ length (field n mark)
field_some n mark = omega (arith, field-length n mark, decimal_some n)

pub field_longer : (n mark : ℕ) → 10 ≤ n → length (field n mark) ≡ length (field (n / 10) (digit (n % 10))) + 1
field_longer n mark h = rw (field_step n mark h) (rw length-append)

-- ---- text in a buffer

module _ {buffer : List ℕ} {at : ℕ} where
  pub placed-none : Placed buffer at [] at buffer
  placed-none = record { past_text = sym (add-zero at); bytes = written_none buffer at }

  placed_one : (value : ℕ) → at < length buffer → Placed buffer at (value ∷ []) (at + 1) (set buffer at value)
  placed_one value h = record { past_text = refl; bytes = written_one buffer at value h }

  pub placed_then :
      {xs ys between after : List ℕ} {next past : ℕ} → next + length ys ≤ length buffer →
      Placed buffer at xs next between → Placed between next ys past after → Placed buffer at (xs ++ ys) past after
  placed_then {xs} {ys} {between} {after} {next} {past} h p q =
      record {
        past_text = rw length-append (omega arith);
        bytes = rw (q.bytes, p.bytes) (written_then buffer at next xs ys p.past_text (omega arith));
      }

module _ {buffer : List ℕ} {at : ℕ} where
  -- a turn of the loop that writes piece behind piece
  pub joined-placed :
      (piece : ℕ → List ℕ) (k n : ℕ) {between after : List ℕ} {next past : ℕ} →
      at + length (joined piece n) ≤ length buffer → k < n →
      Placed buffer at (joined piece k) next between → Placed between next (piece k) past after →
      Placed buffer at (joined piece (k + 1)) past after
  joined-placed piece k n h l p q = rw joined_next (placed_then (omega (arith, joined-within piece k n l)) p q)

  -- a field of one digit
  pub short_placed :
      (n mark : ℕ) → n < 10 → at + length (field n mark) ≤ length buffer →
      Placed buffer at (field n mark) (at + 2) (set (set buffer at (digit n)) (at + 1) mark)
  short_placed n mark l h =
      let room = field-length n mark in
      let one : length (decimal n) ≡ 1 = rw (decimal_one n l) in
      let two : at + 2 ≡ at + 1 + 1 = omega arith in
      rw (field_one n mark l, two)
      (placed_then (omega arith) (placed_one (digit n) (omega arith)) (placed_one mark (rw length-set (omega arith))))

  -- a field of more digits
  pub long_placed :
      (n mark : ℕ) {between : List ℕ} {next : ℕ} → 10 ≤ n → at + length (field n mark) ≤ length buffer → length between ≡ length buffer →
      Placed buffer at (field (n / 10) (digit (n % 10))) next between →
      Placed buffer at (field n mark) (next + 1) (set between next mark)
  long_placed n mark l h e p =
      let longer = field_longer n mark l in
      rw (field_step n mark l) (placed_then (omega (arith, p.past_text)) p (placed_one mark (omega (arith, p.past_text))))

  pub line_placed :
      (train start run block : ℕ) {one two three after : List ℕ} {second third fourth past : ℕ} →
      at + length (train_line train start run block) ≤ length buffer →
      Placed buffer at (field train 32) second one → Placed one second (field start 32) third two →
      Placed two third (field run 32) fourth three → Placed three fourth (field block 10) past after →
      Placed buffer at (train_line train start run block) past after
  unfolding train_line
  line_placed train start run block h p q r s =
      let all = line_fields train start run block in
      let whole = placed_then (omega arith) (placed_then (omega arith) (placed_then (omega arith) p q) r) s in
      simp append_assoc at whole
