-- The lengths of the sheet program's text. Assumes nothing.
use Prim.Native.Nat.{ℕ, zero, suc, ◌+◌, ◌/◌, ◌^◌, ◌≤◌, ◌<◌}
use mathlib.Core.Path.{◌≡◌, refl}
use native.Mathlib.Decide.{dec_lt}
use native.Mathlib.Nat.{pow-suc}
use native.Mathlib.Omega.{arith}
use lib.ListN.{length, length-append}
use Rattle.rules.specs.Text.{decimal, field, header, train_line, refusal_text}
use Rattle.rules.proofs.Decimal.{decimal_one, decimal_step}

pub decimal_longer : (n : ℕ) → 10 ≤ n → length (decimal n) ≡ length (decimal (n / 10)) + 1
decimal_longer n h = rw (decimal_step n h, length-append)

-- a number below 10 to the power k + 1 has at most k + 1 digits
pub decimal-most : (k n : ℕ) → n < 10 ^ suc k → length (decimal n) ≤ suc k
decimal-most zero n h = rw (decimal_one n (omega arith)) (omega arith)
decimal-most (suc k) n h = go (dec_lt n 10) (λ m. decimal-most k (n / 10) (omega (arith, pow-suc 10 (suc k))))
  where
    go : Dec (n < 10) → (10 ≤ n → length (decimal (n / 10)) ≤ suc k) → length (decimal n) ≤ suc (suc k)
    go (yes l) r = rw (decimal_one n l) (omega arith)
    go (no l) r = omega (arith, r (omega arith), decimal_longer n (omega arith))

pub field-length : (n mark : ℕ) → length (field n mark) ≡ length (decimal n) + 1
unfolding field
field-length n mark = rw length-append

pub header-length : length header ≡ 22
unfolding header
header-length = refl

pub line_fields :
    (train start run block : ℕ) →
    length (train_line train start run block)
    ≡ length (field train 32) + (length (field start 32) + (length (field run 32) + length (field block 10)))
unfolding train_line
line_fields train start run block = simp length-append

pub line_length :
    (train start run block : ℕ) →
    length (train_line train start run block)
    ≡ length (decimal train) + length (decimal start) + length (decimal run) + length (decimal block) + 4
line_length train start run block =
    omega (
      arith,
      line_fields train start run block,
      field-length train 32,
      field-length start 32,
      field-length run 32,
      field-length block 10,
    )

pub refusal-length : (n : ℕ) → length (refusal_text n) ≡ 8 + length (decimal n) + 1
unfolding refusal_text
refusal-length n = omega (arith, field-length n 10)
