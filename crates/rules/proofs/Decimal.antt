-- The decimal digits of a number are its own. Assumes nothing.
use Prim.Native.Nat.{ℕ, zero, suc, ◌+◌, ◌-◌, ◌*◌, ◌/◌, ◌%◌, ◌≤◌, ◌<◌}
use mathlib.Core.List.{List, [], ◌∷◌, ◌++◌}
use mathlib.Core.Path.{◌≡◌, refl, sym, ap, ◌∙◌}
use native.Mathlib.Decide.{dec_lt}
use native.Mathlib.Omega.{arith}
use lib.Dec.{ltb}
use lib.ListN.{length, length-append, get_or-append}
use borrow.Author.Tests.{lt-ltb, le-ltb}
use Rattle.rules.specs.Count.{entry}
use Rattle.rules.specs.Text.{digit, digits_of, decimal}
use Rattle.rules.specs.Meaning.{value_from, IsDecimal}

-- ---- the digits, from a number to a tenth of it

digits_low : (k n : ℕ) → n < 10 → digits_of k (ltb n 10) n ≡ digit n ∷ []
unfolding digits_of
digits_low zero n h = refl
digits_low (suc k) n h = rw (lt-ltb n 10 h)

digits_high : (k n : ℕ) → 10 ≤ n → digits_of (suc k) (ltb n 10) n ≡ digits_of k (ltb (n / 10) 10) (n / 10) ++ (digit (n % 10) ∷ [])
unfolding digits_of
digits_high k n h = rw (le-ltb n 10 h)

-- any bound that is large enough gives the same digits
same_digits : (j k n : ℕ) → n ≤ j → n ≤ k → digits_of j (ltb n 10) n ≡ digits_of k (ltb n 10) n
same_digits zero k n p q = digits_low zero n (omega arith) ∙ sym (digits_low k n (omega arith))
same_digits (suc j) zero n p q = digits_low (suc j) n (omega arith) ∙ sym (digits_low zero n (omega arith))
same_digits (suc j) (suc k) n p q = go (dec_lt n 10) (λ h. same_digits j k (n / 10) (omega arith) (omega arith))
  where
    go : Dec (n < 10) → (10 ≤ n → digits_of j (ltb (n / 10) 10) (n / 10) ≡ digits_of k (ltb (n / 10) 10) (n / 10)) → digits_of (suc j) (ltb n 10) n ≡
        digits_of (suc k) (ltb n 10) n
    go (yes h) r = digits_low (suc j) n h ∙ sym (digits_low (suc k) n h)
    go (no h) r =
        let m : 10 ≤ n = omega arith in
        digits_high j n m ∙ ap (λ (l : List ℕ). l ++ (digit (n % 10) ∷ [])) (r m) ∙ sym (digits_high k n m)

pub decimal_one : (n : ℕ) → n < 10 → decimal n ≡ digit n ∷ []
unfolding decimal
decimal_one n h = digits_low n n h

pub decimal_step : (n : ℕ) → 10 ≤ n → decimal n ≡ decimal (n / 10) ++ (digit (n % 10) ∷ [])
unfolding decimal
decimal_step n h =
    same_digits n (suc n) n (omega arith) (omega arith) ∙ digits_high n n h
    ∙ ap (λ (l : List ℕ). l ++ (digit (n % 10) ∷ [])) (same_digits n (n / 10) (n / 10) (omega arith) (omega arith))

-- what holds of numbers below 10, and of a number where it holds of a tenth of it, holds of all
by_tenths : (P : ℕ → Type 0) → ((n : ℕ) → n < 10 → P n) → ((n : ℕ) → 10 ≤ n → P (n / 10) → P n) → (n : ℕ) → P n
by_tenths P low high n = go n n (omega arith)
  where
    step : (n : ℕ) → Dec (n < 10) → (10 ≤ n → P (n / 10)) → P n
    step n (yes h) r = low n h
    step n (no h) r = high n (omega arith) (r (omega arith))

    go : (k n : ℕ) → n ≤ k → P n
    go zero n h = low n (omega arith)
    go (suc k) n h = step n (dec_lt n 10) (λ m. go k (n / 10) (omega arith))

pub decimal_some : (n : ℕ) → 1 ≤ length (decimal n)
decimal_some =
    by_tenths (λ n. 1 ≤ length (decimal n)) (λ n h. rw (decimal_one n h) (omega arith))
    (λ n h r. rw (decimal_step n h, length-append) (omega arith))

-- ---- they are its own

value-behind : (before : ℕ) (ds : List ℕ) (d : ℕ) → value_from before (ds ++ (d ∷ [])) ≡ 10 * value_from before ds + (d - 48)
unfolding value_from
value-behind before [] d = refl
value-behind before (e ∷ ds) d = value-behind (10 * before + (e - 48)) ds d

decimal-value : (n : ℕ) → value_from 0 (decimal n) ≡ n
unfolding value_from
decimal-value =
    by_tenths (λ n. value_from 0 (decimal n) ≡ n) (λ n h. rw (decimal_one n h) (omega arith))
    (λ n h r. rw (decimal_step n h, value-behind, r) (omega arith))

abbrev Digits : List ℕ → Type 0
Digits ds = (i : ℕ) → i < length ds → (48 ≤ entry ds i) × (entry ds i ≤ 57)

digits-behind : (ds : List ℕ) (d : ℕ) → d < 10 → Digits ds → Digits (ds ++ (digit d ∷ []))
digits-behind [] d h r zero l = omega arith
digits-behind [] d h r (suc i) l = absurd (omega arith)
digits-behind (e ∷ ds) d h r zero l = r 0 (omega arith)
digits-behind (e ∷ ds) d h r (suc i) l = digits-behind ds d h (λ j m. r (suc j) (omega arith)) i (omega arith)

decimal-digits : (n : ℕ) → Digits (decimal n)
decimal-digits =
    by_tenths (λ n. Digits (decimal n)) (λ n h. rw (decimal_one n h) (digits-behind [] n h (λ i l. absurd (omega arith))))
    (λ n h r. rw (decimal_step n h) (digits-behind (decimal (n / 10)) (n % 10) (omega arith) r))

decimal_front : (n : ℕ) → 1 ≤ n → 48 < entry (decimal n) 0
decimal_front =
    by_tenths (λ n. 1 ≤ n → 48 < entry (decimal n) 0) (λ n h p. rw (decimal_one n h) (omega arith))
    (λ n h r p. rw (decimal_step n h, get_or-append (decimal (n / 10)) (digit (n % 10) ∷ []) 0 0 (decimal_some (n / 10))) (r (omega arith)))

pub decimal_is : (n : ℕ) → IsDecimal n (decimal n)
decimal_is n =
    record {
      value = decimal-value n;
      some_digit = decimal_some n;
      digits = decimal-digits n;
      no_zero_in_front = λ h. decimal_front n (positive (dec_lt n 10) h);
    }
  where
    positive : Dec (n < 10) → 1 < length (decimal n) → 1 ≤ n
    positive (yes l) h = let e : length (decimal n) ≡ 1 = rw (decimal_one n l) in absurd (omega arith)
    positive (no l) h = omega arith
