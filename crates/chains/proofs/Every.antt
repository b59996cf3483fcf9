-- A chain that tests all items gives the test of the rules. Assumes nothing.
use Rattle.std.proofs.Common.{◌≡◌, ◌<◌, ◌≤◌, ◌↔◌, ℕ, Bool, true, IsTrue, leb, ltb}
use Rattle.std.proofs.lemmas.Bool.{le-leb, leb-true, lt-ltb, ltb-true}
use Rattle.rules.specs.Count.{every, all_within}
use Rattle.rules.proofs.Count.{same_test, every-at, every_all, within_means, within_holds}

-- from a fact at each place
pub every_is : (P : ℕ → Type 0) (test : ℕ → Bool) (n : ℕ) {r : Bool} →
    (IsTrue r ↔ ((k : ℕ) → k < n → P k)) → ((k : ℕ) → P k → test k ≡ true) → ((k : ℕ) → test k ≡ true → P k) → r ≡ every n test
every_is P test n {r} h to from =
    same_test r (every n test) (λ e. every_all test n (λ i l. to i (h.0 e i l))) (λ e. h.1 (λ i l. from i (every-at test n e i l)))

-- each number is at most the other
pub every_at_most : (f g : ℕ → ℕ) (n : ℕ) {r : Bool} → (IsTrue r ↔ ((k : ℕ) → k < n → f k ≤ g k)) → r ≡ every n (λ k. leb (f k) (g k))
every_at_most f g n h = every_is (λ k. f k ≤ g k) _ n h (λ k. le-leb (f k) (g k)) (λ k. leb-true (f k) (g k))

-- each number is below the other
pub every_below : (f g : ℕ → ℕ) (n : ℕ) {r : Bool} → (IsTrue r ↔ ((k : ℕ) → k < n → f k < g k)) → r ≡ every n (λ k. ltb (f k) (g k))
every_below f g n h = every_is (λ k. f k < g k) _ n h (λ k. lt-ltb (f k) (g k)) (λ k. ltb-true (f k) (g k))

-- each number lies from low to high
pub every_within : (low high n : ℕ) (f : ℕ → ℕ) {r : Bool} → (IsTrue r ↔ ((k : ℕ) → k < n → (low ≤ f k) × (f k ≤ high))) → r ≡ all_within low high n f
every_within low high n f h =
    every_is (λ k. (low ≤ f k) × (f k ≤ high)) _ n h (λ k p. within_holds low high (f k) p.0 p.1) (λ k. within_means low high (f k))
