-- The search for an approach point, from that of the block before. Assumes nothing.
use Prim.Native.Nat.{ℕ, suc, ◌+◌, ◌-◌, ◌*◌, ◌≤◌, ◌<◌}
use mathlib.Core.Bool.{true, false}
use mathlib.Core.List.{List}
use mathlib.Core.Path.{◌≡◌}
use native.Mathlib.Omega.{arith}
use lib.Dec.{leb}
use borrow.Author.Tests.{leb-true, leb-false}
use Rattle.rules.specs.Count.{entry}
use Rattle.rules.specs.Hold.{approach_point}
use Rattle.rules.proofs.Hold.{approach_at, fast_on}

-- point i, from which the search goes on, is 0 or brakes in time for b
pub record Nearing (speeds : List ℕ) (loss from b i : ℕ) : Type 0 where
  pub onward : from ≤ i
  pub before : i ≤ b
  pub slow : 0 < i → entry speeds i ≤ loss * (b - i)

module _ {speeds : List ℕ} {loss from b : ℕ} where
  pub near_first : from ≤ b → (0 < from → entry speeds from ≤ loss * (b - from)) → Nearing speeds loss from b from
  near_first l s = record { onward = omega arith; before = l; slow = s }

  module _ {i : ℕ} (n : Nearing speeds loss from b i) where
    pub near_on : i < b → leb (entry speeds (i + 1)) (loss * (b - (i + 1))) ≡ true → Nearing speeds loss from b (i + 1)
    near_on h e = record { onward = omega (arith, n.onward); before = omega arith; slow = λ p. leb-true _ _ e }

    pub near_there :
        ((k : ℕ) → k < b → entry speeds k ≤ entry speeds (suc k) + loss) → i < b → leb (entry speeds (i + 1)) (loss * (b - (i + 1))) ≡ false →
        (i ≡ approach_point speeds loss b) × (from ≤ i)
    near_there braked h e =
        (approach_at speeds loss b i n.before n.slow (λ k m l. fast_on speeds loss b braked (leb-false _ _ e) k (omega arith) l), n.onward)

    pub near_end : b ≤ i → (b ≡ approach_point speeds loss b) × (from ≤ b)
    near_end h =
        let i_is : i ≡ b = omega (arith, n.before) in
        let here : i ≡ approach_point speeds loss b = approach_at speeds loss b i n.before n.slow (λ k m l. absurd (omega arith)) in
        (rw i_is at here, omega (arith, n.onward))
