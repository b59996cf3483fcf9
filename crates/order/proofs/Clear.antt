-- What it means that a train is clear of the one behind it, and that it is not. Assumes nothing.
use Prim.Native.Nat.{ℕ, ◌+◌, ◌≤◌, ◌<◌, min}
use mathlib.Core.Bool.{true, false}
use mathlib.Core.List.{List}
use mathlib.Core.Logic.{◌↔◌}
use mathlib.Core.Path.{◌≡◌}
use native.Mathlib.Omega.{arith}
use lib.ListN.{length}
use borrow.Author.Tests.{leb-true, leb-false, le-leb}
use Rattle.rules.specs.Count.{entry}
use Rattle.rules.proofs.Count.{every-at, every_all, every_some}
use Rattle.order.specs.Clear.{clear_of}

pub clear_means :
    (ahead behind n : ℕ) (ends begins : List ℕ) → length ends ≡ n → length begins ≡ n →
    (clear_of ahead ends behind begins ≡ true) ↔ ((b : ℕ) → b < n → ahead + entry ends b ≤ behind + entry begins b)
unfolding clear_of
clear_means ahead behind n ends begins e f = (
  λ t b l. leb-true _ _ (every-at _ (min (length ends) (length begins)) t b (omega arith)),
  λ h. every_all _ (min (length ends) (length begins)) (λ b l. le-leb _ _ (h b (omega arith))),
)

-- a block that is not clear
pub unclear :
    (ahead behind n : ℕ) (ends begins : List ℕ) → length ends ≡ n → length begins ≡ n → clear_of ahead ends behind begins ≡ false →
    (b : ℕ) × (b < n) × (behind + entry begins b < ahead + entry ends b)
unfolding clear_of
unclear ahead behind n ends begins e f t =
    let (b, l, g) = every_some _ (min (length ends) (length begins)) t in
    (b, omega arith, leb-false _ _ g)
