-- The lowest of some values: of two ways to reach it, and from a fold. Assumes nothing.
use Prim.Native.Nat.{ℕ, zero, suc, ◌+◌, ◌-◌, ◌≤◌, ◌<◌, min}
use mathlib.Core.List.{List}
use mathlib.Core.Path.{◌≡◌, refl, ◌∙◌}
use native.Mathlib.Decide.{dec_le}
use native.Mathlib.Nat.{le_refl}
use native.Mathlib.Omega.{arith}
use lib.ListN.{length, take, drop, length-drop, drop_of_length-le}
use lib.Seq.{drop-cons, get_or-take, length-take-le, take_all}
use Rattle.std.specs.List.{fold}
use Rattle.rules.specs.Count.{entry, lowest_from}

pub lowest_agree : (f g : ℕ → ℕ) (m a n : ℕ) → ((k : ℕ) → a ≤ k → k < a + n → f k ≡ g k) → lowest_from f m a n ≡ lowest_from g m a n
unfolding lowest_from
lowest_agree f g m a zero h = refl
lowest_agree f g m a (suc n) h = rw (h a (omega arith) (omega arith), lowest_agree f g m (suc a) n (λ k p q. h k (omega arith) (omega arith)))

-- the first of the values may be any
lowest_with : (f : ℕ → ℕ) (m x a n : ℕ) → lowest_from f (min m x) a n ≡ min x (lowest_from f m a n)
unfolding lowest_from
lowest_with f m x a zero = omega arith
lowest_with f m x a (suc n) = omega (arith, lowest_with f m x (suc a) n)

fold_lowest : (list : List ℕ) (m a n : ℕ) → n ≡ length list - a → fold min m (drop a list) ≡ lowest_from (entry list) m a n
unfolding lowest_from
fold_lowest list m a zero e = let none : length list ≤ a = omega arith in rw (drop_of_length-le list none)
fold_lowest list m a (suc n) e =
    rw (drop-cons list a 0 (omega arith))
    (fold_lowest list (min m (entry list a)) (suc a) n (omega arith) ∙ lowest_with (entry list) m (entry list a) (suc a) n)

drop_min : (list : List ℕ) (a : ℕ) → drop (min a (length list)) list ≡ drop a list
drop_min list a = go (dec_le a (length list))
  where
    go : Dec (a ≤ length list) → drop (min a (length list)) list ≡ drop a list
    go (yes h) = let e : min a (length list) ≡ a = omega arith in rw e
    go (no h) =
        let e : min a (length list) ≡ length list = omega arith in
        let past : length list ≤ a = omega arith in
        rw (e, drop_of_length-le list (le_refl (length list)), drop_of_length-le list past)

-- of the first entries of a list, from number a on
pub lowest_folded :
    (list : List ℕ) (m a n : ℕ) → n ≤ length list →
    fold min m (take (length (take n list) - min a (length (take n list))) (drop (min a (length (take n list))) (take n list))) ≡
    lowest_from (entry list) m a (n - a)
lowest_folded list m a n h =
    let long : length (take n list) ≡ n = length-take-le n list h in
    let first : ℕ = min a (length (take n list)) in
    let whole : take (length (take n list) - first) (drop first (take n list)) ≡ drop first (take n list) =
    take_all (length (take n list) - first) (drop first (take n list)) (rw length-drop (omega arith)) in
    rw (whole, drop_min)
    (fold_lowest (take n list) m a (n - a) (omega arith)
    ∙ lowest_agree (entry (take n list)) (entry list) m a (n - a) (λ k g h. get_or-take n list k 0 (omega arith)))
