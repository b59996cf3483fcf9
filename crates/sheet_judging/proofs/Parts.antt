-- Tests of the first n entries of lists, made on their first parts. Assumes nothing.
use Rattle.std.proofs.Common.{◌≡◌, ℕ, ◌≤◌, min, List, length, leb, ltb, take, arith, ap₂, ap}
use Rattle.std.proofs.lemmas.List.{length-take-le, get_or-take}
use Rattle.rules.specs.Count.{entry, every}
use Rattle.rules.proofs.Count.{every_agree}

module _ (n : ℕ) (xs : List ℕ) (long : n ≤ length xs) where
  pub most_in_part : (bound : ℕ) → every (length (take n xs)) (λ b. leb (entry (take n xs) b) bound) ≡ every n (λ b. leb (entry xs b) bound)
  most_in_part bound =
      rw (length-take-le n xs long) (every_agree _ _ n (λ b l. ap (λ x. leb x bound) (get_or-take n xs b 0 l)))

  pub ordered_in_part :
      (ys : List ℕ) → n ≤ length ys →
      every (min (length (take n xs)) (length (take n ys))) (λ b. ltb (entry (take n xs) b) (entry (take n ys) b))
      ≡ every n (λ b. ltb (entry xs b) (entry ys b))
  ordered_in_part ys also =
      let many : min (length (take n xs)) (length (take n ys)) ≡ n = omega (arith, length-take-le n xs long, length-take-le n ys also) in
      rw many (every_agree _ _ n (λ b l. ap₂ ltb (get_or-take n xs b 0 l) (get_or-take n ys b 0 l)))
