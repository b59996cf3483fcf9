-- The numbers that an input has given up so far, and one more. Assumes nothing.
use Rattle.std.proofs.Common.{◌≡◌, ◌≢◌, ◌<◌, ◌≤◌, ◌+◌, ◌*◌, ◌-◌, ℕ, List, Option, None, Some, IfSome, length, drop, slice_index, slice_set, below_more, subst, ap, ◌∙◌, arith}
use Rattle.std.proofs.lemmas.List.{drop-drop, length-drop, length-set, get_or-set_same, get_or-set_other}
use Rattle.cases.specs.Input.{number_of, number_at}

-- the first i places hold the numbers that now are gone from the first bytes
abbrev pub HoldsTaken : Option (List ℕ) → Option (List ℕ) → List ℕ → ℕ → Type 0
HoldsTaken first now ns i = IfSome first (λ xs. (now ≡ Some (drop (8 * i) xs))
    × (8 * length ns ≤ length xs → (k : ℕ) → k < i → slice_index ns k ≡ number_at xs k))

pub one_more : (first now next : Option (List ℕ)) (ns : List ℕ) (i n : ℕ) → i < length ns → HoldsTaken first now ns i
    → IfSome now (λ xs. 8 ≤ length xs → n ≡ number_of xs) → IfSome now (λ xs. next ≡ Some (drop 8 xs)) → HoldsTaken first next (slice_set ns i n) (i + 1)
one_more None now next ns i n h before number rest = tt
one_more (Some xs) now next ns i n h before number rest =
    let left = drop (8 * i) xs in
    let e : now ≡ Some left = before.0 in
    let number' : 8 ≤ length left → n ≡ number_of left = subst (λ o. IfSome o (λ ys. 8 ≤ length ys → n ≡ number_of ys)) e number in
    let rest' : next ≡ Some (drop 8 left) = subst (λ o. IfSome o (λ ys. next ≡ Some (drop 8 ys))) e rest in
    let further : 8 * i + 8 ≡ 8 * (i + 1) = omega arith in
    let long : length (slice_set ns i n) ≡ length ns = length-set ns i n in
    let room : length left ≡ length xs - 8 * i = length-drop (8 * i) xs in (
      rest' ∙ ap Some (drop-drop 8 (8 * i) xs ∙ ap (λ k. drop k xs) further),
      λ fits. below_more _ _
          (λ k l. let other : k ≢ i = omega arith in get_or-set_other ns i k n 0 other ∙ before.1 (omega arith) k l)
          (get_or-set_same ns i n 0 h ∙ number' (omega arith)),
    )
