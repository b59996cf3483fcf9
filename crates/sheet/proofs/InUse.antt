-- What is found in the first n entries of lists, and what is written there. Assumes nothing.
use Rattle.std.proofs.Common.{◌≡◌, ◌≤◌, ◌<◌, ◌+◌, ◌-◌, ◌∙◌, ◌++◌, ℕ, List, [], length, take, drop, min, eqb, sym, ap, arith}
use Rattle.std.proofs.lemmas.List.{length-take-le, ext_get_or, get_or_append_left, get_or-append_right, get_or-drop, take-append-drop}
use mathlib.Core.Bool.{Bool, true, false, cond}
use lib.ListN.{length-append, length-drop}
use native.Mathlib.Decide.{dec_le}
use mathlib.Core.Path.{ap₂}
use lib.Seq.{get_or-take}
use Rattle.rules.specs.Count.{entry, set_below, greatest_below, counted_from1}
use Rattle.rules.specs.Hold.{Hold}
use Rattle.rules.specs.Sheet.{Sheet, block_named}
use Rattle.rules.proofs.Count.{greatest_agree, last_agree, length-set_below, set_below-at, set_below-beyond}
use Rattle.waits.specs.Fields.{sheet_from, hold_from}

module _ (n : ℕ) (xs ys : List ℕ) (p : n ≤ length xs) (q : n ≤ length ys) where
  both : min (length (take n xs)) (length (take n ys)) ≡ n
  both = omega (arith, length-take-le n xs p, length-take-le n ys q)

  pub wait_in_use : greatest_below (min (length (take n xs)) (length (take n ys))) (λ b. entry (take n xs) b - entry (take n ys) b) ≡ greatest_below n
      (λ b. entry xs b - entry ys b)
  wait_in_use = rw both (greatest_agree n _ _ (λ b l. ap₂ ◌-◌ (get_or-take n xs b 0 l) (get_or-take n ys b 0 l)))

pub block_in_use :
    (s : Sheet) (h : Hold) → s.blocks ≤ length s.free → s.blocks ≤ length h.begins → (start : ℕ) →
    block_named (sheet_from (min (length (take s.blocks s.free)) (length (take s.blocks h.begins))) 0 (take s.blocks s.free) [])
    (hold_from 0 (take s.blocks h.begins) []) start ≡ block_named s h start
unfolding block_named
block_in_use s h p q start =
    let n = s.blocks in
    rw (both n s.free h.begins p q)
    (ap (λ o. cond (eqb start 0) 0 (counted_from1 o))
    (last_agree n _ _ (λ b l. ap₂ (λ x y. eqb (start + x) y) (get_or-take n h.begins b 0 l) (get_or-take n s.free b 0 l))))

-- the first n entries replaced
pub written_in_use :
    (n : ℕ) (list values : List ℕ) (f : ℕ → ℕ) → n ≤ length list → length values ≡ n → ((b : ℕ) → b < n → entry values b ≡ f b) →
    values ++ drop n list ≡ set_below n f list
written_in_use n list values f p long at =
    ext_get_or 0 (values ++ drop n list) (set_below n f list)
    (omega (arith, length-append values (drop n list), length-drop n list, length-set_below f list n, long)) (λ i l. either i (dec_le n i))
  where
    low : (i : ℕ) → i < n → entry (values ++ drop n list) i ≡ entry (set_below n f list) i
    low i l = get_or_append_left values (drop n list) 0 i (omega arith) ∙ at i l ∙ sym (set_below-at f list n i l (omega arith))

    high : (i : ℕ) → n ≤ i → entry (values ++ drop n list) i ≡ entry (set_below n f list) i
    high i m =
        let same : n + (i - n) ≡ i = omega arith in
        get_or-append_right values (drop n list) n i 0 long m ∙ get_or-drop n list (i - n) 0 ∙ ap (entry list) same ∙ sym (set_below-beyond f list n i m)

    either : (i : ℕ) → Dec (n ≤ i) → entry (values ++ drop n list) i ≡ entry (set_below n f list) i
    either i (yes m) = high i m
    either i (no m) = low i (omega arith)

-- the first n entries of one list written over those of another, or not
pub kept_in_use :
    (n : ℕ) (xs ys : List ℕ) → n ≤ length xs → n ≤ length ys → (anew : Bool) →
    cond anew (take n ys) (take n xs) ++ drop n xs ≡ cond anew (set_below n (entry ys) xs) xs
kept_in_use n xs ys p q true = written_in_use n xs (take n ys) (entry ys) p (length-take-le n ys q) (λ b l. get_or-take n ys b 0 l)
kept_in_use n xs ys p q false = take-append-drop n xs
