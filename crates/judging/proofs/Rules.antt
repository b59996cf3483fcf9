-- The rules of the decoded line and train, by the entries of their arrays that are in use. Assumes nothing.
use Prim.Native.Nat.{ℕ, ◌+◌, ◌-◌, ◌≤◌, min}
use mathlib.Core.List.{List}
use mathlib.Core.Path.{◌≡◌, ap, ◌∙◌}
use native.Mathlib.Omega.{arith}
use lib.Dec.{leb, eqb}
use lib.ListN.{length, take, drop}
use Rattle.std.proofs.lemmas.List.{get_or-drop, length-drop, length-take-le, take_all}
use Rattle.rules.specs.Count.{◌and◌, entry, row, all_within, below_by, rises_by}
use Rattle.rules.specs.Run.{train_cells}
use Rattle.rules.specs.Refusal.{line_numbers, train_numbers, line_sizes, train_sizes, limit_points_rule, limits_rule, blocks_rule, bands_rule, stops_rule, last_block_rule}
use Rattle.rules.proofs.Count.{length-row, entry_row, every_agree}
use Rattle.chains.proofs.InUse.{taken_row}
use Rattle.values.specs.declared.decoded.Line.{Line}
use Rattle.values.specs.declared.decoded.Train.{Train}
use Rattle.values.specs.Values.{as_line, as_train}

-- ---- the sizes, by the counts

pub line_numbers_lem : (l : Line) (trains : ℕ) →
    line_sizes (as_line l) trains ≡ line_numbers l.points l.step l.limit_count l.block_count l.balise_count trains
unfolding line_sizes
line_numbers_lem l trains = simp length-row

pub train-numbers : (t : Train) → train_sizes (as_train t) ≡ train_numbers t.class.0 t.length t.band_count t.stop_count
unfolding train_sizes
train-numbers t = simp length-row

pub last_block_numbers : (l : Line) (t : Train) → 1 ≤ l.block_count →
    last_block_rule (as_line l) (as_train t) ≡ leb (entry l.block_ends (l.block_count - 1) + train_cells (as_line l) (as_train t)) (l.points - 1)
unfolding last_block_rule
last_block_numbers l t h =
    let last : entry (row (entry l.block_ends) l.block_count) (l.block_count - 1) ≡ entry l.block_ends (l.block_count - 1) =
    entry_row (entry l.block_ends) l.block_count (l.block_count - 1) (omega arith) in
    rw (length-row, last)

-- ---- numbers beside the ones that follow

-- zs are the numbers ys from the second on
pub beside_next : (gap : ℕ) (xs ys zs : List ℕ) → length xs ≡ length ys → length zs + 1 ≡ length ys → ((i : ℕ) → entry zs i ≡ entry ys (i + 1)) →
    below_by gap (min (length xs) (length zs)) (entry xs) (entry zs) ≡ below_by gap (length ys - 1) (entry xs) (λ i. entry ys (i + 1))
beside_next gap xs ys zs e n next =
    let few : min (length xs) (length zs) ≡ length ys - 1 = omega arith in
    rw few (every_agree _ _ (length ys - 1) (λ i l. ap (leb (entry xs i + gap)) (next i)))

-- the slice of a list from its second number on
abbrev pub behind_first : List ℕ → List ℕ
behind_first xs = take (length xs - 1) (drop 1 xs)

-- ---- the rules of the arrays, by the entries in use

module _ (l : Line) where
  pub limit_points_used : l.limit_count ≤ length l.limit_points →
      limit_points_rule (as_line l) ≡
      (eqb (entry (take l.limit_count l.limit_points) 0) 0
      and rises_by 1 (length (take l.limit_count l.limit_points)) (entry (take l.limit_count l.limit_points))
      and all_within 0 (l.points - 2) (length (take l.limit_count l.limit_points)) (entry (take l.limit_count l.limit_points)))
  unfolding limit_points_rule
  limit_points_used h = rw (taken_row l.limit_points h)

  pub limits_used : l.limit_count ≤ length l.limits →
      limits_rule (as_line l) ≡ all_within 1 300 (length (take l.limit_count l.limits)) (entry (take l.limit_count l.limits))
  unfolding limits_rule
  limits_used h = rw (taken_row l.limits h)

  pub blocks_used : l.block_count ≤ length l.block_starts → l.block_count ≤ length l.block_ends → 1 ≤ l.block_count →
      blocks_rule (as_line l) ≡
      (eqb (entry (take l.block_count l.block_starts) 0) 0
      and below_by 1 (min (length (take l.block_count l.block_starts)) (length (take l.block_count l.block_ends)))
      (entry (take l.block_count l.block_starts)) (entry (take l.block_count l.block_ends))
      and below_by 0
      (min (length (take l.block_count l.block_ends)) (length (behind_first (take l.block_count l.block_starts))))
      (entry (take l.block_count l.block_ends)) (entry (behind_first (take l.block_count l.block_starts)))
      and all_within 0 (l.points - 1) (length (take l.block_count l.block_ends)) (entry (take l.block_count l.block_ends)))
  unfolding blocks_rule
  blocks_used s e h =
      let starts = take l.block_count l.block_starts in
      let ends = take l.block_count l.block_ends in
      let m : length starts ≡ l.block_count = length-take-le l.block_count l.block_starts s in
      let n : length ends ≡ l.block_count = length-take-le l.block_count l.block_ends e in
      let both : min (length starts) (length ends) ≡ length starts = omega arith in
      let later : take (length starts - 1) (drop 1 starts) ≡ drop 1 starts = take_all _ _ (omega (arith, length-drop 1 starts)) in
      rw (
        later,
        beside_next 0 ends starts (drop 1 starts) (omega arith) (omega (arith, length-drop 1 starts))
            (λ i. get_or-drop 1 starts i 0 ∙ ap (entry starts) (omega arith)),
        both,
        taken_row l.block_starts s,
        taken_row l.block_ends e,
      )

module _ (t : Train) where
  pub bands_used : t.band_count ≤ length t.tops → t.band_count ≤ length t.rates →
      bands_rule (as_train t) ≡
      (rises_by 1 (length (take t.band_count t.tops)) (entry (take t.band_count t.tops))
      and all_within 1 300 (length (take t.band_count t.tops)) (entry (take t.band_count t.tops))
      and all_within 1 200 (length (take t.band_count t.rates)) (entry (take t.band_count t.rates)))
  unfolding bands_rule
  bands_used a b = rw (taken_row t.tops a, taken_row t.rates b)

  pub stops_used : (l : Line) → t.stop_count ≤ length t.stops → t.stop_count ≤ length t.dwells →
      stops_rule (as_line l) (as_train t) ≡
      (rises_by 2 (length (take t.stop_count t.stops)) (entry (take t.stop_count t.stops))
      and all_within 0 (l.points - 1) (length (take t.stop_count t.stops)) (entry (take t.stop_count t.stops))
      and all_within 0 3600 (length (take t.stop_count t.dwells)) (entry (take t.stop_count t.dwells)))
  unfolding stops_rule
  stops_used l a b = rw (taken_row t.stops a, taken_row t.dwells b)
