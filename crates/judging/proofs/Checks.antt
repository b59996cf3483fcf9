-- What rule 3 says of a decoded line and train. Assumes nothing.
use Prim.Native.Nat.{ℕ, ◌≤◌}
use mathlib.Core.Bool.{true, false}
use mathlib.Core.Path.{◌≡◌}
use native.Mathlib.Omega.{arith}
use Rattle.rules.specs.Count.{◌and◌}
use Rattle.rules.specs.Line as rules
use Rattle.rules.specs.Refusal.{line_sizes, sizes_on, bands_rule, stops_rule, last_block_rule}
use Rattle.rules.proofs.Count.{and_left, and_right, length-row}
use Rattle.rules.proofs.Rules.{rule_3_line, rule_3_train}
use Rattle.values.specs.declared.decoded.Line.{Line}
use Rattle.values.specs.declared.decoded.Train.{Train}
use Rattle.values.specs.Values.{as_line, as_train}
use Rattle.judging.specs.Sized.{Sized, Counted}
use Rattle.judging.specs.Kept.{kept_on}

pub line_sized : (l : Line) (trains : ℕ) → line_sizes (as_line l) trains ≡ true → Sized l
line_sized l trains e =
    let r = (rule_3_line (as_line l) trains).0 e in
    record {
      points = r.points-least;
      step = r.step-least;
      limit_least = rw length-row at r.limits-least;
      limit_most = rw length-row at r.limits-most;
      block-least = rw length-row at r.blocks-least;
      block-most = rw length-row at r.blocks-most;
    }

pub both_sized : (l : Line) (t : Train) → sizes_on (as_line l) (as_train t) ≡ true → Sized l × Counted t
both_sized l t e =
    let q = (rule_3_train (as_train t)).0 (and_right _ _ e) in
    let a : t.band_count ≤ 8 = rw length-row at q.bands-most in
    let s : t.stop_count ≤ 32 = rw length-row at q.stops-most in
    (line_sized l 1 (and_left _ _ e), record { bands = omega arith; stops = omega arith })

-- what a train keeps, by whether it keeps rule 3
module _ (l : rules.Line) (t : rules.Train) where
  pub none_kept : sizes_on l t ≡ false → kept_on l t ≡ record { sizes = false; bands = false; stops = false; last_block = false }
  unfolding ◌and◌
  none_kept e = rw e

  pub sized_kept : sizes_on l t ≡ true → kept_on l t ≡ record { sizes = true; bands = bands_rule t; stops = stops_rule l t; last_block = last_block_rule l t }
  unfolding ◌and◌
  sized_kept e = rw e
