-- Rule 15 of a decoded line, one balise after the other. Assumes nothing.
use Prim.Native.Nat.{ℕ, zero, suc, ◌+◌, ◌-◌, ◌*◌, ◌≤◌, ◌<◌}
use mathlib.Core.Bool.{Bool, true, false}
use mathlib.Core.Path.{◌≡◌, refl, sym, ◌∙◌}
use native.Mathlib.Nat.{zero-mul}
use native.Mathlib.Omega.{arith}
use lib.ListN.{length, length-take, get_or, get_or-eq_default, take}
use lib.Seq.{get_or-take}
use Rattle.rules.specs.Count.{entry}
use Rattle.rules.specs.Admitted.{Rule15}
use Rattle.rules.specs.Run.{balise_place}
use Rattle.rules.specs.Refusal.{balises_rule}
use Rattle.rules.proofs.Count.{length-row, entry_row}
use Rattle.rules.proofs.Rules.{rule_15}
use Rattle.values.specs.declared.decoded.Line.{Line}
use Rattle.values.specs.Values.{as_line}

-- the place of the balise at index k of the arrays
abbrev place_at : Line → ℕ → ℕ
place_at l k = entry l.balise_points k * l.step + entry l.balise_metres k

-- the least place that balise k may have: one beyond the balise before it
abbrev pub least_at : Line → ℕ → ℕ
least_at l zero = 0
least_at l (suc k) = suc (place_at l k)

-- rule 15, of balise k
pub record KeptAt (l : Line) (k : ℕ) : Type 0 where
  pub least : least_at l k ≤ place_at l k
  pub metres : entry l.balise_metres k < l.step
  pub most : place_at l k ≤ (l.points - 1) * l.step

module _ (l : Line) where
  metres_are : (k : ℕ) → k < l.balise_count → entry (as_line l).balise_metres k ≡ entry l.balise_metres k
  metres_are k h = entry_row (entry l.balise_metres) l.balise_count k h

  place_is : (k : ℕ) → k < l.balise_count → balise_place (as_line l) k ≡ place_at l k
  unfolding balise_place
  place_is k h = rw (entry_row (entry l.balise_points) l.balise_count k h, metres_are k h)

  -- how many there are, as the rules count them
  count : length (as_line l).balise_points ≡ l.balise_count
  count = length-row (entry l.balise_points) l.balise_count

  pub all_kept_lem : ((k : ℕ) → k < l.balise_count → KeptAt l k) → balises_rule (as_line l) ≡ true
  all_kept_lem all =
      let n = count in
      (rule_15 (as_line l)).1
      (record {
        rise = λ k h. rw (place_is k (omega arith), place_is (suc k) (omega arith)) (all (suc k) (omega arith)).least;
        metres_most = λ k h. rw (metres_are k (omega arith)) (all k (omega arith)).metres;
        place-most = λ k h. rw (place_is k (omega arith)) (all k (omega arith)).most;
      })

  kept_at : Rule15 (as_line l) → (k : ℕ) → k < l.balise_count → KeptAt l k
  kept_at r k h =
      let n = count in
      record {
        least = go k h;
        metres = rw (metres_are k h) at (r.metres_most k (omega arith));
        most = rw (place_is k h) at (r.place-most k (omega arith));
      }
    where
      go : (k : ℕ) → k < l.balise_count → least_at l k ≤ place_at l k
      go zero h = omega arith
      go (suc k) h = rw (place_is k (omega arith), place_is (suc k) h) at (r.rise k (omega (arith, count)))

  pub broken-at : {k : ℕ} → k < l.balise_count → (KeptAt l k → ⊥) → false ≡ balises_rule (as_line l)
  broken-at {k} h broken = go (balises_rule (as_line l)) refl
    where
      go : (b : Bool) → balises_rule (as_line l) ≡ b → false ≡ balises_rule (as_line l)
      go true e = absurd (broken (kept_at ((rule_15 (as_line l)).0 e) k h))
      go false e = sym e

  -- entries past the arrays are 0, so a balise at index 64 does not lie beyond the one before it
  pub broken_at_64 : length l.balise_points ≡ 64 → length l.balise_metres ≡ 64 → KeptAt l 64 → ⊥
  broken_at_64 p m r =
      let z : entry l.balise_points 64 ≡ 0 = get_or-eq_default l.balise_points 0 (omega arith) in
      let y : entry l.balise_metres 64 ≡ 0 = get_or-eq_default l.balise_metres 0 (omega arith) in
      let q = rw (z, y, zero-mul) at r.least in
      omega arith

-- balise k of a loop over the entries in use, of which it read a point p and metres m
pub at_turn : (l : Line) {k p m : ℕ} →
    (k < length (take l.balise_count l.balise_points)) × (k < length (take l.balise_count l.balise_metres))
    × ((d : ℕ) → p ≡ get_or (take l.balise_count l.balise_points) k d) × ((d : ℕ) → m ≡ get_or (take l.balise_count l.balise_metres) k d) →
    (k < l.balise_count) × (p * l.step + m ≡ place_at l k) × (m ≡ entry l.balise_metres k)
at_turn l {k} (i, j, p, m) =
    let h : k < l.balise_count = omega (arith, length-take l.balise_count l.balise_points) in
    let q = p 0 ∙ get_or-take l.balise_count l.balise_points k 0 h in
    let n = m 0 ∙ get_or-take l.balise_count l.balise_metres k 0 h in
    (h, rw (q, n), n)
