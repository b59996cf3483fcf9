-- Each test of the file rules 3 to 9 and 15 passes exactly where the line and the train have the rule's property. Assumes nothing.
use Prim.Native.Nat.{ℕ, ◌+◌, ◌-◌, ◌≤◌, ◌<◌}
use mathlib.Core.Bool.{true}
use mathlib.Core.Logic.{◌↔◌}
use mathlib.Core.Path.{◌≡◌}
use native.Mathlib.Omega.{arith}
use native.Mathlib.Nat.{add-zero}
use native.Mathlib.Numerals.{add-one}
use lib.ListN.{length}
use borrow.Author.Tests.{leb-true, le-leb, ltb-true, lt-ltb, eqb-true, eq-eqb}
use Rattle.rules.specs.Count.{entry}
use Rattle.rules.specs.Line.{Line, Train}
use Rattle.rules.specs.Run.{balise_place}
use Rattle.rules.specs.Refusal.{line_sizes, train_sizes, limit_points_rule, limits_rule, blocks_rule, balises_rule, bands_rule, stops_rule, last_block_rule}
use Rattle.rules.specs.Admitted.{Rule3Line, Rule3Train, Rule4, Rule5, Rule6, Rule15, Rule7, Rule8, Rule9}
use Rattle.rules.proofs.Count.{and_left, and_right, and_both, within_means, within_holds, all_within_means, all_within_holds, below_means}
use Rattle.rules.proofs.Count.{below_holds, rises_means, rises_holds, every-at, every_all}

-- a step of one from i, in the two ways of writing it
up : {a b : ℕ} → a + 1 ≤ b → a < b
up h = omega arith

down : {a b : ℕ} → a < b → a + 1 ≤ b
down h = omega arith

pub rule_3_line : (l : Line) (trains : ℕ) → (line_sizes l trains ≡ true) ↔ Rule3Line l trains
unfolding line_sizes
rule_3_line l trains = (
  λ e.
      let e₁ = and_right _ _ e in
      let e₂ = and_right _ _ e₁ in
      let e₃ = and_right _ _ e₂ in
      let p = within_means 3 4096 l.points (and_left _ _ e) in
      let s = within_means 1 100 l.step (and_left _ _ e₁) in
      let k = within_means 1 64 (length l.limits) (and_left _ _ e₂) in
      let b = within_means 1 32 (length l.block_starts) (and_left _ _ e₃) in
      let e₄ = and_right _ _ e₃ in
      let m = within_means 0 64 (length l.balise_points) (and_left _ _ e₄) in
      let t = within_means 1 64 trains (and_right _ _ e₄) in
      record {
        points-least = p.0;
        points-most = p.1;
        step-least = s.0;
        step-most = s.1;
        limits-least = k.0;
        limits-most = k.1;
        blocks-least = b.0;
        blocks-most = b.1;
        balises-most = m.1;
        trains-least = t.0;
        trains-most = t.1;
      },
  λ r.
      and_both (within_holds 3 4096 l.points r.points-least r.points-most)
      (and_both (within_holds 1 100 l.step r.step-least r.step-most)
      (and_both (within_holds 1 64 (length l.limits) r.limits-least r.limits-most)
      (and_both (within_holds 1 32 (length l.block_starts) r.blocks-least r.blocks-most)
      (and_both (within_holds 0 64 (length l.balise_points) (omega arith) r.balises-most)
      (within_holds 1 64 trains r.trains-least r.trains-most))))),
)

-- a line whose sizes are kept with some trains keeps them with one
pub one_train : (l : Line) {trains : ℕ} → Rule3Line l trains → line_sizes l 1 ≡ true
one_train l r =
    (rule_3_line l 1).1
    (record {
      points-least = r.points-least;
      points-most = r.points-most;
      step-least = r.step-least;
      step-most = r.step-most;
      limits-least = r.limits-least;
      limits-most = r.limits-most;
      blocks-least = r.blocks-least;
      blocks-most = r.blocks-most;
      balises-most = r.balises-most;
      trains-least = omega arith;
      trains-most = omega arith;
    })

pub rule_3_train : (t : Train) → (train_sizes t ≡ true) ↔ Rule3Train t
unfolding train_sizes
rule_3_train t = (
  λ e.
      let e₁ = and_right _ _ e in
      let e₂ = and_right _ _ e₁ in
      let c = within_means 0 2 t.class (and_left _ _ e) in
      let n = within_means 1 1000 t.train_length (and_left _ _ e₁) in
      let b = within_means 1 8 (length t.tops) (and_left _ _ e₂) in
      let s = within_means 0 32 (length t.stops) (and_right _ _ e₂) in
      record { class-most = c.1; length-least = n.0; length_most = n.1; bands-least = b.0; bands-most = b.1; stops-most = s.1 },
  λ r.
      and_both (within_holds 0 2 t.class (omega arith) r.class-most)
      (and_both (within_holds 1 1000 t.train_length r.length-least r.length_most)
      (and_both (within_holds 1 8 (length t.tops) r.bands-least r.bands-most)
      (within_holds 0 32 (length t.stops) (omega arith) r.stops-most))),
)

pub rule_4 : (l : Line) → (limit_points_rule l ≡ true) ↔ Rule4 l
unfolding limit_points_rule
rule_4 l = (
  λ e.
      let e₁ = and_right _ _ e in
      record {
        from_zero = eqb-true (entry l.limit_points 0) 0 (and_left _ _ e);
        rise = λ k h. up (rises_means 1 _ (entry l.limit_points) (and_left _ _ e₁) k h);
        limit_point_most = λ k h. (all_within_means 0 _ _ (entry l.limit_points) (and_right _ _ e₁) k h).1;
      },
  λ r.
      and_both (eq-eqb (entry l.limit_points 0) 0 r.from_zero)
      (and_both (rises_holds 1 _ (entry l.limit_points) (λ k h. down (r.rise k h)))
      (all_within_holds 0 _ _ (entry l.limit_points) (λ k h. omega arith) r.limit_point_most)),
)

pub rule_5 : (l : Line) → (limits_rule l ≡ true) ↔ Rule5 l
unfolding limits_rule
rule_5 l = (
  λ e.
      record {
        limit_least = λ k h. (all_within_means 1 300 _ (entry l.limits) e k h).0;
        limit_most = λ k h. (all_within_means 1 300 _ (entry l.limits) e k h).1;
      },
  λ r. all_within_holds 1 300 _ (entry l.limits) r.limit_least r.limit_most,
)

pub rule_6 : (l : Line) → (blocks_rule l ≡ true) ↔ Rule6 l
unfolding blocks_rule
rule_6 l = (
  λ e.
      let e₁ = and_right _ _ e in
      let e₂ = and_right _ _ e₁ in
      record {
        from_zero = eqb-true (entry l.block_starts 0) 0 (and_left _ _ e);
        below = λ k h. up (below_means 1 _ (entry l.block_starts) (entry l.block_ends) (and_left _ _ e₁) k h);
        after = λ k h. rw (add-zero, add-one k) at
            (below_means 0 _ (entry l.block_ends) (λ i. entry l.block_starts (i + 1)) (and_left _ _ e₂) k (omega arith));
        end-most = λ k h. (all_within_means 0 _ _ (entry l.block_ends) (and_right _ _ e₂) k h).1;
      },
  λ r.
      and_both (eq-eqb (entry l.block_starts 0) 0 r.from_zero)
      (and_both (below_holds 1 _ (entry l.block_starts) (entry l.block_ends) (λ k h. down (r.below k h)))
      (and_both (below_holds 0 _ (entry l.block_ends) (λ i. entry l.block_starts (i + 1)) (λ k h. rw (add-zero, add-one k) (r.after k (omega arith))))
      (all_within_holds 0 _ _ (entry l.block_ends) (λ k h. omega arith) r.end-most))),
)

pub rule_15 : (l : Line) → (balises_rule l ≡ true) ↔ Rule15 l
unfolding balises_rule
rule_15 l = (
  λ e.
      let e₁ = and_right _ _ e in
      record {
        rise = λ k h. up (rises_means 1 _ (balise_place l) (and_left _ _ e) k h);
        metres_most = λ k h. ltb-true _ l.step (every-at _ _ (and_left _ _ e₁) k h);
        place-most = λ k h. (all_within_means 0 _ _ (balise_place l) (and_right _ _ e₁) k h).1;
      },
  λ r.
      and_both (rises_holds 1 _ (balise_place l) (λ k h. down (r.rise k h)))
      (and_both (every_all _ _ (λ k h. lt-ltb _ l.step (r.metres_most k h)))
      (all_within_holds 0 _ _ (balise_place l) (λ k h. omega arith) r.place-most)),
)

pub rule_7 : (t : Train) → (bands_rule t ≡ true) ↔ Rule7 t
unfolding bands_rule
rule_7 t = (
  λ e.
      let e₁ = and_right _ _ e in
      record {
        rise = λ k h. up (rises_means 1 _ (entry t.tops) (and_left _ _ e) k h);
        top_least = λ k h. (all_within_means 1 300 _ (entry t.tops) (and_left _ _ e₁) k h).0;
        top-most = λ k h. (all_within_means 1 300 _ (entry t.tops) (and_left _ _ e₁) k h).1;
        rate_least = λ k h. (all_within_means 1 200 _ (entry t.rates) (and_right _ _ e₁) k h).0;
        rate_most = λ k h. (all_within_means 1 200 _ (entry t.rates) (and_right _ _ e₁) k h).1;
      },
  λ r.
      and_both (rises_holds 1 _ (entry t.tops) (λ k h. down (r.rise k h)))
      (and_both (all_within_holds 1 300 _ (entry t.tops) r.top_least r.top-most)
      (all_within_holds 1 200 _ (entry t.rates) r.rate_least r.rate_most)),
)

pub rule_8 : (l : Line) (t : Train) → (stops_rule l t ≡ true) ↔ Rule8 l t
unfolding stops_rule
rule_8 l t = (
  λ e.
      let e₁ = and_right _ _ e in
      record {
        apart = rises_means 2 _ (entry t.stops) (and_left _ _ e);
        stop_most = λ k h. (all_within_means 0 _ _ (entry t.stops) (and_left _ _ e₁) k h).1;
        dwell-most = λ k h. (all_within_means 0 3600 _ (entry t.dwells) (and_right _ _ e₁) k h).1;
      },
  λ r.
      and_both (rises_holds 2 _ (entry t.stops) r.apart)
      (and_both (all_within_holds 0 _ _ (entry t.stops) (λ k h. omega arith) r.stop_most)
      (all_within_holds 0 3600 _ (entry t.dwells) (λ k h. omega arith) r.dwell-most)),
)

pub rule_9 : (l : Line) (t : Train) → (last_block_rule l t ≡ true) ↔ Rule9 l t
unfolding last_block_rule
rule_9 l t = (λ e. record { fits = leb-true _ (l.points - 1) e }, λ r. le-leb _ (l.points - 1) r.fits)
