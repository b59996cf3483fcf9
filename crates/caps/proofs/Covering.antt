-- The walk along the line: which limits hold in the cells that the grown train covers, and the cap speed that they give. Assumes nothing.
use Prim.Native.Nat.{ℕ, zero, suc, ◌-◌, ◌*◌, ◌≤◌, ◌<◌, min}
use mathlib.Core.Path.{◌≡◌, ◌∙◌}
use native.Mathlib.Decide.{dec_le}
use native.Mathlib.Nat.{le_refl, le_antisymm, zero-mul, le_of_mul-le-mul_right, lt_of_mul-lt-mul_right}
use native.Mathlib.Omega.{arith}
use lib.ListN.{length}
use Rattle.rules.specs.Count.{entry, lowest_from}
use Rattle.rules.specs.Line.{Line, Train}
use Rattle.rules.specs.Run.{balise_place, grown_length, grown_cells, last_top, cell_limit, cap_speed}
use Rattle.rules.specs.Admitted.{Admitted}
use Rattle.rules.specs.Meaning.{InForce, Covers, IsCapSpeed}
use Rattle.rules.proofs.Count.{rises_far, lowest_le, lowest_each, lowest_greatest, rounded_up}
use Rattle.rules.proofs.Grown.{rear, rear_reaches}
use Rattle.rules.proofs.Cap.{limit_is, limit_in_force, cap_speed_is}
use Rattle.caps.proofs.Past.{Reached}

-- ---- what is covered with the head at point i

-- the place of limit k, in m from point 0
abbrev pub limit_place : Line → ℕ → ℕ
limit_place l k = entry l.limit_points k * l.step

-- so many limits are reached by the head and by the rear, and so many balises by the head; the lowest limit in between
pub record IsCovered (l : Line) (t : Train) (i head tail balises lowest : ℕ) : Type 0 where
  pub head_is : Reached (limit_place l) (length l.limit_points) (i * l.step) head
  pub tail_is : Reached (limit_place l) (length l.limit_points) (rear l t i) tail
  pub balises_are : Reached (balise_place l) (length l.balise_points) (i * l.step) balises
  pub lowest_is : lowest ≡ lowest_from (entry l.limits) (last_top t) (tail - 1) (head - (tail - 1))

module _ (l : Line) (t : Train) (a : Admitted l t) where
  points_far : (j k : ℕ) → j ≤ k → k < length l.limit_points → entry l.limit_points j ≤ entry l.limit_points k
  points_far = rises_far (entry l.limit_points) (length l.limit_points) (λ i q. omega (arith, a.rule4.rise i q))

  some_limit : 0 < length l.limit_points
  some_limit = omega (arith, a.parallel.limits, a.rule3_line.limits-least)

  -- the first limit is reached everywhere
  pub reached_first : {reach : ℕ} (k : ℕ) → Reached (limit_place l) (length l.limit_points) reach k → 1 ≤ k
  reached_first zero r = let first : limit_place l 0 ≡ 0 = rw a.rule4.from_zero (zero-mul l.step) in absurd (omega (arith, r.ahead some_limit))
  reached_first (suc k) r = omega arith

  -- a later cell has no earlier limit
  in_order_lem : {j k x y : ℕ} → InForce l j x → InForce l k y → x ≤ y → j ≤ k
  in_order_lem {j} {k} {x} {y} f g h = go (dec_le j k)
    where
      go : Dec (j ≤ k) → j ≤ k
      go (yes m) = m
      go (no m) = absurd (omega (arith, f.begun, g.unended (omega (arith, f.there)), points_far (suc k) j (omega arith) f.there))

  module _ {i head tail balises lowest : ℕ} (u : IsCovered l t i head tail balises lowest) (h : i < l.points) where
    head_in : InForce l (head - 1) (min i (l.points - 2))
    head_in =
        let some = reached_first _ u.head_is in
        let next : suc (head - 1) ≡ head = omega arith in
        let m : head - 1 < length l.limit_points = omega (arith, u.head_is.most) in
        let reached : entry l.limit_points (head - 1) ≤ i = le_of_mul-le-mul_right (u.head_is.behind (head - 1) (omega arith)) a.rule3_line.step-least in
        record {
          there = m;
          begun = omega (arith, a.rule4.limit_point_most (head - 1) m);
          unended = λ p. rw next (omega (arith, lt_of_mul-lt-mul_right l.step (u.head_is.ahead (omega arith))));
        }

    tail_in : InForce l (tail - 1) (i - grown_cells l t i)
    tail_in =
        let some = reached_first _ u.tail_is in
        let next : suc (tail - 1) ≡ tail = omega arith in
        record {
          there = omega (arith, u.tail_is.most);
          begun = (rear_reaches l t a i (entry l.limit_points (tail - 1))).1 (u.tail_is.behind (tail - 1) (omega arith));
          unended = λ p. rw next (past (dec_le (entry l.limit_points tail) (i - grown_cells l t i)) (omega arith));
        }
      where
        past : Dec (entry l.limit_points tail ≤ i - grown_cells l t i) → tail < length l.limit_points → i - grown_cells l t i < entry l.limit_points tail
        past (yes q) p = absurd (omega (arith, (rear_reaches l t a i (entry l.limit_points tail)).0 q, u.tail_is.ahead p))
        past (no q) p = omega arith

    cells_least : 1 ≤ grown_cells l t i
    unfolding grown_cells grown_length
    cells_least = go (grown_cells l t i) (rounded_up (grown_length l t i) a.rule3_line.step-least).enough
      where
        go : (n : ℕ) → grown_length l t i ≤ n * l.step → 1 ≤ n
        go zero g = absurd (omega (arith, zero-mul l.step))
        go (suc n) g = omega arith

    -- each limit from the tail's to the head's holds in a cell that the train covers
    holds_somewhere : (k : ℕ) → tail - 1 ≤ k → k ≤ head - 1 → (c : ℕ) × Covers l t i c × InForce l k c
    holds_somewhere k p q = go (dec_le k (tail - 1))
      where
        go : Dec (k ≤ tail - 1) → (c : ℕ) × Covers l t i c × InForce l k c
        go (yes g) =
            let e : k ≡ tail - 1 = omega arith in
            (i - grown_cells l t i, record { from_tail = omega arith; to_head = omega arith; exists = omega (arith, cells_least) }, rw e tail_in)
        go (no g) =
            let b = head_in.begun in
            let far = points_far k (head - 1) q head_in.there in
            let off = tail_in.unended (omega (arith, head_in.there)) in
            let near = points_far (suc (tail - 1)) k (omega arith) (omega (arith, head_in.there)) in (
              entry l.limit_points k,
              record { from_tail = omega arith; to_head = omega arith; exists = omega arith },
              record { there = omega (arith, head_in.there); begun = le_refl _; unended = λ m. a.rule4.rise k m },
            )

    -- and each cell that it covers has one of them
    covered_by : (c : ℕ) → Covers l t i c → (k : ℕ) × (tail - 1 ≤ k) × (k ≤ head - 1) × (cell_limit l c ≡ entry l.limits k)
    covered_by c v =
        let (k, f) = limit_in_force l t a c in
        (k, in_order_lem tail_in f (omega (arith, v.from_tail)), in_order_lem f head_in (omega (arith, v.to_head, v.exists)), limit_is l t a k c f)

    pub covered_lowest : lowest ≡ cap_speed l t i
    covered_lowest =
        let is : IsCapSpeed l t i (cap_speed l t i) = cap_speed_is l t i in
        let f : ℕ → ℕ = entry l.limits in
        let n : ℕ = head - (tail - 1) in
        let some = reached_first _ u.head_is in
        u.lowest_is
        ∙ le_antisymm
        (is.greatest (lowest_from f (last_top t) (tail - 1) n) (lowest_le f (last_top t) (tail - 1) n)
        (λ c v. let (k, p, q, e) = covered_by c v in rw e (lowest_each f (last_top t) (tail - 1) n k p (omega arith))))
        (lowest_greatest f (last_top t) (cap_speed l t i) (tail - 1) n is.top
        (λ k p q. let (c, v, g) = holds_somewhere k p (omega arith) in rw (limit_is l t a k c g) at (is.limits c v)))
