-- The walk along the line, as the code goes it: what it holds at a point is what the train covers there. Assumes nothing.
use Prim.Native.Nat.{ℕ, zero, suc, ◌+◌, ◌-◌, ◌*◌, ◌≤◌, ◌<◌, min}
use mathlib.Core.List.{List}
use mathlib.Core.Logic.{◌⊎◌, ⊎_elim}
use mathlib.Core.Path.{◌≡◌, refl, sym, ap, ◌∙◌}
use native.Mathlib.Decide.{dec_le}
use native.Mathlib.Nat.{le_antisymm, le_trans, zero-mul, mul-le-mul_right, one-le-mul}
use native.Mathlib.Omega.{arith}
use lib.ListN.{length, get_or-replicate}
use borrow.Author.Tests.{lt-ltb, ne_eqb}
use Rattle.rules.specs.Count.{entry, row, lowest_from, ceil_div}
use Rattle.rules.specs.Line.{Line, Train}
use Rattle.rules.specs.Run.{balise_place, distance, grown_length, last_top, cap_speed}
use Rattle.rules.specs.Admitted.{Admitted}
use Rattle.rules.proofs.Count.{length-row, entry_row, lowest_le, rounded_up}
use Rattle.rules.proofs.Fill.{padded-within}
use Rattle.rules.proofs.Grown.{rear, distance_from, last-passed, none_passed, places-rise, rear_far}
use Rattle.values.specs.declared.decoded.Line as decoded_line
use Rattle.values.specs.declared.decoded.Train as decoded_train
use Rattle.values.specs.Values.{as_line, as_train}
use Rattle.caps.specs.declared.places.Places.{Places}
use Rattle.caps.specs.declared.Course.{Course}
use Rattle.caps.specs.declared.Covered.{Covered}
use Rattle.caps.specs.Caps.{in_use, zeros, places_of, limit_places, balise_places, last_place, place_ahead, rear_at, head_for, lowest_limit, covering, covered_at}
use Rattle.caps.proofs.Lowest.{lowest_agree}
use Rattle.caps.proofs.Past.{AtMost, Reached, past_reached}
use Rattle.caps.proofs.Covering.{limit_place, IsCovered, reached_first, covered_lowest}

-- the arrays and numbers that the code goes by are those of the line and the train
pub record IsCourse (l : Line) (t : Train) (c : Course) : Type 0 where
  pub limit_count_lem : in_use c.limits_at.count ≡ length l.limit_points
  pub balise_count_lem : in_use c.balises_at.count ≡ length l.balise_points
  pub limit_places_lem : (k : ℕ) → k < length l.limit_points → entry c.limits_at.at k ≡ limit_place l k
  pub limits_are : (k : ℕ) → k < length l.limit_points → entry c.limits k ≡ entry l.limits k
  pub balise_places_lem : (k : ℕ) → k < length l.balise_points → entry c.balises_at.at k ≡ balise_place l k
  pub step_is : c.step ≡ l.step
  pub train-length : c.length ≡ t.train_length
  pub top : c.top ≡ last_top t

-- what is held is so with the head at point i
abbrev pub Holds : Line → Train → ℕ → Covered → Type 0
Holds l t i v = IsCovered l t i v.head v.tail v.balises v.lowest

-- and stays so at the points before `until`
abbrev Stays : Line → Train → ℕ → Covered → Type 0
Stays l t i v = (j : ℕ) → i ≤ j → j < v.until → Holds l t j v

pub record Known (l : Line) (t : Train) (i : ℕ) (v : Covered) : Type 0 where
  pub here : Holds l t i v
  pub stays : Stays l t i v

-- before point i is looked at
pub record Nearing (l : Line) (t : Train) (i : ℕ) (v : Covered) : Type 0 where
  pub head_behind : AtMost (limit_place l) (length l.limit_points) (i * l.step) v.head
  pub tail_behind : AtMost (limit_place l) (length l.limit_points) (rear l t i) v.tail
  pub balises-behind : AtMost (balise_place l) (length l.balise_points) (i * l.step) v.balises
  pub stays : Stays l t i v

-- as the code has them
module _ (line : decoded_line.Line) (train : decoded_train.Train) (a : Admitted (as_line line) (as_train train)) where
  abbrev on_line : Line
  on_line = as_line line

  counted : (count : ℕ) → count ≤ 64 → (array : List ℕ) → in_use (in_use count) ≡ length (row (entry array) count)
  counted count h array = omega (arith, length-row (entry array) count)

  place_at_lem :
      (points metres : List ℕ) (count k : ℕ) → k < count → count ≤ 64 →
      entry (places_of points metres (in_use count) line.step).at k ≡ entry points k * line.step + entry metres k
  unfolding places_of
  place_at_lem points metres count k h m = padded-within _ (omega arith) (omega arith)

  pub course_is :
      {limits balises : Places} {top : ℕ} → limits ≡ limit_places line → balises ≡ balise_places line → top ≡ last_top (as_train train) →
      IsCourse on_line (as_train train)
      (record { limits_at = limits; limits = line.limits; balises_at = balises; step = line.step; length = train.length; top = top })
  unfolding limit_places balise_places balise_place places_of
  course_is p q e =
      let few : line.limit_count ≤ 64 = rw length-row at a.rule3_line.limits-most in
      let balises : line.balise_count ≤ 64 = rw length-row at a.rule3_line.balises-most in
      record {
        limit_count_lem = rw p (counted line.limit_count few line.limit_points);
        balise_count_lem = rw q (counted line.balise_count balises line.balise_points);
        limit_places_lem = λ k h.
            let m : k < line.limit_count = rw length-row at h in
            rw (p, entry_row (entry line.limit_points) line.limit_count k m)
            (place_at_lem line.limit_points zeros line.limit_count k m few ∙ omega (arith, get_or-replicate {A = ℕ} 64 k 0 0 (omega arith)));
        limits_are = λ k h. sym (entry_row (entry line.limits) line.limit_count k (rw length-row at h));
        balise_places_lem = λ k h.
            let m : k < line.balise_count = rw length-row at h in
            rw (q, entry_row (entry line.balise_points) line.balise_count k m, entry_row (entry line.balise_metres) line.balise_count k m)
            (place_at_lem line.balise_points line.balise_metres line.balise_count k m balises);
        step_is = refl;
        train-length = refl;
        top = e;
      }

module _ (l : Line) (t : Train) (a : Admitted l t) where
  -- the last balise reached is the one from which the distance runs
  reached_from : (i k : ℕ) → Reached (balise_place l) (length l.balise_points) (i * l.step) (suc k) → distance_from l i ≡ balise_place l k
  reached_from i k r =
      let (j, f) = last-passed l i k (omega (arith, r.most)) (r.behind k (omega arith)) in
      let same : j ≡ k = le_antisymm (last j f.there f.passed (dec_le j k)) (f.last k (omega (arith, r.most)) (r.behind k (omega arith))) in
      rw (f.found, same)
    where
      last : (j : ℕ) → j < length l.balise_points → balise_place l j ≤ i * l.step → Dec (j ≤ k) → j ≤ k
      last j h m (yes q) = q
      last j h m (no q) = absurd (omega (arith, r.ahead (omega arith), places-rise l t a (suc k) j (omega arith) h))

  reached_none : (i : ℕ) → Reached (balise_place l) (length l.balise_points) (i * l.step) 0 → distance_from l i ≡ 0
  reached_none i r = rw (none_passed l i (λ k h. omega (arith, r.ahead (omega arith), places-rise l t a 0 k (omega arith) h)))

  module _ {c : Course} (is : IsCourse l t c) where
    from_is : (i k : ℕ) → Reached (balise_place l) (length l.balise_points) (i * l.step) k → last_place c.balises_at.at k ≡ distance_from l i
    unfolding last_place
    from_is i zero r = sym (reached_none i r)
    from_is i (suc k) r =
        let last : min (suc k) 64 - 1 ≡ k = omega (arith, r.most, a.rule3_line.balises-most) in
        rw (ne_eqb (suc k) 0 (λ z. omega arith), last) (is.balise_places_lem k (omega (arith, r.most)) ∙ sym (reached_from i k r))

    rear_is : (i k : ℕ) → Reached (balise_place l) (length l.balise_points) (i * l.step) k →
        rear_at c.length (last_place c.balises_at.at k) (i * l.step) ≡ rear l t i
    unfolding grown_length distance
    rear_is i k r = rw (from_is i k r, is.train-length)

    limit_ahead : (k : ℕ) → k < length l.limit_points → place_ahead c.limits_at.at (in_use c.limits_at.count) k ≡ limit_place l k
    unfolding place_ahead
    limit_ahead k h = rw (is.limit_count_lem, lt-ltb k (length l.limit_points) h) (is.limit_places_lem k h)

    -- ---- one place of the head

    module _ (i head tail balises : ℕ)
        (h : Reached (limit_place l) (length l.limit_points) (i * l.step) head)
        (r : Reached (limit_place l) (length l.limit_points) (rear l t i) tail)
        (b : Reached (balise_place l) (length l.balise_points) (i * l.step) balises) where
      abbrev now : Covered
      now = covering c head tail balises

      lowest : lowest_limit c.limits c.top tail head ≡ lowest_from (entry l.limits) (last_top t) (tail - 1) (head - (tail - 1))
      unfolding lowest_limit
      lowest =
          let few : min head 64 ≡ head = omega (arith, h.most, a.parallel.limits, a.rule3_line.limits-most) in
          rw (few, is.top) (lowest_agree _ _ (last_top t) (tail - 1) (head - (tail - 1)) (λ k p q. is.limits_are k (omega (arith, h.most))))

      -- the place before which nothing is passed: where the head or the rear next reaches a limit, and the head a balise
      abbrev ahead : ℕ
      ahead =
          min (place_ahead c.limits_at.at (in_use c.limits_at.count) head)
          (min (place_ahead c.balises_at.at (in_use c.balises_at.count) balises)
          (head_for c.length (last_place c.balises_at.at balises) (place_ahead c.limits_at.at (in_use c.limits_at.count) tail)))

      before-ahead : (j : ℕ) → j < now.until → j * l.step < ahead
      unfolding covering
      before-ahead j m = go (dec_le ahead (j * l.step))
        where
          go : Dec (ahead ≤ j * l.step) → j * l.step < ahead
          go (yes q) =
              let past : ceil_div ahead l.step ≤ j = (rounded_up ahead a.rule3_line.step-least).least j q in
              absurd (omega (arith, rw is.step_is at m))
          go (no q) = omega arith

      by_head : head < length l.limit_points → ahead ≤ limit_place l head
      by_head p = omega (arith, limit_ahead head p)

      by_balise : balises < length l.balise_points → ahead ≤ balise_place l balises
      unfolding place_ahead
      by_balise p =
          let next : place_ahead c.balises_at.at (in_use c.balises_at.count) balises ≡ balise_place l balises =
          rw (is.balise_count_lem, lt-ltb balises (length l.balise_points) p) (is.balise_places_lem balises p) in
          omega arith

      by_tail : tail < length l.limit_points → ahead ≤ ceil_div (50 * (limit_place l tail + t.train_length + 2) - distance_from l i) 49
      by_tail p = rw (← limit_ahead tail p, ← is.train-length, ← from_is i balises b) (omega arith)

      -- until then the rear has not reached the next limit
      rear_short : (j : ℕ) → distance_from l j ≡ distance_from l i → j * l.step < ahead → tail < length l.limit_points → rear l t j < limit_place l tail
      unfolding grown_length distance
      rear_short j same m p = go (dec_le (limit_place l tail) (rear l t j))
        where
          -- a limit that is not the first begins past point 0
          past_first : 1 ≤ limit_place l tail
          past_first =
              let some = reached_first l t a tail r in
              let next : suc (tail - 1) ≡ tail = omega arith in
              let far : entry l.limit_points (tail - 1) < entry l.limit_points tail = rw next at (a.rule4.rise (tail - 1) (omega arith)) in
              one-le-mul (omega arith) a.rule3_line.step-least

          go : Dec (limit_place l tail ≤ rear l t j) → rear l t j < limit_place l tail
          go (yes q) =
              let grown = (rounded_up (distance l j) {b = 50} (omega arith)).enough in
              let reached : ceil_div (50 * (limit_place l tail + t.train_length + 2) - distance_from l i) 49 ≤ j * l.step =
              (rounded_up (50 * (limit_place l tail + t.train_length + 2) - distance_from l i) {b = 49} (omega arith)).least (j * l.step)
              (omega (arith, past_first)) in
              absurd (omega (arith, by_tail p))
          go (no q) = omega arith

      later : (j : ℕ) → i ≤ j → j < now.until → Holds l t j now
      unfolding covering
      later j le q =
          let m = before-ahead j q in
          let far : i * l.step ≤ j * l.step = mul-le-mul_right l.step le in
          let passed : Reached (balise_place l) (length l.balise_points) (j * l.step) balises = record {
            most = b.most;
            behind = λ k p. le_trans (b.behind k p) far;
            ahead = λ p. omega (arith, by_balise p);
          } in
          record {
            head_is = record { most = h.most; behind = λ k p. le_trans (h.behind k p) far; ahead = λ p. omega (arith, by_head p) };
            tail_is = record {
              most = r.most;
              behind = λ k p. le_trans (r.behind k p) (rear_far l t a i j le);
              ahead = rear_short j (sym (from_is j balises passed) ∙ from_is i balises b) m;
            };
            balises_are = passed;
            lowest_is = lowest;
          }

      pub known : Known l t i now
      unfolding covering
      known = record { here = record { head_is = h; tail_is = r; balises_are = b; lowest_is = lowest }; stays = later }

    -- ---- from point to point

    pub known_at : (i : ℕ) {point : ℕ} {v w : Covered} → point ≡ i → Nearing l t i v → w ≡ covered_at c point v → Known l t i w
    unfolding covered_at
    known_at i {v = v} f u e =
        let passed = past_reached c.balises_at.at (i * l.step) v.balises is.balise_count_lem is.balise_places_lem u.balises-behind in
        let place : i * c.step ≡ i * l.step = ap (λ (step : ℕ). i * step) is.step_is in
        rw (e, f, place, rear_is i _ passed)
        (known i _ _ _ (past_reached c.limits_at.at (i * l.step) v.head is.limit_count_lem is.limit_places_lem u.head_behind)
        (past_reached c.limits_at.at (rear l t i) v.tail is.limit_count_lem is.limit_places_lem u.tail_behind) passed)

  -- before point 0
  pub nearing_first : {v : Covered} → v ≡ record { head = 1; tail = 1; balises = 0; lowest = 0; until = 0 } → Nearing l t 0 v
  nearing_first e =
      let some : 1 ≤ length l.limit_points = omega (arith, a.parallel.limits, a.rule3_line.limits-least) in
      rw e
      (record {
        head_behind = record { most = some; behind = first _ };
        tail_behind = record { most = some; behind = first _ };
        balises-behind = record { most = omega arith; behind = λ j h. absurd (omega arith) };
        stays = λ j h m. absurd (omega arith);
      })
    where
      first : (reach j : ℕ) → j < 1 → limit_place l j ≤ reach
      first reach zero h = rw (a.rule4.from_zero, zero-mul) (omega arith)
      first reach (suc j) h = absurd (omega arith)

  -- at any later point
  pub nearing_next : {i j : ℕ} {v : Covered} → Known l t i v → i ≤ j → Nearing l t j v
  nearing_next {i} {j} u le =
      let far : i * l.step ≤ j * l.step = mul-le-mul_right l.step le in
      let h = u.here in
      record {
        head_behind = record { most = h.head_is.most; behind = λ k m. le_trans (h.head_is.behind k m) far };
        tail_behind = record { most = h.tail_is.most; behind = λ k m. le_trans (h.tail_is.behind k m) (rear_far l t a i j le) };
        balises-behind = record { most = h.balises_are.most; behind = λ k m. le_trans (h.balises_are.behind k m) far };
        stays = λ k m. u.stays k (omega arith);
      }

  -- what is held is the cap speed, here and before `until`, at most the last band's top
  pub known_lowest : {i : ℕ} {v : Covered} → Known l t i v → (j : ℕ) → (j ≡ i) ⊎ ((i ≤ j) × (j < v.until)) → j < l.points → v.lowest ≡ cap_speed l t j
  known_lowest u j at h =
      ⊎_elim (λ e. rw e (covered_lowest l t a u.here (omega arith))) (λ m. covered_lowest l t a (u.stays j m.0 m.1) h) at

  pub known_top : {i : ℕ} {v : Covered} → Known l t i v → v.lowest ≤ last_top t
  known_top u = rw u.here.lowest_is (lowest_le _ _ _ _)
