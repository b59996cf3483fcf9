-- The stops from point to point: the next stop, which point is a stop, and its dwell. Assumes nothing.
use Prim.Native.Nat.{ℕ, zero, suc, ◌+◌, ◌-◌, ◌*◌, ◌≤◌, ◌<◌}
use mathlib.Core.Bool.{Bool, true, false, cond, or-false}
use mathlib.Core.List.{List, [], ◌∷◌}
use mathlib.Core.Path.{◌≡◌, refl, sym, ap, ◌∙◌}
use native.Mathlib.Decide.{dec_lt}
use native.Mathlib.Nat.{suc_inj}
use native.Mathlib.Omega.{arith}
use lib.Dec.{leb, ltb, eqb}
use lib.ListN.{length, drop, length-drop}
use lib.Seq.{get_or-drop}
use borrow.Author.Tests.{le-leb, leb-true, ltb-true, ltb-false, lt-ltb, le-ltb, eqb-true, eqb-false, eq-eqb, ne_eqb}
use Rattle.std.specs.Prelude.{Option, Some, None, MatchOption}
use Rattle.rules.specs.Count.{entry}
use Rattle.rules.specs.Line.{Line, Train}
use Rattle.rules.specs.Run.{listed}
use Rattle.rules.specs.Time.{dwell_from, dwell}
use Rattle.rules.proofs.Count.{rises_far}
use Rattle.rules.proofs.Cap.{listed-there, listed_only}
use Rattle.rules.proofs.Time.{dwell-none, cond_zero}
use Rattle.stops.specs.declared.Stop.{Stop}
use Rattle.stops.specs.Stops.{passed_by, stop_number, stop_from, stop_ahead, point_of, is_at, dwell_here, number_of, Apart, Behind, NextStop}

-- ---- the first stop at a point or later

-- what is passed lies before the point, and what is not does not
record Passed (stops : List ℕ) (i p : ℕ) : Type 0 where
  most : p ≤ length stops
  before : (k : ℕ) → k < p → entry stops k < i
  here : p < length stops → i ≤ entry stops p

passed_is : (stops : List ℕ) (i : ℕ) → Passed stops i (passed_by stops i)
unfolding passed_by
passed_is [] i = record { most = omega arith; before = λ k h. absurd (omega arith); here = λ h. absurd (omega arith) }
passed_is (x ∷ xs) i = go (ltb x i) refl (passed_is xs i)
  where
    go : (b : Bool) → ltb x i ≡ b → Passed xs i (passed_by xs i) → Passed (x ∷ xs) i (cond b (suc (passed_by xs i)) 0)
    go true e r =
        record {
          most = omega (arith, r.most);
          before = elim [ zero ↦ λ h. ltb-true x i e | suc k ↦ λ h. r.before k (omega arith) ];
          here = λ h. r.here (omega arith);
        }
    go false e r = record { most = omega arith; before = λ k h. absurd (omega arith); here = λ h. omega (arith, ltb-false x i e) }

module _ (stops : List ℕ) (s i : ℕ) where
  abbrev first : ℕ
  first = s + passed_by (drop s stops) i

  first_before : (k : ℕ) → s ≤ k → k < first → entry stops k < i
  first_before k g h =
      let e : k ≡ s + (k - s) = omega arith in
      rw e (rw (get_or-drop s stops (k - s) 0) at ((passed_is (drop s stops) i).before (k - s) (omega arith)))

  first_here : first < length stops → i ≤ entry stops first
  first_here h =
      rw (get_or-drop s stops (passed_by (drop s stops) i) 0) at ((passed_is (drop s stops) i).here (omega (arith, length-drop s stops)))

  first_most : s ≤ length stops → first ≤ length stops
  first_most h = omega (arith, (passed_is (drop s stops) i).most, length-drop s stops)

  -- so the first that is not passed is found
  pub from_there : {n : ℕ} → s ≤ n → n < length stops → i ≤ entry stops n → ((k : ℕ) → s ≤ k → k < n → entry stops k < i) → n ≡ first
  from_there {n} g h here before = go (dec_lt n first) (dec_lt first n)
    where
      go : Dec (n < first) → Dec (first < n) → n ≡ first
      go (yes l) d = absurd (omega (arith, first_before n g l))
      go (no l) (yes m) = absurd (omega (arith, before first (omega arith) m, first_here (omega arith)))
      go (no l) (no m) = omega arith

  from_none : ((k : ℕ) → s ≤ k → k < length stops → entry stops k < i) → length stops ≤ first
  from_none before = go (dec_lt first (length stops))
    where
      go : Dec (first < length stops) → length stops ≤ first
      go (yes l) = absurd (omega (arith, before first (omega arith) l, first_here l))
      go (no l) = omega arith

-- ---- a stop by its number

pub stop_there : (stops : List ℕ) {s : ℕ} → s < length stops → stop_number stops s ≡ Some (record { number = s; point = entry stops s })
stop_there stops {s} h = rw (lt-ltb s (length stops) h)

pub stop_none : (stops : List ℕ) {s : ℕ} → length stops ≤ s → stop_number stops s ≡ None
stop_none stops {s} h = rw (le-ltb s (length stops) h)

-- what a search that gives the first stop finds
pub found :
    (stops : List ℕ) (s i : ℕ) (r : Option Stop) →
    MatchOption r ((k : ℕ) → s ≤ k → k < length stops → entry stops k < i) (λ (f : Stop).
    (f.number < length stops) × (s ≤ f.number) × (f.point ≡ entry stops f.number) × (i ≤ f.point) × ((k : ℕ) → s ≤ k → k < f.number → entry stops k < i)) →
    r ≡ stop_from stops s i
unfolding stop_from
found stops s i None h = sym (stop_none stops (from_none stops s i h))
found stops s i (Some f) (there, on, point, here, before) =
    let e : f.number ≡ first stops s i = from_there stops s i on there (omega arith) before in
    rw (← e, stop_there stops there, ← point)

-- no stop lies before point 0
pub first_is : (stops : List ℕ) → stop_from stops 0 0 ≡ stop_number stops 0
unfolding stop_from passed_by
first_is [] = refl
first_is (s ∷ ss) = rw (le-ltb s 0 (omega arith))

-- a stop that is held is one of the stops
held_there : (stops : List ℕ) (stop : Stop) → Some stop ≡ stop_number stops stop.number → (stop.number < length stops) × (stop.point ≡ entry stops stop.number)
held_there stops stop e = go (ltb stop.number (length stops)) refl e
  where
    go :
        (b : Bool) → ltb stop.number (length stops) ≡ b → Some stop ≡ cond b (Some (record { number = stop.number; point = entry stops stop.number })) None →
        (stop.number < length stops) × (stop.point ≡ entry stops stop.number)
    go true b q = (ltb-true _ _ b, ap (λ (o : Option Stop). point_of o) q)
      where
        point_of : Option Stop → ℕ
        point_of None = 0
        point_of (Some s) = s.point
    go false b q = absurd (cc)

-- ---- the next stop

number-of : (stops : List ℕ) {n : ℕ} → n ≤ length stops → number_of stops (stop_number stops n) ≡ n
number-of stops {n} h = go (dec_lt n (length stops))
  where
    go : Dec (n < length stops) → number_of stops (stop_number stops n) ≡ n
    go (yes l) = rw (stop_there stops l)
    go (no l) = rw (stop_none stops {s = n} (omega arith)) (omega arith)

behind_at : (stops : List ℕ) {n i : ℕ} → n ≤ length stops → ((k : ℕ) → k < n → entry stops k < i) → Behind stops (stop_number stops n) i
behind_at stops {n} h before =
    let e : number_of stops (stop_number stops n) ≡ n = number-of stops h in
    record { at = rw e; there = rw e h; passed = rw e before }

pub behind-first : (stops : List ℕ) {stop : Option Stop} → stop ≡ stop_number stops 0 → Behind stops stop 0
behind-first stops e = rw e (behind_at stops (omega arith) (λ k h. absurd (omega arith)))

module _ (stops : List ℕ) (apart : Apart stops) where
  rise : (j k : ℕ) → j ≤ k → k < length stops → entry stops j ≤ entry stops k
  rise = rises_far (entry stops) (length stops) (λ k h. omega (arith, apart k h))

  -- from a stop that is at point i or later, and from one before it
  next_same : {stop : Stop} {i : ℕ} → Behind stops (Some stop) i → i ≤ stop.point → NextStop stops (Some stop) i
  next_same {stop = stop} {i = i} b h =
      record { behind = b; ahead = λ k p q. omega (arith, (held_there stops stop b.at).1, rise stop.number k p q) }

  next_later : {stop : Stop} {i : ℕ} → Behind stops (Some stop) i → NextStop stops (stop_from stops stop.number i) i
  unfolding stop_from
  next_later {stop = stop} {i = i} b =
      record {
        behind = behind_at stops most (λ k h. before k h (dec_lt k s));
        ahead = rw (number-of stops most) (λ k h g. omega (arith, first_here stops s i (omega arith), rise n k h g));
      }
    where
      s : ℕ
      s = stop.number

      n : ℕ
      n = first stops s i

      most : n ≤ length stops
      most = first_most stops s i b.there

      before : (k : ℕ) → k < n → Dec (k < s) → entry stops k < i
      before k h (yes l) = b.passed k l
      before k h (no l) = first_before stops s i k (omega arith) h

  -- the first stop at point i or later
  next_from : {stop : Option Stop} {i : ℕ} → Behind stops stop i → NextStop stops (stop_ahead stops stop i) i
  unfolding stop_ahead
  next_from {stop = None} b = record { behind = b; ahead = λ k h g. absurd (omega arith) }
  next_from {stop = Some stop} {i = i} b = go (leb i stop.point) refl
    where
      go : (t : Bool) → leb i stop.point ≡ t → NextStop stops (cond t (Some stop) (stop_from stops stop.number i)) i
      go true e = next_same b (leb-true _ _ e)
      go false e = next_later b

-- further on
pub behind_on : {stops : List ℕ} {stop : Option Stop} {i j : ℕ} → NextStop stops stop i → i ≤ j → Behind stops stop j
behind_on n h = record { at = n.behind.at; there = n.behind.there; passed = λ k l. omega (arith, n.behind.passed k l) }

-- ---- the next stop, by its point

-- it is the first at point i or later where its point is not passed
pub stop_kept : (stops : List ℕ) (stop : Option Stop) {i : ℕ} (end : ℕ) → i ≤ point_of stop end → stop ≡ stop_ahead stops stop i
unfolding stop_ahead
stop_kept stops None end h = refl
stop_kept stops (Some stop) {i} end h = rw (le-leb i stop.point h)

-- and it is at point i exactly where its point is
pub at_point : (stop : Option Stop) {i end : ℕ} → i < end → eqb (point_of stop end) i ≡ is_at stop i
at_point None {i} {end} h = ne_eqb end i (λ e. omega arith)
at_point (Some stop) h = refl

-- no dwell is beside it where its point is another
pub elsewhere : (dwells : List ℕ) (stop : Option Stop) {i : ℕ} (end : ℕ) → (point_of stop end ≡ i → ⊥) → dwell_here dwells stop i ≡ 0
unfolding dwell_here
elsewhere dwells None end h = refl
elsewhere dwells (Some stop) {i} end h = rw (ne_eqb stop.point i h)

-- ---- which point is a stop, and its dwell

module _ (stops : List ℕ) (apart : Apart stops) {i : ℕ} where
  -- where no stop is held, or the next is at another point, no stop is at point i
  nowhere_none : NextStop stops None i → (k : ℕ) → k < length stops → entry stops k ≡ i → ⊥
  nowhere_none n k h q = omega (arith, n.behind.passed k h)

  nowhere : {stop : Stop} → NextStop stops (Some stop) i → (stop.point ≡ i → ⊥) → (k : ℕ) → k < length stops → entry stops k ≡ i → ⊥
  nowhere {stop = stop} n e k h q = go (dec_lt k stop.number)
    where
      go : Dec (k < stop.number) → ⊥
      go (yes l) = omega (arith, n.behind.passed k l)
      go (no l) =
          let (there, at) = held_there stops stop n.behind.at in
          e (omega (arith, n.ahead stop.number (omega arith) there, rise stops apart stop.number k (omega arith) h))

  pub stop_is : {stop : Option Stop} → NextStop stops stop i → is_at stop i ≡ listed i stops
  stop_is {stop = None} n = sym (listed_only stops i (nowhere_none n))
  stop_is {stop = Some stop} n = go (eqb stop.point i) refl
    where
      go : (b : Bool) → eqb stop.point i ≡ b → eqb stop.point i ≡ listed i stops
      go true e =
          let (there, at) = held_there stops stop n.behind.at in
          let q : entry stops stop.number ≡ i = omega (arith, eqb-true _ _ e) in
          e ∙ sym (rw q at (listed-there stops stop.number there))
      go false e = e ∙ sym (listed_only stops i (nowhere n (eqb-false _ _ e)))

dwell_beside : (ss ds : List ℕ) → length ss ≡ length ds → (s i : ℕ) → ((k : ℕ) → k < s → entry ss k < i) → s < length ss → entry ss s ≡ i →
    dwell_from ss ds i ≡ entry ds s
unfolding dwell_from
dwell_beside [] ds e s i before h q = absurd (omega arith)
dwell_beside (x ∷ ss) [] e s i before h q = absurd (omega arith)
dwell_beside (x ∷ ss) (d ∷ ds) e zero i before h q = rw (eq-eqb i x (sym q))
dwell_beside (x ∷ ss) (d ∷ ds) e (suc s) i before h q =
    rw (ne_eqb i x (λ z. omega (arith, before 0 (omega arith))))
    (dwell_beside ss ds (suc_inj e) s i (λ k g. before (suc k) (omega arith)) (omega arith) q)

-- the rules' dwell, at every point but the last
module _ (l : Line) (t : Train) (apart : Apart t.stops) (same : length t.stops ≡ length t.dwells) {i : ℕ} (h : suc i < l.points) where
  no_dwell : ((k : ℕ) → k < length t.stops → entry t.stops k ≡ i → ⊥) → 0 ≡ dwell l t i
  unfolding dwell
  no_dwell none =
      rw (dwell-none t.stops t.dwells i none, ne_eqb (suc i) l.points (λ z. omega arith), or-false) (sym (cond_zero (eqb i 0)))

  pub dwell_is : {stop : Option Stop} → NextStop t.stops stop i → dwell_here t.dwells stop i ≡ dwell l t i
  unfolding dwell_here dwell
  dwell_is {stop = None} n = no_dwell (nowhere_none t.stops apart n)
  dwell_is {stop = Some stop} n = go (eqb stop.point i) refl
    where
      go :
          (b : Bool) → eqb stop.point i ≡ b →
          cond (eqb stop.point i) (cond (eqb i 0) 0 (1000000 * entry t.dwells stop.number)) 0 ≡ dwell l t i
      go true b =
          let (there, at) = held_there t.stops stop n.behind.at in
          let is : entry t.stops stop.number ≡ i = omega (arith, eqb-true _ _ b) in
          let beside : dwell_from t.stops t.dwells i ≡ entry t.dwells stop.number =
          dwell_beside t.stops t.dwells same stop.number i n.behind.passed there is in
          rw (b, ne_eqb (suc i) l.points (λ z. omega arith), or-false, beside)
      go false b = rw b (no_dwell (nowhere t.stops apart n (eqb-false _ _ b)))

-- at point i, where the code holds the first stop at i or later
module _
    (stops : List ℕ) (apart : Apart stops) {stop stop' : Option Stop} {i : ℕ} (b : Behind stops stop i) (e : stop' ≡ stop_ahead stops stop i) where
  pub next_here : NextStop stops stop' i
  next_here = rw e (next_from stops apart b)

  pub here-listed : is_at stop' i ≡ listed i stops
  here-listed = stop_is stops apart next_here

  pub dwell-here :
      (l : Line) (t : Train) (dwells : List ℕ) {d : ℕ} → stops ≡ t.stops → dwells ≡ t.dwells → length t.stops ≡ length t.dwells → suc i < l.points →
      d ≡ dwell_here dwells stop' i → d ≡ dwell l t i
  dwell-here l t dwells p q same h f = f ∙ rw q (dwell_is l t (rw p at apart) same h (rw p at next_here))
