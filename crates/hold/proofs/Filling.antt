-- A hold record filled block by block: the approach point and the next stop move forward with the blocks. Assumes nothing.
use Prim.Native.Nat.{ℕ, suc, ◌+◌, ◌-◌, ◌*◌, ◌^◌, ◌≤◌, ◌<◌, min}
use mathlib.Core.List.{List}
use mathlib.Core.Path.{◌≡◌, ap, ap₂, ◌∙◌}
use native.Mathlib.Nat.{mul-le-mul_left, le_refl, le_trans}
use native.Mathlib.Numerals.{add-one}
use native.Mathlib.Omega.{arith}
use lib.ListN.{length, set, length-replicate, get_or-replicate}
use Rattle.rules.specs.Admitted.{Admitted}
use Rattle.rules.specs.Count.{entry}
use Rattle.rules.specs.Hold.{Hold, empty_hold, approach_point, hold_begin, hold_end, hold_with, hold_of}
use Rattle.rules.specs.Line.{Line, Train}
use Rattle.rules.specs.Run.{braking_loss, train_cells, run_row}
use Rattle.rules.specs.Time.{dwell, arrival, departure, run_times}
use Rattle.rules.proofs.Count.{rises_far, length-row}
use Rattle.values.specs.declared.decoded.Line as decoded_line
use Rattle.values.specs.declared.decoded.Train as decoded_train
use Rattle.values.specs.Values.{as_line, as_train}
use Rattle.rules.proofs.Fill.{Filled, fill_none, fill_up, fill_padded}
use Rattle.rules.proofs.Hold.{approach_is, approach_slow, approach_agree, clears-within}
use Rattle.rules.proofs.Run.{run_is}
use Rattle.rules.proofs.Step.{loss_most}
use Rattle.rules.proofs.Time.{departure_is, departs_before, arrival-most, entry_times}
use Rattle.std.specs.Prelude.{Option}
use Rattle.stops.specs.declared.Stop.{Stop}
use Rattle.stops.specs.Stops.{Behind, NextStop}

-- an admitted line's blocks have room in a hold record
pub few_blocks : (line : decoded_line.Line) (train : decoded_train.Train) → Admitted (as_line line) (as_train train) → line.block_count ≤ 32
few_blocks line train a = omega (arith, a.rule3_line.blocks-most, length-row (entry line.block_starts) line.block_count)

-- a stop that is behind a point is behind a later one
pub behind_at : {stops : List ℕ} {stop : Option Stop} {i j : ℕ} → Behind stops stop i → i ≤ j → Behind stops stop j
behind_at b h = record { at = b.at; there = b.there; passed = λ k l. omega (arith, b.passed k l) }

-- the record after the first j blocks
pub record Holds (l : Line) (t : Train) (h : Hold) (point : ℕ) (stop : Option Stop) (j : ℕ) : Type 0 where
  pub count : h.blocks ≡ length l.block_starts
  pub blocks : j ≤ length l.block_starts
  pub before : (b : ℕ) → ((k : ℕ) → k < j → entry l.block_starts k ≤ b) → point ≤ b
  pub slow : (b : ℕ) → ((k : ℕ) → k < j → entry l.block_starts k ≤ b) → 0 < point → entry (run_row l t) point ≤ braking_loss l t * (b - point)
  pub behind : Behind t.stops stop point
  pub begins : Filled (λ k. hold_begin l t (run_row l t) (entry l.block_starts k)) 0 j empty_hold.begins h.begins
  pub ends : Filled (λ k. hold_end l t (run_row l t) (entry l.block_ends k)) 0 j empty_hold.ends h.ends

same_hold : {x y : Hold} → x.blocks ≡ y.blocks → x.begins ≡ y.begins → x.ends ≡ y.ends → x ≡ y
same_hold {x} {y} p q r =
    let of : ℕ → List ℕ → List ℕ → Hold = λ n b e. record { blocks = n; begins = b; ends = e } in
    ap₂ (λ (n : ℕ) (b : List ℕ). of n b x.ends) p q ∙ ap (of y.blocks y.begins) r

places : length empty_hold.begins ≡ 32
places = length-replicate {A = ℕ} 32 0

zeros : (k : ℕ) → k < 32 → entry empty_hold.begins k ≡ 0
zeros k h = get_or-replicate {A = ℕ} 32 k 0 0 h

module _ (l : Line) (t : Train) (a : Admitted l t) where
  pub holds_first :
      {h : Hold} {n : ℕ} {stop : Option Stop} → h ≡ record { blocks = n; begins = empty_hold.begins; ends = empty_hold.ends } → n ≡ length l.block_starts →
      Behind t.stops stop 0 → Holds l t h 0 stop 0
  holds_first {h} {n} e m b =
      record {
        count = ap (λ (h : Hold). h.blocks) e ∙ m;
        blocks = omega arith;
        before = λ b g. omega arith;
        slow = λ b g z. absurd (omega arith);
        behind = b;
        begins = rw (ap (λ (h : Hold). h.begins) e) (fill_none _ 0 _);
        ends = rw (ap (λ (h : Hold). h.ends) e) (fill_none _ 0 _);
      }

  pub holds_all : {h : Hold} {point : ℕ} {stop : Option Stop} {j : ℕ} → Holds l t h point stop j → length l.block_starts ≤ j → h ≡ hold_of l t
  unfolding hold_with
  holds_all {h} {point} {stop} {j} r m =
      let e : j ≡ length l.block_starts = omega (arith, r.blocks) in
      let most : j ≡ min (length l.block_starts) 32 = omega (arith, a.rule3_line.blocks-most) in
      same_hold r.count (fill_padded _ 32 r.begins most places zeros) (fill_padded _ 32 r.ends most places zeros)

  -- block starts rise
  starts-rise : {j : ℕ} → j < length l.block_starts → (k : ℕ) → k < j → entry l.block_starts k ≤ entry l.block_starts j
  starts-rise {j} h k g =
      rises_far (entry l.block_starts) (length l.block_starts) (λ k h. omega (arith, a.rule6.below k (omega arith), a.rule6.after k h)) k j
      (omega arith) h

  module _ {h : Hold} {point : ℕ} {stop : Option Stop} {j : ℕ} (r : Holds l t h point stop j) (m : j < length l.block_starts) where
    -- the block starts and ends on the line
    pub block_on : (entry l.block_starts j < entry l.block_ends j) × (entry l.block_ends j + train_cells l t < l.points)
    block_on = (a.rule6.below j m, clears-within l t a j m)

    -- with the run's speeds in the buffer s
    module _ (s : List ℕ) (same : (k : ℕ) → k < l.points → entry s k ≡ entry (run_row l t) k) {loss b : ℕ} (g : loss ≡ braking_loss l t)
        (e : b ≡ entry l.block_starts j) where
      on_line : (k : ℕ) → k ≤ b → suc k < l.points
      on_line k n = omega (arith, block_on.0, block_on.1)

      slow-here : point ≤ b → 0 < point → entry s point ≤ loss * (b - point)
      slow-here n z = rw (same point (omega (arith, on_line point n)), g, e) (r.slow (entry l.block_starts j) (starts-rise m) z)

      pub approach_asks : l.points ≤ length s →
          ((loss ≤ 15552000) × (b ≤ 4096) × (b < length s) × (point ≤ b)) × (0 < point → entry s point ≤ loss * (b - point)) ×
          ((k : ℕ) → k < b → entry s k ≤ entry s (suc k) + loss)
      approach_asks long =
          let n : point ≤ b = rw e (r.before (entry l.block_starts j) (starts-rise m)) in (
            (omega (arith, loss_most l t a), omega (arith, on_line b (le_refl b), a.rule3_line.points-most), omega (arith, on_line b (le_refl b)), n),
            slow-here n,
            λ k h. omega (
              arith,
              same k (omega (arith, on_line k (omega arith))),
              same (suc k) (on_line k (omega arith)),
              (run_is l t a).permitted.braked k (on_line k (omega arith)),
            ),
          )

      module _ {p : ℕ} (q : p ≡ approach_point s loss b) where
        pub point_is : p ≡ approach_point (run_row l t) (braking_loss l t) (entry l.block_starts j)
        point_is =
            q ∙ approach_agree s (run_row l t) loss b (λ k h. same k (omega (arith, on_line k h))) ∙ ap₂ (approach_point (run_row l t)) g e

        pub point_on : suc p < l.points
        point_on = on_line p (omega (arith, (approach_is s loss b).at_most))

        -- with its arrivals in the buffer m
        module _ (times : List ℕ) (timed : (k : ℕ) → k < l.points → entry times k ≡ entry (run_times l t) k) {dwelt : ℕ} (d : dwelt ≡ dwell l t p) where
          pub begin_is : entry times p + dwelt ≡ hold_begin l t (run_row l t) (entry l.block_starts j)
          unfolding hold_begin
          begin_is =
              let n = point_on in
              let w : entry times p + dwelt ≡ departure l t (run_row l t) p =
              omega (arith, timed p (omega arith), entry_times l t p (omega arith), departure_is l t (run_row l t) p) in
              w ∙ ap (departure l t (run_row l t)) point_is

          pub begin-most : entry times p + dwelt < 2 ^ 43
          begin-most =
              let n = point_on in
              omega (
                arith,
                timed p (omega arith),
                entry_times l t p (omega arith),
                departure_is l t (run_row l t) p,
                departs_before l t (run_row l t) p (suc p) (omega arith),
                arrival-most l t a (suc p) n,
              )

    -- the end of the hold
    module _ (times : List ℕ) (timed : (k : ℕ) → k < l.points → entry times k ≡ entry (run_times l t) k) {e n : ℕ} (f : e ≡ entry l.block_ends j)
        (g : n ≡ train_cells l t) where
      pub clear_on : e + n < l.points
      clear_on = omega (arith, block_on.1)

      pub clear_most : entry times (e + n) < 2 ^ 43
      clear_most = omega (arith, timed (e + n) clear_on, entry_times l t (e + n) clear_on, arrival-most l t a (e + n) clear_on)

      pub end_is : {clearing : ℕ} → clearing ≡ 100000 * l.release + 100000 * l.set_up + 5000000 → entry times (e + n) + clearing ≡
          hold_end l t (run_row l t) (entry l.block_ends j)
      unfolding hold_end
      end_is c =
          let z : e + n ≡ entry l.block_ends j + train_cells l t = omega arith in
          omega (arith, timed (e + n) clear_on, entry_times l t (e + n) clear_on, ap (arrival l t (run_row l t)) z)

    -- the record with this block added
    pub holds_on :
        {p : ℕ} {stop' : Option Stop} {begin end : ℕ} → p ≡ approach_point (run_row l t) (braking_loss l t) (entry l.block_starts j) → NextStop t.stops stop' p →
        begin ≡ hold_begin l t (run_row l t) (entry l.block_starts j) → end ≡ hold_end l t (run_row l t) (entry l.block_ends j) →
        Holds l t (record { blocks = h.blocks; begins = set h.begins j begin; ends = set h.ends j end }) p stop' (j + 1)
    holds_on {p} q n b e =
        record {
          count = r.count;
          blocks = omega arith;
          before = λ c g. omega (arith, reached, g j (omega arith));
          slow = λ c g z. le_trans (slow-at z) (mul-le-mul_left (braking_loss l t) (omega (arith, g j (omega arith))));
          behind = n.behind;
          begins = fill_up r.begins (omega arith) (add-one j) (rw places (omega (arith, a.rule3_line.blocks-most))) b;
          ends = fill_up r.ends (omega arith) (add-one j) (rw places (omega (arith, a.rule3_line.blocks-most))) e;
        }
      where
        reached : p ≤ entry l.block_starts j
        reached = rw q (approach_is (run_row l t) (braking_loss l t) (entry l.block_starts j)).at_most

        slow-at : 0 < p → entry (run_row l t) p ≤ braking_loss l t * (entry l.block_starts j - p)
        slow-at z = rw q (approach_slow (run_row l t) (braking_loss l t) (entry l.block_starts j) (rw q at z))
