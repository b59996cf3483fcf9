-- The run timed from point to point. Assumes nothing.
use Prim.Native.Nat.{ℕ, suc, ◌+◌, ◌^◌, ◌≤◌, ◌<◌}
use mathlib.Core.List.{List}
use mathlib.Core.Logic.{⊎_elim}
use mathlib.Core.Path.{◌≡◌, refl, sym, ap, ◌∙◌}
use native.Mathlib.Numerals.{add-one}
use native.Mathlib.Omega.{arith}
use lib.ListN.{length, set}
use Rattle.std.specs.Prelude.{Option}
use Rattle.rules.specs.Admitted.{Admitted}
use Rattle.rules.specs.Calls.{written}
use Rattle.rules.specs.Count.{entry}
use Rattle.rules.proofs.Count.{length-row}
use Rattle.values.specs.declared.decoded.Line as decoded_line
use Rattle.values.specs.declared.decoded.Train as decoded_train
use Rattle.values.specs.Values.{as_line, as_train}
use Rattle.rules.specs.Line.{Line, Train}
use Rattle.rules.specs.Run.{run_row}
use Rattle.rules.specs.Time.{Root, root, cell_time, dwell, arrival, arrivals, run_times}
use Rattle.rules.proofs.Fill.{Filled, fill_none, fill_up}
use Rattle.rules.proofs.Root.{root-least}
use Rattle.rules.proofs.Run.{run_moves}
use Rattle.rules.proofs.Time.{arrival-first, arrival_next, arrival-most, departure_is}
use Rattle.stops.specs.declared.Stop.{Stop}
use Rattle.stops.specs.Stops.{Behind}
use Rattle.rules.proofs.Written.{fill_written}

-- an admitted train's stops have room in its arrays
pub few_stops : (line : decoded_line.Line) (train : decoded_train.Train) → Admitted (as_line line) (as_train train) → train.stop_count ≤ 64
few_stops line train a = omega (arith, a.rule3_train.stops-most, length-row (entry train.stops) train.stop_count)

-- at the arrival at point i: the next stop, the time, the squared speed, and the earlier arrivals in the buffer
pub record Arrived (l : Line) (t : Train) (times₀ : List ℕ) (i : ℕ) (stop : Option Stop) (time w : ℕ) (times : List ℕ) : Type 0 where
  pub point : i < l.points
  pub behind : Behind t.stops stop i
  pub clock : time ≡ arrival l t (run_row l t) i
  pub speed : w ≡ entry (run_row l t) i
  pub filled : Filled (arrival l t (run_row l t)) 0 i times₀ times

module _ (l : Line) (t : Train) (a : Admitted l t) where
  pub arrived_first : {times : List ℕ} {stop : Option Stop} {w : ℕ} → Behind t.stops stop 0 → w ≡ entry (run_row l t) 0 → Arrived l t times 0 stop 0 w times
  arrived_first {times} b f =
      record {
        point = omega (arith, a.rule3_line.points-least);
        behind = b;
        clock = sym (arrival-first l t (run_row l t));
        speed = f;
        filled = fill_none _ 0 times;
      }

  -- the buffer once the last arrival is stored
  pub arrived_last : {times₀ times : List ℕ} {i : ℕ} {stop : Option Stop} {time w : ℕ} → Arrived l t times₀ i stop time w times →
      l.points ≡ suc i → l.points ≤ length times₀ → set times i time ≡ written times₀ 0 (run_times l t)
  unfolding arrivals
  arrived_last r e h = fill_written (fill_up r.filled (omega arith) refl (omega arith) r.clock) (sym e) h

  -- from point i to the next, with the roots of the squared speeds at both
  module _
      {times₀ times : List ℕ} {i : ℕ} {stop : Option Stop} {time w w' : ℕ} {here there : Root} (r : Arrived l t times₀ i stop time w times)
      (h : i + 1 < l.points) (g : w' ≡ entry (run_row l t) (i + 1)) (p : here ≡ root w) (q : there ≡ root w') where
    here_is : here ≡ root (entry (run_row l t) i)
    here_is = p ∙ ap root r.speed

    there_is : there ≡ root (entry (run_row l t) (suc i))
    there_is = q ∙ ap root (rw (add-one i) at g)

    -- not both roots are 0
    pub roots_move : 0 < here.number + there.number
    roots_move =
        let moves : 0 < (root (entry (run_row l t) i)).number + (root (entry (run_row l t) (suc i))).number =
        ⊎_elim (λ m. omega (arith, root-least 1 {w = entry (run_row l t) i} (omega arith)))
        (λ m. omega (arith, root-least 1 {w = entry (run_row l t) (suc i)} (omega arith))) (run_moves l t a i (omega arith)) in
        rw (here_is, there_is) moves

    module _ {dwelt step cell : ℕ} (d : dwelt ≡ dwell l t i) (m : step ≡ l.step) (c : cell ≡ cell_time step here.number there.number) where
      clock_next : time + (dwelt + cell) ≡ arrival l t (run_row l t) (suc i)
      clock_next =
          let e : cell ≡ cell_time l.step (root (entry (run_row l t) i)).number (root (entry (run_row l t) (suc i))).number =
          rw (m, here_is, there_is) at c in
          omega (arith, e, r.clock, arrival_next l t (run_row l t) i, departure_is l t (run_row l t) i)

      pub clock_most : time + (dwelt + cell) < 2 ^ 43
      clock_most = omega (arith, clock_next, arrival-most l t a (suc i) (omega arith))

      pub arrived_next : {after : Option Stop} → Behind t.stops after (i + 1) → l.points ≤ length times₀ →
          Arrived l t times₀ (i + 1) after (time + (dwelt + cell)) w' (set times i time)
      arrived_next n b =
          record {
            point = h;
            behind = n;
            clock = rw (add-one i) clock_next;
            speed = g;
            filled = fill_up r.filled (omega arith) (add-one i) (omega arith) r.clock;
          }
