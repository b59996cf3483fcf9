-- The bytes of a diagram carry the run's own figures. Assumes nothing.
use Prim.Native.Nat.{ℕ, ◌+◌, ◌*◌, ◌^◌, ◌≤◌, ◌<◌}
use mathlib.Core.List.{List, ◌∷◌, ◌++◌, append_assoc}
use mathlib.Core.Path.{◌≡◌, sym, ◌∙◌}
use native.Mathlib.Nat.{mul-le-mul, lt_of_not-le}
use native.Mathlib.Omega.{arith}
use lib.ListN.{length, drop, length-append}
use lib.Seq.{get_or_at}
use Rattle.rules.specs.Admitted.{Admitted}
use Rattle.rules.specs.Calls.{written}
use Rattle.rules.specs.Count.{entry}
use Rattle.rules.specs.Diagram.{double, record_of, diagram_point, diagram_dot, double_bytes, figures_bytes, figures_size, point_bytes, point_size, diagram_bytes}
use Rattle.rules.specs.Diagram.{Carries, speed_at, Marks, CarriesRun}
use Rattle.rules.specs.Line.{Line, Train}
use Rattle.rules.specs.Run.{run_row}
use Rattle.rules.specs.Text.{joined}
use Rattle.rules.specs.Time.{root, run_times}
use Rattle.rules.proofs.Cap.{cap-most}
use Rattle.rules.proofs.Diagram.{dot-left, dot-full, dot_open}
use Rattle.rules.proofs.Root.{root_is}
use Rattle.rules.proofs.Run.{run_is}
use Rattle.rules.proofs.Time.{arrival-most, entry_times}
use Rattle.rules.proofs.Written.{written_front}
use Rattle.diagram.proofs.Bytes.{joined_even, joined_split}
use Rattle.diagram.proofs.Doubles.{double-bytes, point_bytes_lem, carried}

module _ (l : Line) (t : Train) (a : Admitted l t) where
  -- the figures of point i
  abbrev position : ℕ → ℕ
  position i = i * l.step

  abbrev speed : ℕ → ℕ
  speed i = (root (entry (run_row l t) i)).number

  abbrev time : ℕ → ℕ
  time i = entry (run_times l t) i

  abbrev piece : ℕ → List ℕ
  piece i = point_bytes (diagram_point l t i) (diagram_dot l t i)

  abbrev before : ℕ → List ℕ
  before i = joined piece i

  before-length : (i : ℕ) → length (before i) ≡ point_size * i
  before-length i = joined_even piece point_size i (λ k. point_bytes_lem (diagram_point l t k) (diagram_dot l t k))

  pub diagram_length : length (diagram_bytes l t) ≡ point_size * l.points
  unfolding diagram_bytes
  diagram_length = before-length l.points

  -- each figure is small
  position-small : (i : ℕ) → i < l.points → position i < 2 ^ 53
  position-small i h =
      let far : i ≤ 4096 = omega (arith, a.rule3_line.points-most) in
      omega (arith, mul-le-mul far a.rule3_line.step-most)

  speed-small : (i : ℕ) → i < l.points → speed i < 2 ^ 53
  speed-small i h =
      let slow = (run_is l t a).permitted.capped i h in
      lt_of_not-le (λ (g : 2 ^ 53 ≤ speed i). omega (arith, mul-le-mul g g, (root_is (entry (run_row l t) i)).square, slow, cap-most l t a i))

  time-small : (i : ℕ) → i < l.points → time i < 2 ^ 53
  time-small i h = omega (arith, entry_times l t i h, arrival-most l t a i h)

  -- the three doubles of point i
  abbrev first : ℕ → List ℕ
  first i = double_bytes (double (position i))

  abbrev second : ℕ → List ℕ
  second i = double_bytes (double (speed i))

  abbrev third : ℕ → List ℕ
  third i = double_bytes (double (time i))

  -- a dot is full exactly if the squared speed is the square of the speed, else open
  dot_one : (i : ℕ) → diagram_dot l t i ≡ 1 → speed i * speed i ≡ entry (run_row l t) i
  unfolding diagram_dot
  dot_one i e = (root_is (entry (run_row l t) i)).whole (dot-left (root (entry (run_row l t) i)) e)

  dot-whole : (i : ℕ) → speed i * speed i ≡ entry (run_row l t) i → diagram_dot l t i ≡ 1
  unfolding diagram_dot
  dot-whole i e = dot-full (root (entry (run_row l t) i)) ((root_is (entry (run_row l t) i)).exact (speed i) e)

  dot-rounded : (i : ℕ) → (speed i * speed i ≡ entry (run_row l t) i → ⊥) → diagram_dot l t i ≡ 0
  unfolding diagram_dot
  dot-rounded i n = dot_open (root (entry (run_row l t) i)) (λ z. n ((root_is (entry (run_row l t) i)).whole z))

  module _ (buffer : List ℕ) {bytes : List ℕ} (e : bytes ≡ written buffer 0 (diagram_bytes l t)) where
    -- what stands before them, and behind them after the dot
    around : (i : ℕ) → i < l.points → (back : List ℕ) × (bytes ≡ before i ++ ((first i ++ (second i ++ third i)) ++ (diagram_dot l t i ∷ back)))
    unfolding diagram_bytes point_bytes figures_bytes diagram_point record_of
    around i h =
        let (rest, q) = joined_split piece i l.points h in
        (rest ++ drop (length (diagram_bytes l t)) buffer, rw (e, written_front) (rw (q, append_assoc, append_assoc, append_assoc)))

    speed_carried : (i : ℕ) → i < l.points → Carries bytes (point_size * i + 8) (speed i)
    speed_carried i h =
        let (back, q) = around i h in
        carried (speed i) (before i ++ first i) (third i ++ (diagram_dot l t i ∷ back)) (speed-small i h)
        (rw length-append (omega (arith, before-length i, double-bytes (double (position i))))) (q ∙ simp append_assoc)

    dot_at : (i : ℕ) → i < l.points → entry bytes (point_size * i + figures_size) ≡ diagram_dot l t i
    dot_at i h =
        let (back, q) = around i h in
        let front : List ℕ = before i ++ (first i ++ (second i ++ third i)) in
        let long : length front ≡ point_size * i + figures_size = simp (length-append, double-bytes) (omega (arith, before-length i)) in
        rw (q, ← append_assoc) (get_or_at front (diagram_dot l t i) back 0 (point_size * i + figures_size) long)

    marked : (i : ℕ) → i < l.points → Marks bytes (point_size * i) (entry (run_row l t) i)
    marked i h =
        let read : speed_at bytes (point_size * i) ≡ speed i = (speed_carried i h).back in
        record {
          full = λ one. rw read (dot_one i (sym (dot_at i h) ∙ one));
          whole = λ e. dot_at i h ∙ dot-whole i (rw read at e);
          rounded = λ n. dot_at i h ∙ dot-rounded i (λ e. n (rw read e));
        }

    pub carries_run : CarriesRun l t bytes
    carries_run =
        record {
          positions = λ i h.
              let (back, q) = around i h in
              carried (position i) (before i) ((second i ++ third i) ++ (diagram_dot l t i ∷ back)) (position-small i h) (sym (before-length i))
              (q ∙ simp append_assoc);
          speeds = speed_carried;
          arrivals = λ i h.
              let (back, q) = around i h in
              carried (time i) (before i ++ (first i ++ second i)) (diagram_dot l t i ∷ back) (time-small i h)
              (simp length-append (omega (arith, before-length i, double-bytes (double (position i)), double-bytes (double (speed i)))))
              (q ∙ simp append_assoc);
          dots = marked;
        }
