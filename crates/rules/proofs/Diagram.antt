-- The diagram call answers by the paper's list, the record of a point has the run's figures, and when its dot is full. Assumes nothing.
use Prim.Native.Nat.{ℕ, ◌*◌, ◌<◌}
use mathlib.Core.Bool.{Bool, true, false, cond}
use mathlib.Core.List.{List}
use mathlib.Core.Path.{◌≡◌, refl}
use native.Mathlib.Omega.{arith}
use lib.Dec.{eqb}
use lib.ListN.{length}
use borrow.Author.Tests.{leb-true, le-leb, ltb-true, lt-ltb, eqb-true, eq-eqb, ne_eqb}
use Rattle.rules.specs.Calls.{written, lent_after}
use Rattle.rules.specs.Count.{or_zero}
use Rattle.rules.specs.Diagram.{record_of, diagram_point, dot, diagram_bytes, point_size, room_for_points, diagram_rules, diagram_checks, diagram_refusal}
use Rattle.rules.specs.Diagram.{diagram_after}
use Rattle.rules.specs.File.{train_count}
use Rattle.rules.specs.Line.{Line, Train, line_of, train_of}
use Rattle.rules.specs.Numbers.{AnswersBy}
use Rattle.rules.specs.Refusal.{refusal, train_there}
use Rattle.rules.specs.Run.{run_row, run_at}
use Rattle.rules.specs.Time.{Root, root, arrival}
use Rattle.rules.proofs.Numbers.{Judges, judges_none, judges_first, judges_file, answers_by}
use Rattle.rules.proofs.Run.{entry_run}
use Rattle.rules.proofs.Time.{entry_times}

-- point i is i steps from the first; its speed is the number of the root of the run's squared speed there, its time the arrival
pub point_figures :
    (l : Line) (t : Train) (i : ℕ) → i < l.points → diagram_point l t i ≡ record_of (i * l.step) (root (run_at l t i)).number (arrival l t (run_row l t) i)
unfolding diagram_point
point_figures l t i h = rw (entry_run l t i h, entry_times l t i h)

-- a dot is full exactly if nothing is left, else open
pub dot-left : (r : Root) → dot r ≡ 1 → r.left ≡ 0
unfolding dot
dot-left r h = go (eqb r.left 0) refl h
  where
    go : (b : Bool) → eqb r.left 0 ≡ b → cond {A = ℕ} b 1 0 ≡ 1 → r.left ≡ 0
    go true e m = eqb-true r.left 0 e
    go false e m = absurd (omega arith)

pub dot-full : (r : Root) → r.left ≡ 0 → dot r ≡ 1
unfolding dot
dot-full r z = rw (eq-eqb r.left 0 z)

pub dot_open : (r : Root) → (r.left ≡ 0 → ⊥) → dot r ≡ 0
unfolding dot
dot_open r n = rw (ne_eqb r.left 0 n)

module _ (file : List ℕ) (k : ℕ) where
  pub judges_diagram : (bytes : ℕ) → Judges (diagram_rules file k bytes) (diagram_checks file k bytes)
  unfolding train_there room_for_points
  judges_diagram bytes =
      judges_file file
      (judges_first (ltb-true k (train_count file), lt-ltb k (train_count file))
      (judges_first (leb-true (point_size * (line_of file).points) bytes, le-leb (point_size * (line_of file).points) bytes) judges_none))

  pub diagram_number : (bytes : ℕ) → AnswersBy (diagram_checks file k bytes) (λ n. n) 0 (diagram_refusal file k bytes)
  unfolding refusal diagram_refusal
  diagram_number bytes = answers_by or_zero (judges_diagram bytes)

  -- the lent bytes: as they came on a refusal, else with the diagram in front
  pub bytes-number :
      (buffer : List ℕ) →
      AnswersBy (diagram_checks file k (length buffer)) (λ n. buffer) (written buffer 0 (diagram_bytes (line_of file) (train_of file k)))
      (diagram_after file k buffer)
  unfolding refusal diagram_refusal lent_after diagram_after
  bytes-number buffer =
      answers_by (λ o. lent_after (or_zero o) (diagram_bytes (line_of file) (train_of file k)) buffer) (judges_diagram (length buffer))
