-- The number of the diagram call by tests in the code's order. Assumes nothing.
use Prim.Native.Nat.{ℕ, ◌*◌, ◌≤◌, ◌<◌}
use mathlib.Core.List.{List, []}
use mathlib.Core.Path.{◌≡◌, sym, ◌∙◌}
use borrow.Author.Tests.{le-leb, lt-leb}
use Rattle.rules.specs.Calls.{train_refusal}
use Rattle.rules.specs.Diagram.{point_size, room_for_points, diagram_refusal}
use Rattle.rules.specs.Line.{line_of}
use Rattle.rules.proofs.Accepted.{train-first, train-passed}
use Rattle.rules.proofs.Refusal.{refusal-none, head_broken, head_kept}

module _ (file : List ℕ) (k : ℕ) where
  pub train_refuses : {n : ℕ} (bytes : ℕ) → n ≡ train_refusal file k → (n ≡ 0 → ⊥) → n ≡ diagram_refusal file k bytes
  unfolding diagram_refusal
  train_refuses bytes e h = e ∙ sym (train-first file k _ (λ z. h (e ∙ z)))

  module _ (z : train_refusal file k ≡ 0) (bytes : ℕ) where
    pub few_bytes : bytes < point_size * (line_of file).points → 11 ≡ diagram_refusal file k bytes
    unfolding diagram_refusal room_for_points
    few_bytes h = sym (train-passed file k _ z ∙ head_broken 11 _ [] (lt-leb (point_size * (line_of file).points) bytes h))

    pub enough-bytes : point_size * (line_of file).points ≤ bytes → 0 ≡ diagram_refusal file k bytes
    unfolding diagram_refusal room_for_points
    enough-bytes h = sym (train-passed file k _ z ∙ head_kept 11 _ [] (le-leb (point_size * (line_of file).points) bytes h) ∙ refusal-none)
