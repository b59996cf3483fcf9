-- What the diagram call answers and leaves, refused and accepted. Assumes nothing.
use Prim.Native.Nat.{ℕ, ◌*◌}
use mathlib.Core.List.{List}
use mathlib.Core.Path.{◌≡◌, sym, ◌∙◌}
use lib.ListN.{length}
use Rattle.refusals.specs.declared.Refusal.{Refusal}
use Rattle.refusals.specs.Number.{number}
use Rattle.refusals.proofs.Passing.{numbered}
use Rattle.rules.specs.Calls.{written, train_refusal}
use Rattle.rules.specs.Diagram.{point_size, diagram_bytes, diagram_refusal, diagram_after, CarriesRun}
use Rattle.rules.specs.Line.{line_of, train_of}
use Rattle.rules.proofs.Accepted.{train-admitted}
use Rattle.rules.proofs.Calls.{lent_written, lent_kept}
use Rattle.diagram.proofs.Carrying.{diagram_length, carries_run}

module _ (file : List ℕ) (k : ℕ) where
  -- a refusal leaves the bytes
  pub left : (buffer : List ℕ) (r : Refusal) → number r ≡ diagram_refusal file k (length buffer) → buffer ≡ diagram_after file k buffer
  unfolding diagram_after
  left buffer r e = rw (← e) (sym (lent_kept _ buffer (numbered r)))

  -- an accepted call: how many bytes it writes, the lent bytes, and what they carry
  pub written-whole :
      train_refusal file k ≡ 0 → (buffer : List ℕ) {points : ℕ} {after : List ℕ} → 0 ≡ diagram_refusal file k (length buffer) → points ≡ (line_of file).points →
      after ≡ written buffer 0 (diagram_bytes (line_of file) (train_of file k)) →
      (point_size * points ≡ length (diagram_bytes (line_of file) (train_of file k)))
      × ((after ≡ diagram_after file k buffer) × CarriesRun (line_of file) (train_of file k) after)
  unfolding diagram_after
  written-whole z buffer {points} {after} e q w =
      let a = train-admitted file k z in
      let counted : point_size * points ≡ length (diagram_bytes (line_of file) (train_of file k)) = rw q (sym (diagram_length _ _ a)) in
      (counted, (w ∙ rw (← e) (sym (lent_written _ buffer)), carries_run _ _ a buffer w))
