-- The points, written one behind the other. Assumes nothing.
use Prim.Native.Nat.{ℕ, ◌+◌, ◌*◌, ◌≤◌, ◌<◌}
use mathlib.Core.List.{List}
use mathlib.Core.Path.{◌≡◌, refl, sym, ap}
use native.Mathlib.Nat.{zero-mul, add-mul, one-mul}
use native.Mathlib.Omega.{arith}
use lib.ListN.{length, set}
use Rattle.rules.specs.Calls.{written}
use Rattle.rules.specs.Count.{entry}
use Rattle.rules.specs.Diagram.{DiagramPoint, record_of, dot, figures_bytes, figures_size, point_bytes, point_size}
use Rattle.rules.specs.Text.{joined}
use Rattle.rules.specs.Time.{Root, root}
use Rattle.rules.proofs.Written.{written_none, written_then, written_long, joined_next, joined-within}
use Rattle.diagram.specs.Points.{point_at, points_of}
use Rattle.diagram.proofs.Bytes.{written_next, joined_even}
use Rattle.diagram.proofs.Doubles.{figures_bytes_lem, point_bytes_lem}

-- the points before i are written; `position` and `at` are those of point i
pub record Drawn (points step : ℕ) (speeds times buffer : List ℕ) (i position at : ℕ) (after : List ℕ) : Type 0 where
  pub within : i ≤ points
  pub metres : position ≡ i * step
  pub near : position ≤ 65535 * i
  pub place : at ≡ point_size * i
  pub long : length after ≡ length buffer
  pub bytes : after ≡ written buffer 0 (joined (point_at step speeds times) i)

module _ (points step : ℕ) (speeds times buffer : List ℕ) where
  abbrev before : ℕ → List ℕ
  before i = joined (point_at step speeds times) i

  before-length : (i : ℕ) → length (before i) ≡ point_size * i
  unfolding point_at
  before-length i = joined_even (point_at step speeds times) point_size i (λ k. point_bytes_lem _ _)

  pub drawn-none : Drawn points step speeds times buffer 0 0 0 buffer
  unfolding joined
  drawn-none =
      record { within = omega arith; metres = sym (zero-mul step); near = omega arith; place = refl; long = refl; bytes = written_none buffer 0 }

  -- a record with the figures of point i, and its dot
  pub drawn_next :
      {i position at mark : ℕ} {after drawn : List ℕ} {p : DiagramPoint} {r : Root} → Drawn points step speeds times buffer i position at after → i < points →
      step < 65536 → point_size * points ≤ length buffer → r ≡ root (entry speeds i) → p ≡ record_of position r.number (entry times i) →
      drawn ≡ written after at (figures_bytes p) → mark ≡ dot r → at + figures_size < length drawn →
      Drawn points step speeds times buffer (i + 1) (position + step) (at + point_size) (set drawn (at + figures_size) mark)
  unfolding point_at point_bytes
  drawn_next {i} {position} {at} {mark} {after} {drawn} {p} {r} d h s room root-here e w m inside =
      let piece : point_bytes p mark ≡ point_at step speeds times i = rw (e, m, root-here, d.metres) in
      let dotted : set drawn (at + figures_size) mark ≡ written after at (point_bytes p mark) =
      written_next after at (at + figures_size) (figures_bytes p) mark w (omega (arith, figures_bytes_lem p)) (omega (arith, d.place, d.long)) inside in
      let put : set drawn (at + figures_size) mark ≡ written buffer 0 (before (i + 1)) =
      rw (dotted, piece, d.bytes, joined_next)
      (written_then buffer 0 at (before i) (point_at step speeds times i) (omega (arith, d.place, before-length i))
      (omega (arith, d.place, before-length i, before-length points, joined-within (point_at step speeds times) i points h))) in
      record {
        within = omega arith;
        metres = rw (add-mul, one-mul) (ap (λ (x : ℕ). x + step) d.metres);
        near = omega (arith, d.near);
        place = omega (arith, d.place);
        long = written_long buffer (before (i + 1)) put (omega (arith, before-length (i + 1)));
        bytes = put;
      }

  pub drawn_all :
      {i position at : ℕ} {after : List ℕ} → Drawn points step speeds times buffer i position at after → points ≤ i →
      after ≡ written buffer 0 (points_of points step speeds times)
  unfolding points_of
  drawn_all {i} d h = let e : i ≡ points = omega (arith, d.within) in rw e at d.bytes
