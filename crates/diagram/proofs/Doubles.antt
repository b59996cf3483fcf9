-- A whole number below 2^53 as a double: it has its bit pattern, and turns back into the same whole number. Assumes nothing.
use Prim.Native.Nat.{ℕ, ◌+◌, ◌^◌, ◌≤◌, ◌<◌}
use mathlib.Core.Bool.{not}
use mathlib.Core.List.{List, ◌++◌, append_assoc}
use mathlib.Core.Path.{◌≡◌, refl, ap, ◌∙◌}
use native.Mathlib.Omega.{arith}
use lib.Dec.{T, le→leb}
use lib.Ieee.{Float, nan, inf, fin, binary64, in_float, in_unsigned, to_unsigned, is_nan, of_bits, to_bits, of_int}
use lib.Ieee.Back.{unsigned_back}
use lib.Ieee.Bits.{of_bits-to_bits, to_bits-lt}
use lib.Ieee.Fits.{of_int-fits}
use lib.IntN.{pos}
use lib.ListN.{length, length-append}
use lib.Seq.{take_at, drop_at}
use Rattle.rules.specs.Calls.{written}
use Rattle.rules.specs.Diagram.{double, DiagramPoint, double_bytes, figures_bytes, figures_size, point_bytes, point_size, from_low, double_at, Carries}
use Rattle.rules.proofs.Written.{written_then}
use Rattle.diagram.proofs.Bytes.{low_first-length, from_low-low_first}

double-back : (n : ℕ) → n < 2 ^ 53 → T (in_unsigned binary64 64 (double n)) × (to_unsigned 64 (double n) ≡ n)
unfolding double in_float
double-back n h = unsigned_back binary64 64 n (le→leb n (2 ^ 53) (omega arith)) (omega arith)

number : (x : Float) → T (in_unsigned binary64 64 x) → T (not (is_nan x))
unfolding in_unsigned is_nan
number nan t = t
number (inf s) t = tt
number (fin s m e) t = tt

pub double-number : (n : ℕ) → n < 2 ^ 53 → T (not (is_nan (double n)))
double-number n h = number (double n) (double-back n h).0

pub double-bytes : (x : Float) → length (double_bytes x) ≡ 8
unfolding double_bytes
double-bytes x = low_first-length 8 (to_bits binary64 x)

pub figures_bytes_lem : (p : DiagramPoint) → length (figures_bytes p) ≡ figures_size
unfolding figures_bytes
figures_bytes_lem p = simp (length-append, double-bytes)

pub point_bytes_lem : (p : DiagramPoint) (mark : ℕ) → length (point_bytes p mark) ≡ point_size
unfolding point_bytes
point_bytes_lem p mark = simp (length-append, figures_bytes_lem)

-- three doubles one behind the other
pub written_three :
    (buffer : List ℕ) (at : ℕ) (p : DiagramPoint) → at + figures_size ≤ length buffer → {one two three : List ℕ} →
    one ≡ written buffer at (double_bytes p.position) →
    two ≡ written one (at + 8) (double_bytes p.speed) → three ≡ written two (at + 16) (double_bytes p.arrival) → three ≡ written buffer at (figures_bytes p)
unfolding figures_bytes
written_three buffer at p h e f g =
    let x = double-bytes p.position in
    let y = double-bytes p.speed in
    let z = double-bytes p.arrival in
    rw (g, f, e, written_then buffer at (at + 8) (double_bytes p.position) (double_bytes p.speed) (omega arith) (omega arith))
    (written_then buffer at (at + 16) _ (double_bytes p.arrival) (rw length-append (omega arith)) (omega arith)
    ∙ ap (written buffer at) (append_assoc (double_bytes p.position) (double_bytes p.speed) (double_bytes p.arrival)))

-- ---- read back

pattern : (n : ℕ) → of_bits binary64 (from_low (double_bytes (double n))) ≡ double n
unfolding double double_bytes
pattern n =
    let fits = of_int-fits binary64 (pos n) in
    let bits : ℕ = to_bits binary64 (of_int binary64 (pos n)) in
    ap (of_bits binary64) (from_low-low_first 8 bits (to_bits-lt binary64 (of_int binary64 (pos n)) fits))
    ∙ of_bits-to_bits binary64 (of_int binary64 (pos n)) fits

-- the bytes of a double among others
pub carried :
    {bytes : List ℕ} {place : ℕ} (n : ℕ) (front back : List ℕ) → n < 2 ^ 53 → place ≡ length front → bytes ≡ front ++ (double_bytes (double n) ++ back) →
    Carries bytes place n
unfolding double_at
carried {bytes} {place} n front back h e q =
    record { small = h; whole = rw found (double-back n h).0; back = rw found (double-back n h).1 }
  where
    found : double_at bytes place ≡ double n
    found =
        rw (
          q,
          e,
          drop_at front (double_bytes (double n) ++ back) (length front) refl,
          take_at (double_bytes (double n)) back 8 (double-bytes (double n)),
        ) (pattern n)
