-- What a call answers and leaves, by its number of refusal. Assumes nothing.
use Prim.Native.Nat.{ℕ, ◌≤◌, ◌<◌}
use mathlib.Core.List.{List, []}
use mathlib.Core.Path.{◌≡◌, sym, ◌∙◌}
use native.Mathlib.Nat.{zero-add}
use native.Mathlib.Omega.{arith}
use lib.Dec.{leb}
use lib.ListN.{length}
use borrow.Author.Tests.{leb-true, leb-false, le-leb, lt-leb}
use Rattle.std.proofs.Common.{Ok, Err}
use Rattle.refusals.specs.declared.Refusal.{Refusal}
use Rattle.refusals.specs.declared.Refusal.TheVariants as refusals
use Rattle.refusals.specs.Number.{number, kept_or}
use Rattle.refusals.proofs.Passing.{numbered, refuses, passes}
use Rattle.rules.specs.Calls.{lent_after}
use Rattle.rules.proofs.Calls.{lent_written, lent_kept}
use Rattle.rules.proofs.Refusal.{refusal-none, head_broken, head_kept, head_accepted}
use Rattle.text.specs.Text.{Placed, room_refusal}

-- ---- a call with this number of refusal

module _ (text buffer : List ℕ) {told : ℕ} where
  -- a refusal leaves the buffer
  pub left : (r : Refusal) → number r ≡ told → buffer ≡ lent_after told text buffer
  left r e = rw (sym e) (sym (lent_kept text buffer (numbered r)))

  pub wrote_all :
      {past : ℕ} {after : List ℕ} → told ≡ 0 → Placed buffer 0 text past after → (past ≡ length text) × (after ≡ lent_after told text buffer)
  wrote_all z p = rw z (rw (p.past_text, zero-add), p.bytes ∙ sym (lent_written text buffer))

-- ---- the number of a text

module _ (text : List ℕ) (bytes : ℕ) where
  pub room_short : bytes < length text → 11 ≡ room_refusal text bytes
  unfolding room_refusal
  room_short h = sym (head_broken 11 (leb (length text) bytes) [] (lt-leb (length text) bytes h))

  pub room_enough : length text ≤ bytes → 0 ≡ room_refusal text bytes
  unfolding room_refusal
  room_enough h = sym (head_kept 11 (leb (length text) bytes) [] (le-leb (length text) bytes h) ∙ refusal-none)

  pub room_there : room_refusal text bytes ≡ 0 → length text ≤ bytes
  unfolding room_refusal
  room_there z = leb-true (length text) bytes (head_accepted 11 (leb (length text) bytes) [] (omega arith) z).0

-- ---- the test of a call

-- that a text of this length fits
module _ (text : List ℕ) (bytes : ℕ) {counted : ℕ} (long : counted ≡ length text) where
  pub unless_short : {e : Refusal} → Err e ≡ kept_or refusals.TooLittleRoom (leb counted bytes) → number e ≡ room_refusal text bytes
  unless_short h =
      let broken = refuses refusals.TooLittleRoom _ (leb counted bytes) h in
      let short : bytes < length text = rw long at (leb-false counted bytes broken.0) in
      broken.1 ∙ room_short text bytes short

  pub unless_fits : Ok tt ≡ kept_or refusals.TooLittleRoom (leb counted bytes) → 0 ≡ room_refusal text bytes
  unless_fits h = room_enough text bytes (rw long at (leb-true counted bytes (passes refusals.TooLittleRoom (leb counted bytes) h)))
