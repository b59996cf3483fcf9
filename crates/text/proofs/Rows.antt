-- The whole sheet's text, and when it is written. Assumes nothing.
use Prim.Native.Nat.{ℕ, ◌+◌, ◌<◌}
use mathlib.Core.Bool.{Bool, true, false}
use mathlib.Core.List.{List, [], ◌∷◌, ◌++◌}
use mathlib.Core.Path.{◌≡◌, sym}
use native.Mathlib.Omega.{arith}
use lib.Dec.{leb, eqb}
use lib.ListN.{length, length-append}
use borrow.Author.Tests.{leb-true, eqb-true, le-leb, eq-eqb}
use Rattle.rules.specs.Count.{◌and◌}
use Rattle.rules.specs.Refusal.{Rule, rule}
use Rattle.rules.specs.Text.{header, joined}
use Rattle.rules.proofs.Count.{and_left, and_right, and_both}
use Rattle.rules.proofs.Lengths.{header-length}
use Rattle.rules.proofs.Refusal.{head_broken, head_kept}
use Rattle.rules.proofs.Written.{joined_agree}
use Rattle.text.specs.Text.{line_at, lines_text, rows_text, EqualCounts, equal_counts, room_refusal, sheet_refusal}

pub counted : (starts runs blocks : ℕ) → equal_counts starts runs blocks ≡ true → EqualCounts starts runs blocks
unfolding equal_counts
counted starts runs blocks e =
    let each = and_right (leb starts 64) (eqb runs starts and eqb blocks starts) e in
    record {
      most = leb-true starts 64 (and_left (leb starts 64) (eqb runs starts and eqb blocks starts) e);
      runs_each = eqb-true runs starts (and_left (eqb runs starts) (eqb blocks starts) each);
      blocks-each = eqb-true blocks starts (and_right (eqb runs starts) (eqb blocks starts) each);
    }

-- for a caller that knows the counts
pub counts_equal : (starts runs blocks : ℕ) → EqualCounts starts runs blocks → equal_counts starts runs blocks ≡ true
unfolding equal_counts
counts_equal starts runs blocks c =
    and_both (le-leb starts 64 c.most) (and_both (eq-eqb runs starts c.runs_each) (eq-eqb blocks starts c.blocks-each))

module _ (starts runs blocks : List ℕ) where
  pub rows-length : length (rows_text starts runs blocks) ≡ 22 + length (lines_text starts runs blocks)
  unfolding rows_text
  rows-length = rw length-append (omega (arith, header-length))

  -- for a caller that knows each line
  pub rows-joined :
      (line : ℕ → List ℕ) → ((k : ℕ) → k < length starts → line_at starts runs blocks k ≡ line k) →
      rows_text starts runs blocks ≡ header ++ joined line (length starts)
  unfolding rows_text lines_text
  rows-joined line h = rw (joined_agree (line_at starts runs blocks) line (length starts) h)

  module _ (bytes : ℕ) where
    abbrev same : Bool
    same = equal_counts (length starts) (length runs) (length blocks)

    abbrev later : List Rule
    later = rule 11 (leb (length (rows_text starts runs blocks)) bytes) ∷ []

    pub counts_refused : same ≡ false → 11 ≡ sheet_refusal starts runs blocks bytes
    unfolding sheet_refusal
    counts_refused e = sym (head_broken 11 same later e)

    pub counts_kept : same ≡ true → sheet_refusal starts runs blocks bytes ≡ room_refusal (rows_text starts runs blocks) bytes
    unfolding sheet_refusal room_refusal
    counts_kept e = head_kept 11 same later e
