-- The starts of an accepted file are the third demand's for its holds. Assumes nothing.
use Prim.Native.Nat.{ℕ, zero, suc, ◌<◌}
use mathlib.Core.List.{List, [], ◌∷◌}
use mathlib.Core.Option.{none}
use mathlib.Core.Path.{◌≡◌, refl, sym, ap, ◌∙◌}
use native.Mathlib.Omega.{arith}
use lib.ListN.{length, get_or}
use lib.Seq.{ext_get_or}
use Rattle.rules.specs.Calls.{Answer, accepted, refused, file_refusal}
use Rattle.rules.specs.Count.{entry}
use Rattle.rules.specs.Demand.{starts, trains, refusal_of, LeastStarts}
use Rattle.rules.specs.File.{AreBytes, train_count}
use Rattle.rules.specs.Hold.{Hold}
use Rattle.rules.specs.Line.{line_of}
use Rattle.rules.specs.Sheet.{fresh}
use Rattle.rules.specs.Text.{start_of, file_answers}
use Rattle.rules.proofs.Accepted.{line_sizes_lem}
use Rattle.rules.proofs.Count.{length-row, entry_row}
use Rattle.rules.proofs.Demand.{third_demand}
use Rattle.rules.proofs.File.{word-most}
use Rattle.rules.proofs.Text.{length_holds, file_answers_lem}
use Rattle.study.specs.Rows.{starts_of, holds_of, LeastForFile}

-- ---- answers of which none is a refusal

abbrev NoneRefused : List Answer → Type 0
NoneRefused got = (k : ℕ) → k < length got → refusal_of (get_or got k (refused 0)) ≡ none

later : (a : Answer) (got : List Answer) → NoneRefused (a ∷ got) → NoneRefused got
later a got h k l = h (suc k) (omega arith)

-- each call is a train
all_trains : (calls : List Hold) (got : List Answer) → length got ≡ length calls → NoneRefused got → trains calls got ≡ calls
unfolding trains
all_trains [] got e h = refl
all_trains (c ∷ calls) [] e h = absurd (omega arith)
all_trains (c ∷ calls) (accepted start block ∷ got) e h = ap (λ rest. c ∷ rest) (all_trains calls got (omega arith) (later _ got h))
all_trains (c ∷ calls) (refused n ∷ got) e h = let z = h 0 (omega arith) in cc

-- and has its start
all_starts : (got : List Answer) → NoneRefused got → length (starts got) ≡ length got
unfolding starts
all_starts [] h = refl
all_starts (accepted start block ∷ got) h = ap suc (all_starts got (later _ got h))
all_starts (refused n ∷ got) h = let z = h 0 (omega arith) in cc

start-at : (got : List Answer) → NoneRefused got → (k : ℕ) → k < length got → entry (starts got) k ≡ start_of (get_or got k (refused 0))
unfolding starts
start-at [] h k l = absurd (omega arith)
start-at (accepted start block ∷ got) h zero l = refl
start-at (accepted start block ∷ got) h (suc k) l = start-at got (later _ got h) k (omega arith)
start-at (refused n ∷ got) h k l = let z = h 0 (omega arith) in cc

-- ---- a file

module _ (file : List ℕ) (ok : file_refusal file ≡ 0) (bytes : AreBytes file) where
  abbrev blocks : ℕ
  blocks = length (line_of file).block_starts

  demand : LeastStarts blocks (fresh blocks) (holds_of file)
  demand = let sizes = line_sizes_lem file ok in third_demand blocks sizes.blocks-least sizes.blocks-most (holds_of file)

  many : length (file_answers file) ≡ train_count file
  unfolding file_answers
  many = demand.answered ∙ length_holds file 0 (train_count file)

  none-refused : (k : ℕ) → k < train_count file → refusal_of (get_or (file_answers file) k (refused 0)) ≡ none
  none-refused = file_answers_lem file (word-most file bytes 8) (word-most file bytes 10) ok

  all : NoneRefused (file_answers file)
  all k l = none-refused k (rw many at l)

  trains_are : trains (holds_of file) (file_answers file) ≡ holds_of file
  trains_are = all_trains (holds_of file) (file_answers file) (many ∙ sym (length_holds file 0 (train_count file))) all

  starts_are : starts (file_answers file) ≡ starts_of file
  starts_are =
      ext_get_or 0 _ _ (all_starts (file_answers file) all ∙ many ∙ sym (length-row _ (train_count file)))
      (λ k l.
      let m : k < train_count file = rw (all_starts (file_answers file) all, many) at l in
      start-at (file_answers file) all k (rw many m) ∙ sym (entry_row _ (train_count file) k m))

  pub least_for_file : LeastForFile file (starts_of file)
  unfolding file_answers
  least_for_file =
      record { none-refused = none-refused; apart = rw (trains_are, starts_are) at demand.apart; least = rw (trains_are, starts_are) at demand.least }
