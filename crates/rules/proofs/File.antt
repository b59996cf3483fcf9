-- The places of the file: records follow one another, the arrays have the announced lengths, and the literal scan reads to the
-- announced end exactly where rule 1 is kept. Assumes nothing.
use Prim.Native.Nat.{ℕ, zero, suc, ◌+◌, ◌-◌, ◌*◌, ◌/◌, ◌%◌, ◌≤◌, ◌<◌}
use mathlib.Core.Bool.{Bool, true, false, cond}
use mathlib.Core.List.{List, [], ◌∷◌}
use mathlib.Core.Logic.{◌↔◌, ⊎_elim}
use mathlib.Core.Path.{◌≡◌, refl, sym, ap, ap₂, ◌∙◌}
use native.Mathlib.Nat.{le_antisymm, le_of_eq, le_of_suc-le-suc, eq-or-lt_of_le, zero-add, add-zero}
use native.Mathlib.Numerals.{add-one}
use native.Mathlib.Omega.{arith}
use lib.Dec.{leb}
use lib.ListN.{length, take, drop, length-drop}
use lib.Seq.{get_or-drop, take_all}
use borrow.Author.Tests.{le-leb, lt-leb, leb-true, leb-false}
use Rattle.rules.specs.Count.{entry}
use Rattle.rules.specs.File.{AreBytes, word, words, sizes_end, limit_count, block_count, balise_count, train_count, trains_at, band_count, stop_count}
use Rattle.rules.specs.File.{record_size, record_end, record_at, announced_end}
use Rattle.rules.specs.Reading.{Reading, ends_early, read_to, have, read_trains, read_file}
use Rattle.rules.specs.Line.{line_of, train_at}
use Rattle.rules.specs.Refusal.{whole, nothing_after}
use Rattle.rules.specs.Admitted.{Parallel}
use Rattle.rules.proofs.Count.{length-row, entry_row}
use Rattle.rules.proofs.Loops.{row_agree}

-- ---- numbers

-- a number whose low byte stands first is read back
pub word_is : (file : List ℕ) (place n : ℕ) → entry file place ≡ n % 256 → entry file (place + 1) ≡ n / 256 → word file place ≡ n
unfolding word
word_is file place n l h = omega arith

pub word-most : (file : List ℕ) → AreBytes file → (place : ℕ) → word file place < 65536
unfolding word
word-most file b place = omega (arith, b place, b (place + 1))

-- a number in a part of the file
pub word-drop : (file : List ℕ) (at place : ℕ) → word (drop at file) place ≡ word file (at + place)
unfolding word
word-drop file at place =
    ap₂ (λ low high. low + 256 * high) (get_or-drop at file place 0)
    (get_or-drop at file (place + 1) 0 ∙ ap (entry file) (omega arith))

pub words-drop : (file : List ℕ) (at place n : ℕ) → words (drop at file) place n ≡ words file (at + place) n
unfolding words
words-drop file at place n = row_agree _ _ n (λ i h. word-drop file at (place + 2 * i) ∙ ap (word file) (omega arith))

-- the sizes of a line are the file's first seven numbers: P, L, K, B, set-up time, release time, count of balises
pub sizes_in_order :
    let file : List ℕ = 1 ∷ 0 ∷ 2 ∷ 0 ∷ 3 ∷ 0 ∷ 4 ∷ 0 ∷ 5 ∷ 0 ∷ 6 ∷ 1 ∷ 7 ∷ 0 ∷ [] in
    ((line_of file).points ≡ 1) × ((line_of file).step ≡ 2) × (limit_count file ≡ 3) × (block_count file ≡ 4) × ((line_of file).set_up ≡ 5)
    × ((line_of file).release ≡ 262) × (balise_count file ≡ 7)
unfolding word line_of
sizes_in_order = (refl, refl, refl, refl, refl, refl, refl)

-- ---- the arrays

pub length-words : (file : List ℕ) (place n : ℕ) → length (words file place n) ≡ n
unfolding words
length-words file place n = length-row (λ i. word file (place + 2 * i)) n

pub entry-words : (file : List ℕ) (place n i : ℕ) → i < n → entry (words file place n) i ≡ word file (place + 2 * i)
unfolding words
entry-words file place n i h = entry_row (λ i. word file (place + 2 * i)) n i h

pub parallel : (file : List ℕ) (at : ℕ) → Parallel (line_of file) (train_at file at)
unfolding line_of train_at
parallel file at =
    record {
      limits = length-words file _ (limit_count file) ∙ sym (length-words file _ (limit_count file));
      blocks = length-words file _ (block_count file) ∙ sym (length-words file _ (block_count file));
      balises = length-words file _ (balise_count file) ∙ sym (length-words file _ (balise_count file));
      bands = length-words file _ (band_count file at) ∙ sym (length-words file _ (band_count file at));
      stops = length-words file _ (stop_count file at) ∙ sym (length-words file _ (stop_count file at));
    }

-- the part of the file from a place on, as `&file[at..]` has it
abbrev pub part_from : List ℕ → ℕ → List ℕ
part_from file at = take (length file - at) (drop at file)

pub part_is : (file : List ℕ) (at : ℕ) → part_from file at ≡ drop at file
part_is file at = take_all (length file - at) (drop at file) (rw length-drop (omega arith))

-- a record at the beginning of a part of the file
module _ (file : List ℕ) (at : ℕ) where
  pub record_drop : at + record_size (drop at file) 0 ≡ record_end file at
  record_drop = omega (arith, word-drop file at 4, word-drop file at 6)

  pub train-drop : train_at (drop at file) 0 ≡ train_at file at
  unfolding train_at
  train-drop =
      let zero : at + 0 ≡ at = add-zero at in
      let bands : band_count (drop at file) 0 ≡ band_count file at = word-drop file at 4 in
      let stops : stop_count (drop at file) 0 ≡ stop_count file at = word-drop file at 6 in
      let rates : at + (8 + 2 * band_count file at) ≡ at + 8 + 2 * band_count file at = omega arith in
      let stop_points : at + (8 + 2 * band_count file at + 2 * band_count file at) ≡ at + 8 + 2 * band_count file at + 2 * band_count file at = omega arith in
      let dwells :
      at + (8 + 2 * band_count file at + 2 * band_count file at + 2 * stop_count file at) ≡
      at + 8 + 2 * band_count file at + 2 * band_count file at + 2 * stop_count file at = omega arith in
      rw (words-drop, words-drop, words-drop, words-drop, bands, stops, word-drop file at 0, word-drop file at 2, zero, rates, stop_points, dwells)

-- ---- the records, one after the other

pub records_grow : (file : List ℕ) (i j : ℕ) → i ≤ j → record_at file i ≤ record_at file j
unfolding record_at
records_grow file i zero l = let e : i ≡ 0 = omega arith in le_of_eq (ap (record_at file) e)
records_grow file i (suc j) l =
    ⊎_elim (λ e. le_of_eq (ap (record_at file) e)) (λ lt. omega (arith, records_grow file i j (le_of_suc-le-suc lt)))
    (eq-or-lt_of_le l)

pub trains-within : (file : List ℕ) → trains_at file ≤ announced_end file
unfolding record_at
trains-within file = records_grow file 0 (train_count file) (omega arith)

-- ---- a walk through the records: `at` is the place of record k

pub record_first : (file : List ℕ) → record_at file 0 ≡ trains_at file
unfolding record_at
record_first file = refl

module _ (file : List ℕ) (k at : ℕ) (e : at ≡ record_at file k) where
  pub record_next : record_end file at ≡ record_at file (k + 1)
  unfolding record_at
  record_next = rw (e, add-one)

  pub record_inside : k < train_count file → record_end file at ≤ announced_end file
  unfolding record_at
  record_inside h = rw e (records_grow file (suc k) (train_count file) h)

  pub records_end : k ≡ train_count file → at ≡ announced_end file
  records_end t = e ∙ ap (record_at file) t

  -- where the code holds the record's size, from the part of the file from `at` on
  module _ {size : ℕ} (q : size ≡ record_size (part_from file at) 0) where
    pub part_end : at + size ≡ record_end file at
    part_end = ap (λ (n : ℕ). at + n) (q ∙ ap (λ (part : List ℕ). record_size part 0) (part_is file at)) ∙ record_drop file at

    pub part_next : at + size ≡ record_at file (k + 1)
    part_next = part_end ∙ record_next

    pub part_inside : k < train_count file → at + size ≤ announced_end file
    part_inside h = omega (arith, part_end, record_inside h)

-- a train's record ends within the announced end
pub record_within : (file : List ℕ) (k : ℕ) → k < train_count file → record_end file (record_at file k) ≤ announced_end file
unfolding record_at
record_within file k h = records_grow file (suc k) (train_count file) h

-- ---- the literal scan

early : (file : List ℕ) (a : ℕ) → have file a ends_early ≡ ends_early
early file a = go (leb a (length file))
  where
    go : (b : Bool) → cond b ends_early ends_early ≡ ends_early
    go true = refl
    go false = refl

there : (file : List ℕ) (a : ℕ) (r : Reading) → a ≤ length file → have file a r ≡ r
there file a r h = rw (le-leb a (length file) h)

missing : (file : List ℕ) (a : ℕ) (r : Reading) → length file < a → have file a r ≡ ends_early
missing file a r h = rw (lt-leb a (length file) h)

-- two tests, of which the second reaches further, are as good as a last that reaches furthest
chain :
    (file : List ℕ) (a b e : ℕ) (r : Reading) → a ≤ b → b ≤ e → (b ≤ length file → r ≡ have file e (read_to e)) →
    have file a (have file b r) ≡ have file e (read_to e)
chain file a b e r l m next = go (leb b (length file)) refl
  where
    go : (t : Bool) → leb b (length file) ≡ t → have file a (have file b r) ≡ have file e (read_to e)
    go true q =
        let h = leb-true b (length file) q in
        ap (have file a) (there file b r h) ∙ there file a r (omega arith) ∙ next h
    go false q =
        let h = leb-false b (length file) q in
        ap (have file a) (missing file b r h) ∙ early file a ∙ sym (missing file e (read_to e) (omega arith))

trains : (file : List ℕ) (n k : ℕ) → record_at file k ≤ length file → read_trains file n (record_at file k) ≡
    have file (record_at file (n + k)) (read_to (record_at file (n + k)))
unfolding read_trains record_at
trains file zero k h = rw zero-add (sym (there file (record_at file k) (read_to (record_at file k)) h))
trains file (suc n) k h =
    rw (sym (shift n k))
    (chain file _ (record_at file (suc k)) (record_at file (n + suc k)) _ (omega arith) (records_grow file (suc k) (n + suc k) (omega arith))
    (trains file n (suc k)))
  where
    shift : (n k : ℕ) → n + suc k ≡ suc n + k
    shift n k = omega arith

-- the file is read to the announced end where rule 1 is kept, and ends early where it is broken
pub reading : (file : List ℕ) → read_file file ≡ cond (whole file) (read_to (announced_end file)) ends_early
unfolding read_file whole record_at
reading file =
    chain file sizes_end (trains_at file) (announced_end file) _ (omega arith) (trains-within file)
    (λ h. rw add-zero at (trains file (train_count file) 0 h))

-- rule 1 is kept exactly where the scan comes to an end, and then rule 2 exactly where that is the end of the file
pub rule_1 : (file : List ℕ) → (whole file ≡ true) ↔ ((n : ℕ) × (read_file file ≡ read_to n))
rule_1 file = (λ e. (announced_end file, rw (reading file, e)), λ r. go (whole file) (sym (reading file) ∙ r.1))
  where
    go : (b : Bool) {n : ℕ} → cond b (read_to (announced_end file)) ends_early ≡ read_to n → b ≡ true
    go true e = refl
    go false e = cc

pub rule_2 : (file : List ℕ) → whole file ≡ true → (nothing_after file ≡ true) ↔ (read_file file ≡ read_to (length file))
unfolding whole nothing_after
rule_2 file w = (
  λ e. read ∙ ap read_to (le_antisymm (leb-true _ _ w) (leb-true _ _ e)),
  λ r.
      let same : announced_end file ≡ length file = to (sym read ∙ r) in
      le-leb _ _ (le_of_eq (sym same)),
)
  where
    read : read_file file ≡ read_to (announced_end file)
    read = rw (reading file, w)

    to : {m n : ℕ} → read_to m ≡ read_to n → m ≡ n
    to e = cc
