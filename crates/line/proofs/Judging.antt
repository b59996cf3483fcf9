-- The number of refusal of a file from what its trains keep and the number of its line. Assumes nothing.
use Prim.Native.Nat.{ℕ, ◌+◌, ◌≤◌, ◌<◌}
use mathlib.Core.Bool.{Bool, true, false, false≢true}
use mathlib.Core.List.{List, ◌∷◌}
use mathlib.Core.Path.{◌≡◌, refl, sym, ap, ap₂, ◌∙◌}
use native.Mathlib.Numerals.{add-one}
use native.Mathlib.Omega.{arith}
use lib.ListN.{drop}
use Rattle.rules.specs.Calls.{file_refusal}
use Rattle.rules.specs.Count.{◌and◌, every}
use Rattle.rules.specs.File.{limit_count, block_count, balise_count, train_count, band_count, stop_count, record_at}
use Rattle.rules.specs.Line.{Line, line_of, train_at, train_of}
use Rattle.rules.specs.Refusal.{rule, refusal, length_rules, line_sizes, train_sizes, sizes_rule, line_rules, train_rules_by}
use Rattle.rules.specs.Refusal.{bands_rule, stops_rule, last_block_rule}
use Rattle.rules.proofs.Accepted.{file_sizes-broken, file_line_broken, file_line_passed}
use Rattle.rules.proofs.Count.{and_left, and_right, and_both, and_rest, every-at, every_all, every_agree, length-row}
use Rattle.rules.proofs.File.{length-words, part_from, part_is, train-drop}
use Rattle.rules.proofs.Refusal.{head_broken, head_kept}
use Rattle.rules.proofs.Rules.{rule_3_line, one_train, rule_3_train}
use Rattle.values.specs.declared.decoded.Line as decoded_lines
use Rattle.values.specs.declared.decoded.Train as decoded_trains
use Rattle.values.specs.Values.{as_line, as_train}
use Rattle.judging.specs.declared.train_rules.TrainKept.{TrainKept}
use Rattle.judging.specs.Kept.{kept_on, both_keep}
use Rattle.judging.proofs.Checks.{sized_kept}
use Rattle.reading.specs.declared.decode.DecodedFile.{DecodedFile}
use Rattle.reading.specs.Decoded.{decoded_line, decoded_file, decoded_train}
use Rattle.reading.proofs.Decoding.{line_is, train_is}
use Rattle.line.specs.Judged.{all_kept, kept_of}

-- ---- what is decoded has the sizes of the file, also where they are beyond their limits

line_sizes_decoded : (file : List ℕ) (trains : ℕ) → line_sizes (as_line (decoded_line file)) trains ≡ line_sizes (line_of file) trains
unfolding line_sizes line_of
line_sizes_decoded file trains = simp (length-row, length-words)

train_sizes_decoded : (bytes : List ℕ) → train_sizes (as_train (decoded_train bytes)) ≡ train_sizes (train_at bytes 0)
unfolding train_sizes train_at
train_sizes_decoded bytes = simp (length-row, length-words)

pub line_decoded : (file : List ℕ) (trains : ℕ) → line_sizes (line_of file) trains ≡ true → as_line (decoded_line file) ≡ line_of file
unfolding line_of
line_decoded file trains e =
    let r = (rule_3_line (line_of file) trains).0 e in
    let k : limit_count file ≤ 64 = rw length-words at r.limits-most in
    let b : block_count file ≤ 32 = rw length-words at r.blocks-most in
    let o : balise_count file ≤ 64 = rw length-words at r.balises-most in
    line_is file k (omega arith) o

pub train_decoded : (file : List ℕ) (at : ℕ) → train_sizes (train_at file at) ≡ true → as_train (decoded_train (drop at file)) ≡ train_at file at
unfolding train_at
train_decoded file at e =
    let r = (rule_3_train (train_at (drop at file) 0)).0 (rw (train-drop file at) e) in
    let a : band_count (drop at file) 0 ≤ 8 = rw length-words at r.bands-most in
    let s : stop_count (drop at file) 0 ≤ 32 = rw length-words at r.stops-most in
    train_is (drop at file) (omega arith) (omega arith) ∙ train-drop file at

-- ---- what some trains keep, one train after the other

module _ (f : ℕ → TrainKept) where
  pub kept-none : ◌≡◌ {A = TrainKept} (record { sizes = true; bands = true; stops = true; last_block = true }) (all_kept f 0)
  unfolding every
  kept-none = refl

  pub kept_more : (k : ℕ) {all one r : TrainKept} → all ≡ all_kept f k → one ≡ f k → r ≡ both_keep all one → r ≡ all_kept f (k + 1)
  unfolding every
  kept_more k e g h = rw add-one (h ∙ rw (e, g))

kept_agree : (f g : ℕ → TrainKept) (n : ℕ) → ((k : ℕ) → k < n → f k ≡ g k) → all_kept f n ≡ all_kept g n
kept_agree f g n h =
    rw (
      every_agree (λ k. (f k).sizes) (λ k. (g k).sizes) n (λ k l. ap (λ (t : TrainKept). t.sizes) (h k l)),
      every_agree (λ k. (f k).bands) (λ k. (g k).bands) n (λ k l. ap (λ (t : TrainKept). t.bands) (h k l)),
      every_agree (λ k. (f k).stops) (λ k. (g k).stops) n (λ k l. ap (λ (t : TrainKept). t.stops) (h k l)),
      every_agree (λ k. (f k).last_block) (λ k. (g k).last_block) n (λ k l. ap (λ (t : TrainKept). t.last_block) (h k l)),
    )

-- as the code has it of the record at `at`
pub kept_here :
    (file : List ℕ) (k at : ℕ) {kept : TrainKept} {line : decoded_lines.Line} {train : decoded_trains.Train} → at ≡ record_at file k →
    line ≡ decoded_line file → train ≡ decoded_train (part_from file at) → kept ≡ kept_on (as_line line) (as_train train) → kept ≡ kept_of file k
kept_here file k at e f g h =
    let here = g ∙ ap decoded_train (part_is file at ∙ ap (λ (n : ℕ). drop n file) e) in
    h ∙ rw (f, here)

-- ---- the number of the line, as the code has it

abbrev line_number : List ℕ → ℕ
line_number file = refusal (rule 3 (line_sizes (as_line (decoded_line file)) (train_count file)) ∷ line_rules (as_line (decoded_line file)))

pub line_here :
    (file : List ℕ) {number : ℕ} {d : DecodedFile} → d ≡ decoded_file file → number ≡
    refusal (rule 3 (line_sizes (as_line d.line) d.trains) ∷ line_rules (as_line d.line)) → number ≡ line_number file
line_here file e h = h ∙ rw e

module _ (file : List ℕ) where
  abbrev train_sized : ℕ → Bool
  train_sized k = train_sizes (train_of file k)

  -- the sizes that the code tests are the file's
  sizes_of : (k : ℕ) → (kept_of file k).sizes ≡ (line_sizes (line_of file) 1 and train_sized k)
  sizes_of k =
      ap₂ ◌and◌ (line_sizes_decoded file 1)
      (train_sizes_decoded (drop (record_at file k) file) ∙ ap train_sizes (train-drop file (record_at file k)))

  -- ---- where the sizes are kept

  module _ (e : sizes_rule file ≡ true) where
    line_kept : line_sizes (line_of file) (train_count file) ≡ true
    line_kept = and_left _ _ e

    -- train k as the file has it
    abbrev train_kept : ℕ → TrainKept
    train_kept k =
        record {
          sizes = true;
          bands = bands_rule (train_of file k);
          stops = stops_rule (line_of file) (train_of file k);
          last_block = last_block_rule (line_of file) (train_of file k);
        }

    one_kept : (k : ℕ) → k < train_count file → kept_of file k ≡ train_kept k
    one_kept k h =
        let sized = every-at train_sized (train_count file) (and_right _ _ e) k h in
        sized_kept _ _ (sizes_of k ∙ and_both (one_train (line_of file) ((rule_3_line (line_of file) (train_count file)).0 line_kept)) sized)
        ∙ rw (line_decoded file (train_count file) line_kept, train_decoded file (record_at file k) sized)

    line_number_lem : line_number file ≡ refusal (line_rules (line_of file))
    line_number_lem =
        head_kept 3 _ _ (line_sizes_decoded file (train_count file) ∙ line_kept)
        ∙ ap (λ (l : Line). refusal (line_rules l)) (line_decoded file (train_count file) line_kept)

  -- ---- the number by what the code has

  module _ (z : refusal (length_rules file) ≡ 0) {kept : TrainKept} (all : kept ≡ all_kept (kept_of file) (train_count file)) where
    kept_all : (e : sizes_rule file ≡ true) → kept ≡ all_kept (train_kept e) (train_count file)
    kept_all e = all ∙ kept_agree (kept_of file) (train_kept e) (train_count file) (one_kept e)

    pub by_sizes : kept.sizes ≡ false → 3 ≡ file_refusal file
    by_sizes b = go (sizes_rule file) refl
      where
        go : (s : Bool) → sizes_rule file ≡ s → 3 ≡ file_refusal file
        go true s = absurd (false≢true (sym b ∙ ap (λ (t : TrainKept). t.sizes) (kept_all s) ∙ every_all (λ k. true) (train_count file) (λ k h. refl)))
        go false s = sym (file_sizes-broken file z s)

    module _ (b : kept.sizes ≡ true) {number : ℕ} (p : number ≡ line_number file) where
      -- where the trains' sizes are kept and those of the file are not, the line's are not
      line_three : sizes_rule file ≡ false → number ≡ 3
      line_three s = p ∙ head_broken 3 _ _ (line_sizes_decoded file (train_count file) ∙ go (line_sizes (line_of file) (train_count file)) refl)
        where
          trains : every (train_count file) train_sized ≡ true
          trains =
              let each = sym (ap (λ (t : TrainKept). t.sizes) all) ∙ b in
              every_all train_sized (train_count file) (λ k h. and_right _ _ (sym (sizes_of k) ∙ every-at (λ k. (kept_of file k).sizes) (train_count file) each k h))

          go : (c : Bool) → line_sizes (line_of file) (train_count file) ≡ c → line_sizes (line_of file) (train_count file) ≡ false
          go true c = absurd (false≢true (sym (and_rest c s) ∙ trains))
          go false c = c

      pub by_line : (number ≡ 0 → ⊥) → number ≡ file_refusal file
      by_line h = go (sizes_rule file) refl
        where
          go : (s : Bool) → sizes_rule file ≡ s → number ≡ file_refusal file
          go true s = p ∙ line_number_lem s ∙ sym (file_line_broken file z s (λ y. h (p ∙ line_number_lem s ∙ y)))
          go false s = line_three s ∙ sym (file_sizes-broken file z s)

      pub by_trains : number ≡ 0 → {r : ℕ} → r ≡ refusal (train_rules_by kept.bands kept.stops kept.last_block) → r ≡ file_refusal file
      by_trains y {r} q = go (sizes_rule file) refl
        where
          go : (s : Bool) → sizes_rule file ≡ s → r ≡ file_refusal file
          go true s = q ∙ rw (kept_all s) (sym (file_line_passed file z s (sym (line_number_lem s) ∙ sym p ∙ y)))
          go false s = absurd (omega (arith, line_three s))
