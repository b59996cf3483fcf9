-- What an accepted file, and a train of it, are as the rules have them, and the part handed out. Assumes nothing.
use Prim.Native.Nat.{ℕ, ◌+◌, ◌≤◌, ◌<◌}
use mathlib.Core.Bool.{Bool, true, false}
use mathlib.Core.List.{List}
use mathlib.Core.Path.{◌≡◌, refl, sym, ap, ◌∙◌}
use native.Mathlib.Omega.{arith}
use lib.Dec.{eqb}
use lib.ListN.{length, take, drop}
use borrow.Author.Tests.{eq-eqb, ne_eqb, eqb-true}
use Rattle.std.specs.Prelude.{Result, Ok, Err}
use Rattle.std.specs.Result.{IsErrAnd}
use Rattle.refusals.specs.declared.Refusal.{Refusal}
use Rattle.refusals.specs.Number.{number}
use Rattle.refusals.proofs.Passing.{numbered}
use Rattle.rules.specs.Calls.{file_refusal, train_refusal, train_record, RecordPlace, record_place}
use Rattle.rules.specs.File.{train_count, record_at, record_size, record_end}
use Rattle.rules.specs.Line.{line_of, train_of}
use Rattle.rules.specs.Refusal.{train_sizes}
use Rattle.rules.proofs.Accepted.{train-accepted, file_there, sizes_kept}
use Rattle.rules.proofs.Calls.{place_handed}
use Rattle.rules.proofs.Count.{and_left, and_right, every-at}
use Rattle.rules.proofs.File.{part_from, part_is, part_end, record_within}
use Rattle.values.specs.declared.decoded.Train.{Train}
use Rattle.values.specs.Values.{as_line, as_train}
use Rattle.reading.specs.Decoded.{decoded_line, decoded_train}
use Rattle.line.specs.declared.opened.OpenedTrain.{OpenedTrain}
use Rattle.line.specs.declared.RecordPlace as line_records
use Rattle.line.specs.Answers.{as_record_place, opened_train}
use Rattle.line.proofs.Judging.{line_decoded, train_decoded}

-- the line of an accepted file stands for the rules' line, and so does each train
module _ (file : List ℕ) (ok : file_refusal file ≡ 0) where
  pub line_stands : as_line (decoded_line file) ≡ line_of file
  line_stands = line_decoded file (train_count file) (and_left _ _ (sizes_kept file ok))

  pub train_stands : (k : ℕ) → k < train_count file → as_train (decoded_train (drop (record_at file k) file)) ≡ train_of file k
  train_stands k h =
      train_decoded file (record_at file k) (every-at (λ k. train_sizes (train_of file k)) (train_count file) (and_right _ _ (sizes_kept file ok)) k h)

module _ (file : List ℕ) (k : ℕ) where
  -- ---- a train that the file has

  module _ (ok : train_refusal file k ≡ 0) where
    pub place_found :
        {start size : ℕ} → start ≡ record_at file k → size ≡ record_size (part_from file start) 0 →
        ◌≡◌ {A = RecordPlace} (record { number = 0; start = start; length = size }) (record_place file k)
    unfolding record_place
    place_found {start} {size} e f =
        let here : size ≡ record_size file (record_at file k) = omega (arith, e, part_end file k start e f, ap (record_end file) e) in
        rw (eq-eqb (train_refusal file k) 0 ok, e, here)

    -- what opening tells its callers
    module _ {o : OpenedTrain} (e : o ≡ opened_train file k) where
      pub opened_line : as_line o.line ≡ line_of file
      opened_line = ap (λ (o : OpenedTrain). as_line o.line) e ∙ line_stands file (train-accepted file k ok).0

      pub opened-train : as_train o.train ≡ train_of file k
      opened-train =
          let (accepted, there) = train-accepted file k ok in
          ap (λ (o : OpenedTrain). as_train o.train) e ∙ train_stands file accepted k there

  -- as the code has it of the record at `at`
  pub train_read : {at : ℕ} {train : Train} → at ≡ record_at file k → train ≡ decoded_train (part_from file at) → train ≡
      decoded_train (drop (record_at file k) file)
  train_read {at} e f = f ∙ ap decoded_train (part_is file at ∙ ap (λ (n : ℕ). drop n file) e)

  -- ---- the part that is handed out, and none on a refusal

  pub place_refused :
      (r : Result line_records.RecordPlace Refusal) (e : Refusal) → IsErrAnd r (λ x. x ≡ e) → number e ≡ train_refusal file k →
      as_record_place r ≡ record_place file k
  unfolding record_place
  place_refused (Ok p) e i h = absurd i
  place_refused (Err x) e i h = rw (i, h, ne_eqb (train_refusal file k) 0 (λ z. numbered e (h ∙ z)))

  module _ {p : RecordPlace} (e : p ≡ record_place file k) where
    pub part_handed : take p.length (drop p.start file) ≡ train_record file k
    part_handed = rw e (sym (place_handed file k))

    pub part_within : p.start + p.length ≤ length file
    unfolding record_place
    part_within = rw e (go (eqb (train_refusal file k) 0) refl)
      where
        go : (b : Bool) → eqb (train_refusal file k) 0 ≡ b → (record_place file k).start + (record_place file k).length ≤ length file
        go true q =
            let (ok, there) = train-accepted file k (eqb-true (train_refusal file k) 0 q) in
            rw q (omega (arith, record_within file k there, file_there file ok))
        go false q = rw q (omega arith)
