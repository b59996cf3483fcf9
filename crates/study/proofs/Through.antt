-- The trains of an accepted file, one after the other. Assumes nothing.
use Prim.Native.Nat.{ℕ, suc, ◌+◌, ◌≤◌, ◌<◌}
use mathlib.Core.List.{List}
use mathlib.Core.Path.{◌≡◌, refl, sym, ap, ◌∙◌}
use native.Mathlib.Numerals.{add-one}
use native.Mathlib.Omega.{arith}
use lib.ListN.{length}
use Rattle.rules.specs.Admitted.{Admitted}
use Rattle.rules.specs.Calls.{Opening, Addition, opened, added, file_refusal}
use Rattle.rules.specs.File.{train_count, trains_at, record_at, record_size, band_count, stop_count}
use Rattle.rules.specs.Hold.{Hold, hold_of}
use Rattle.rules.specs.Line.{Line, line_of, train_at, train_of}
use Rattle.rules.specs.Sheet.{Sheet, fresh}
use Rattle.rules.specs.Text.{running_time}
use Rattle.rules.proofs.Accepted.{file_there, line_sizes_lem, admitted}
use Rattle.rules.proofs.Answers.{Rest, rest-first, rest-here, rest_next}
use Rattle.rules.proofs.Count.{within_holds}
use Rattle.rules.proofs.Demand.{opened-fresh}
use Rattle.rules.proofs.File.{length-words, part_from, part_is, part_next, part_inside, record_first, train-drop, trains-within}
use Rattle.std.specs.Prelude.{Result, Ok, Err}
use Rattle.std.specs.Result.{IsOk}
use Rattle.refusals.specs.declared.Refusal.{Refusal}
use Rattle.refusals.specs.Number.{refused_by}
use Rattle.refusals.proofs.Passing.{accepted}
use Rattle.holds.specs.declared.Sheet as sheets
use Rattle.holds.specs.Values.{as_sheet}
use Rattle.sheet.specs.Values.{as_opening}
use Rattle.values.specs.declared.decoded.Line as decoded
use Rattle.values.specs.Values.{as_line}
use Rattle.reading.specs.Decoded.{decoded_line}
use Rattle.line.proofs.Opening.{line_stands}
use Rattle.study.specs.Rows.{Decodes, last_arrival, answer_to}

-- the first k trains are added
pub record Through (file : List ℕ) (s : Sheet) (at k : ℕ) : Type 0 where
  pub few : k ≤ train_count file
  pub place : at ≡ record_at file k
  pub within : at ≤ length file
  pub rest : Rest file k s

module _ (file : List ℕ) (ok : file_refusal file ≡ 0) where
  pub few_trains : train_count file ≤ 64
  few_trains = (line_sizes_lem file ok).trains-most

  -- the line that the code holds
  module _ {line : decoded.Line} (same : line ≡ decoded_line file) where
    pub line_is : as_line line ≡ line_of file
    line_is = ap as_line same ∙ line_stands file ok

    pub points-most : line.points ≤ 4096
    points-most = omega (arith, ap (λ (l : Line). l.points) line_is, (line_sizes_lem file ok).points-most)

    block-count : line.block_count ≡ length (line_of file).block_starts
    unfolding line_of
    block-count = ap (λ (l : decoded.Line). l.block_count) same ∙ sym (length-words file _ _)

    -- the sheet that the first train is added to
    sheet_opened : opened line.block_count ≡ record { number = 0; sheet = fresh (length (line_of file).block_starts) }
    sheet_opened =
        let sizes = line_sizes_lem file ok in
        let count = block-count in
        rw (opened-fresh line.block_count (within_holds 1 32 _ (omega (arith, sizes.blocks-least)) (omega (arith, sizes.blocks-most))), count)

    pub opening_made : (x : Result sheets.Sheet Refusal) → as_opening x ≡ opened line.block_count → IsOk x
    opening_made x e = accepted x (told x ∙ ap (λ (o : Opening). o.number) (e ∙ sheet_opened))
      where
        told : (x : Result sheets.Sheet Refusal) → refused_by x ≡ (as_opening x).number
        told (Ok s) = refl
        told (Err r) = refl

    pub sheet-opened :
        {x : Result sheets.Sheet Refusal} {s : sheets.Sheet} → x ≡ Ok s → as_opening x ≡ opened line.block_count → as_sheet s ≡ fresh (length (line_of file).block_starts)
    sheet-opened q e = ap (λ (o : Opening). o.sheet) (rw q at e ∙ sheet_opened)

  pub through_first : {at : ℕ} {s : Sheet} → s ≡ fresh (length (line_of file).block_starts) → at ≡ trains_at file → Through file s at 0
  through_first e p =
      record {
        few = omega arith;
        place = p ∙ sym (record_first file);
        within = omega (arith, trains-within file, file_there file ok);
        rest = rw e (rest-first file);
      }

  -- the next train
  module _ {s : Sheet} {at k : ℕ} (done : Through file s at k) (more : k < train_count file) where
    train_next : train_at (part_from file at) 0 ≡ train_of file k
    train_next =
        ap (λ (bytes : List ℕ). train_at bytes 0) (part_is file at) ∙ train-drop file at ∙ ap (train_at file) done.place

    module _ {line : decoded.Line} (same : line ≡ decoded_line file) where
      pub next_admitted : Admitted (as_line line) (train_at (part_from file at) 0)
      next_admitted = rw (line_is same, train_next) (admitted file ok k more)

      pub next_decodes : Decodes (part_from file at)
      unfolding train_at
      next_decodes =
          let r = next_admitted.rule3_train in
          let a : band_count (part_from file at) 0 ≤ 8 = rw length-words at r.bands-most in
          let b : stop_count (part_from file at) 0 ≤ 32 = rw length-words at r.stops-most in
          record { bands = omega arith; stops = omega arith }

      pub next_run : {run : ℕ} → run ≡ last_arrival (as_line line) (train_at (part_from file at) 0) → run ≡ running_time file k
      unfolding running_time
      next_run e = e ∙ ap (λ (l : Line). last_arrival l (train_at (part_from file at) 0)) (line_is same) ∙ ap (last_arrival (line_of file)) train_next

      -- it is added
      module _ {h : Hold} {x : Addition} (eh : h ≡ hold_of (as_line line) (train_at (part_from file at) 0)) (ex : x ≡ added s h) where
        sum : x ≡ added s (hold_of (line_of file) (train_of file k))
        sum = ex ∙ ap (added s) (eh ∙ rw (line_is same, train_next))

        pub next_answer : x.answer ≡ answer_to file k
        next_answer = rw sum (sym (rest-here file done.rest more))

        pub through_next : {size k' : ℕ} → size ≡ record_size (part_from file at) 0 → k' ≡ k + 1 → Through file x.sheet (at + size) k'
        through_next {size} {k'} ez ek =
            let next : k' ≡ suc k = ek ∙ add-one k in
            record {
              few = omega arith;
              place = rw ek (part_next file k at done.place ez);
              within = omega (arith, part_inside file k at done.place ez more, file_there file ok);
              rest = rw (next, sum) (rest_next file done.rest more);
            }

-- ---- the columns
