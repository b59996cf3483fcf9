use Rattle.std.proofs.Common.{◌≡◌, ◌<◌, ℕ, List, refl, ap, ◌∙◌, arith, add-one}
use Rattle.rules.specs.File.{train_count}
use Rattle.rules.specs.Text.{start_of, block_of}
use Rattle.rules.proofs.Accepted.{file_there}
use Rattle.rules.proofs.File.{part_inside}
use Rattle.rules.proofs.Fill.{fill_none, fill_up}
use Rattle.rules.proofs.Written.{fill_written}
use Rattle.reading.specs.declared.decode.DecodedFile.{DecodedFile}
use Rattle.reading.specs.Decoded.{decoded_line, decoded_file}
use Rattle.study.proofs.Through.{opening_made, sheet-opened, through_first, next_admitted, next_decodes, next_run, next_answer}
use Rattle.study.proofs.Through.{through_next}
use Rattle.study.proofs.write_rows_with.Goals as goal

-- the line, the place of the first train and the count of trains
line_of_file : (file : List ℕ) {d : DecodedFile} → d ≡ decoded_file file → d.line ≡ decoded_line file
line_of_file file e = ap (λ (d : DecodedFile). d.line) e

count_of_file : (file : List ℕ) {d : DecodedFile} → d ≡ decoded_file file → d.trains ≡ train_count file
count_of_file file e = ap (λ (d : DecodedFile). d.trains) e

pub unwrap-sheet-requires : goal.unwrap-sheet-requires
unwrap-sheet-requires c = opening_made _ c.requires.file_value.0 (line_of_file _ c.requires.file_value.1) _ c.open_sheet.ensures.sheet

pub loop-k-init : goal.loop-k-init
loop-k-init c = let ok = c.requires.file_value.0 in
    let line = line_of_file _ c.requires.file_value.1 in (
      through_first _ ok (sheet-opened _ ok line c.unwrap-sheet.ensures c.open_sheet.ensures.sheet) (ap (λ (d : DecodedFile). d.at) c.requires.file_value.1),
      (refl, refl),
      (fill_none _ 0 _, fill_none _ 0 _, fill_none _ 0 _),
    )

pub slice_bounds-time_train-count : goal.slice_bounds-time_train-count
slice_bounds-time_train-count c = omega (arith, c.loop-k.invariant.0.within)

pub slice_bounds-time_train-start : goal.slice_bounds-time_train-start
slice_bounds-time_train-start c = omega (arith, c.loop-k.invariant.0.within)

pub time_train-timed-requires : goal.time_train-timed-requires
time_train-timed-requires c =
    let line = line_of_file _ c.requires.file_value.1 in
    let more : c.loop-k.k < train_count c.args.file.now = omega (arith, count_of_file _ c.requires.file_value.1, c.loop-k-test.true) in
    let i = c.loop-k.invariant in
    let ok = c.requires.file_value.0 in record {
      admitted = (next_admitted _ ok i.0 more line, next_decodes _ ok i.0 more line);
      points_in_bounds = (omega (arith, i.1.0, c.requires.points_in_bounds.0), omega (arith, i.1.1, c.requires.points_in_bounds.1));
    }

pub bounds-starts-k : goal.bounds-starts-k
bounds-starts-k c = omega (arith, count_of_file _ c.requires.file_value.1, c.loop-k-test.true, c.requires.file_in_bounds.0, c.loop-k.invariant.2.0.long)

pub bounds-runs-k : goal.bounds-runs-k
bounds-runs-k c = omega (arith, count_of_file _ c.requires.file_value.1, c.loop-k-test.true, c.requires.file_in_bounds.1, c.loop-k.invariant.2.1.long)

pub bounds-blocks-k : goal.bounds-blocks-k
bounds-blocks-k c = omega (arith, count_of_file _ c.requires.file_value.1, c.loop-k-test.true, c.requires.file_in_bounds.2, c.loop-k.invariant.2.2.long)

pub slice_bounds-record_size-count : goal.slice_bounds-record_size-count
slice_bounds-record_size-count c = omega (arith, c.loop-k.invariant.0.within)

pub slice_bounds-record_size-start : goal.slice_bounds-record_size-start
slice_bounds-record_size-start c = omega (arith, c.loop-k.invariant.0.within)

pub overflow_add-at : goal.overflow_add-at
overflow_add-at c =
    let more : c.loop-k.k < train_count c.args.file.now = omega (arith, count_of_file _ c.requires.file_value.1, c.loop-k-test.true) in
    let i = c.loop-k.invariant.0 in
    omega (arith, part_inside _ _ _ i.place c.record_size-at.ensures.0 more, file_there _ c.requires.file_value.0)

pub loop-k-preserved : goal.loop-k-preserved
loop-k-preserved c =
    let line = line_of_file _ c.requires.file_value.1 in
    let more : c.loop-k.k < train_count c.args.file.now = omega (arith, count_of_file _ c.requires.file_value.1, c.loop-k-test.true) in
    let ok = c.requires.file_value.0 in
    let l = c.loop-k in
    let i = l.invariant in
    let e = c.time_train-timed.ensures in
    let answer = next_answer _ ok i.0 more line e.hold_value.0 c.add-answer.ensures in
    let step = add-one l.k in (
      through_next _ ok i.0 more line e.hold_value.0 c.add-answer.ensures c.record_size-at.ensures.0 refl,
      (e.speeds_len_unchanged.0 ∙ i.1.0, e.speeds_len_unchanged.1 ∙ i.1.1),
      (
        fill_up i.2.0 (omega arith) step (omega (arith, more, c.requires.file_in_bounds.0)) (c.start_of.ensures ∙ ap start_of answer),
        fill_up i.2.1 (omega arith) step (omega (arith, more, c.requires.file_in_bounds.1)) (next_run _ ok i.0 more line e.hold_value.1),
        fill_up i.2.2 (omega arith) step (omega (arith, more, c.requires.file_in_bounds.2)) (c.block_of.ensures ∙ ap block_of answer),
      ),
    )

pub shape_of-speeds : goal.shape_of-speeds
shape_of-speeds c = c.loop-k.invariant.1.0

pub shape_of-times : goal.shape_of-times
shape_of-times c = c.loop-k.invariant.1.1

pub shape_of-starts : goal.shape_of-starts
shape_of-starts c = c.loop-k.invariant.2.0.long

pub shape_of-runs : goal.shape_of-runs
shape_of-runs c = c.loop-k.invariant.2.1.long

pub shape_of-blocks : goal.shape_of-blocks
shape_of-blocks c = c.loop-k.invariant.2.2.long

pub returns : goal.returns
returns c =
    let all : c.loop-k.k ≡ train_count c.args.file.now = omega (arith, count_of_file _ c.requires.file_value.1, c.loop-k-test.false, c.loop-k.invariant.0.few) in (
      fill_written c.loop-k.invariant.2.0 all c.requires.file_in_bounds.0,
      fill_written c.loop-k.invariant.2.1 all c.requires.file_in_bounds.1,
      fill_written c.loop-k.invariant.2.2 all c.requires.file_in_bounds.2,
    )
