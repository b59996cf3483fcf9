-- `study` meets its contract: the file's columns, and the sheet's text of them.
use Rattle.std.proofs.Common.{rules, ◌≡◌, ◌∙◌, sym, length, take, length-take-le}
use Rattle.std.proofs.lemmas.Result.{IfOk-from_err, IfOk-weaker}
use Rattle.std.specs.Prelude.{Ok}
use Rattle.refusals.specs.Number.{number, refused_by}
use Rattle.refusals.proofs.Passing.{passed_on, numbered}
use Rattle.rules.specs.Text.{sheet_text}
use Rattle.text.specs.Text.{rows_text}
use Rattle.study.specs.Rows.{starts_of, LeastForFile}
use Rattle.study_text.specs.Study.{study_refusal}
use Rattle.study_text.proofs.Texts.{study_refused, in_64, columns_long, least_kept, study-number, study-count, study_bytes, left}
use Rattle.study_text.proofs.study.Goals as goal

pub returns-in_err-trains : goal.returns-in_err-trains
returns-in_err-trains c =
    let file = c.args.file.now in
    let r = c.in_err-trains.field-0.0 in
    let own : number r ≡ refused_by c.rows.result = Prim.search rules in
    let told : number r ≡ study_refusal file (length c.args.text.now)
    = study_refused file _ (in_64 file (own ∙ c.rows.ensures.refusal)) (numbered r) in
    record {
      refusal = passed_on _ _ c.from_residual.ensures.1 ∙ told;
      count = IfOk-from_err _ _ c.from_residual.ensures.0;
      text = left _ c.args.text.now r told;
      least = IfOk-from_err _ _ c.from_residual.ensures.0;
    }

pub slice_bounds-starts-end : goal.slice_bounds-starts-end
slice_bounds-starts-end c =
    let file = c.args.file.now in
    let told : c.rows.result ≡ Ok c.in_ok-trains.trains = Prim.search rules in
    let e = rw told at c.rows.ensures in
    let ok = sym (in_64 file e.refusal) in
    let z = sym e.refusal in
    (columns_long file ok z e.trains e.starts e.runs e.blocks).0

pub slice_bounds-put_sheet-end : goal.slice_bounds-put_sheet-end
slice_bounds-put_sheet-end c =
    let file = c.args.file.now in
    let told : c.rows.result ≡ Ok c.in_ok-trains.trains = Prim.search rules in
    let e = rw told at c.rows.ensures in
    let ok = sym (in_64 file e.refusal) in
    let z = sym e.refusal in
    sym (length-take-le _ _ (columns_long file ok z e.trains e.starts e.runs e.blocks).0)

pub slice_bounds-runs-end : goal.slice_bounds-runs-end
slice_bounds-runs-end c =
    let file = c.args.file.now in
    let told : c.rows.result ≡ Ok c.in_ok-trains.trains = Prim.search rules in
    let e = rw told at c.rows.ensures in
    let ok = sym (in_64 file e.refusal) in
    let z = sym e.refusal in
    (columns_long file ok z e.trains e.starts e.runs e.blocks).1

pub slice_bounds-put_sheet-end-2 : goal.slice_bounds-put_sheet-end-2
slice_bounds-put_sheet-end-2 c =
    let file = c.args.file.now in
    let told : c.rows.result ≡ Ok c.in_ok-trains.trains = Prim.search rules in
    let e = rw told at c.rows.ensures in
    let ok = sym (in_64 file e.refusal) in
    let z = sym e.refusal in
    sym (length-take-le _ _ (columns_long file ok z e.trains e.starts e.runs e.blocks).1)

pub slice_bounds-blocks-end : goal.slice_bounds-blocks-end
slice_bounds-blocks-end c =
    let file = c.args.file.now in
    let told : c.rows.result ≡ Ok c.in_ok-trains.trains = Prim.search rules in
    let e = rw told at c.rows.ensures in
    let ok = sym (in_64 file e.refusal) in
    let z = sym e.refusal in
    (columns_long file ok z e.trains e.starts e.runs e.blocks).2

pub slice_bounds-put_sheet-end-3 : goal.slice_bounds-put_sheet-end-3
slice_bounds-put_sheet-end-3 c =
    let file = c.args.file.now in
    let told : c.rows.result ≡ Ok c.in_ok-trains.trains = Prim.search rules in
    let e = rw told at c.rows.ensures in
    let ok = sym (in_64 file e.refusal) in
    let z = sym e.refusal in
    sym (length-take-le _ _ (columns_long file ok z e.trains e.starts e.runs e.blocks).2)

pub returns-clause-refusal : goal.returns-clause-refusal
returns-clause-refusal c =
    let file = c.args.file.now in
    let told : c.rows.result ≡ Ok c.in_ok-trains.trains = Prim.search rules in
    let e = rw told at c.rows.ensures in
    let ok = sym (in_64 file e.refusal) in
    let z = sym e.refusal in
    study-number file ok z e.trains e.starts e.runs e.blocks c.args.text.now c.put_sheet.ensures.refusal

pub returns-clause-count : goal.returns-clause-count
returns-clause-count c =
    let file = c.args.file.now in
    let told : c.rows.result ≡ Ok c.in_ok-trains.trains = Prim.search rules in
    let e = rw told at c.rows.ensures in
    let ok = sym (in_64 file e.refusal) in
    let z = sym e.refusal in
    IfOk-weaker c.put_sheet.result
    (λ n. n ≡ length (rows_text (take c.in_ok-trains.trains c.rows.new.starts) (take c.in_ok-trains.trains c.rows.new.runs) (take c.in_ok-trains.trains c.rows.new.blocks)))
    (λ n. n ≡ length (sheet_text file)) (λ n h. study-count file ok z e.trains e.starts e.runs e.blocks c.args.text.now h) c.put_sheet.ensures.count

pub returns-clause-text : goal.returns-clause-text
returns-clause-text c =
    let file = c.args.file.now in
    let told : c.rows.result ≡ Ok c.in_ok-trains.trains = Prim.search rules in
    let e = rw told at c.rows.ensures in
    let ok = sym (in_64 file e.refusal) in
    let z = sym e.refusal in
    study_bytes file ok z e.trains e.starts e.runs e.blocks c.args.text.now c.put_sheet.ensures.bytes

pub returns-clause-least : goal.returns-clause-least
returns-clause-least c =
    let file = c.args.file.now in
    let told : c.rows.result ≡ Ok c.in_ok-trains.trains = Prim.search rules in
    let e = rw told at c.rows.ensures in
    let ok = sym (in_64 file e.refusal) in
    let z = sym e.refusal in
    let least = least_kept file ok z e.trains e.starts e.runs e.blocks e.least in
    IfOk-weaker c.put_sheet.result
    (λ n. n ≡ length (rows_text (take c.in_ok-trains.trains c.rows.new.starts) (take c.in_ok-trains.trains c.rows.new.runs) (take c.in_ok-trains.trains c.rows.new.blocks)))
    (λ n. LeastForFile file (starts_of file)) (λ n h. least) c.put_sheet.ensures.count
