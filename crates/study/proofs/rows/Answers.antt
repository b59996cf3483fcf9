use Rattle.std.proofs.Common.{◌≡◌, ◌∙◌, ap, sym, length, arith}
use Rattle.std.proofs.lemmas.Bool.{leb-true, leb-false}
use Rattle.std.proofs.lemmas.Result.{IfOk-from_err}
use Rattle.refusals.specs.Number.{number}
use Rattle.refusals.proofs.Passing.{passed_on, refuses, passes, numbered}
use Rattle.reading.specs.declared.decode.DecodedFile.{DecodedFile}
use Rattle.rules.proofs.Written.{row_taken}
use Rattle.study.specs.Rows.{rows_refusal}
use Rattle.study.proofs.Least.{least_for_file}
use Rattle.study.proofs.Numbers.{rows-refused, rows_short, rows_long, left, accepted_with}
use Rattle.study.proofs.rows.Goals as goal

pub returns-in_err-decoded : goal.returns-in_err-decoded
returns-in_err-decoded c =
    let a = c.args in
    let r = c.in_err-decoded.field-0.0 in
    let told : number r ≡ rows_refusal a.file.now (length a.starts.now) (length a.runs.now) (length a.blocks.now)
    = rows-refused a.file.now _ _ _ c.in_err-decoded.ensures.refusal (numbered r) in
    let kept = left a.file.now a.starts.now a.runs.now a.blocks.now r told in
    record {
      refusal = passed_on _ _ c.from_residual.ensures.1 ∙ told;
      trains = IfOk-from_err _ _ c.from_residual.ensures.0;
      starts = kept.0;
      runs = kept.1;
      blocks = kept.2;
      least = IfOk-from_err _ _ c.from_residual.ensures.0;
    }

pub returns-in_err-unless : goal.returns-in_err-unless
returns-in_err-unless c =
    let a = c.args in
    let r = c.in_err-unless.field-0.0 in
    let trains = ap (λ (d : DecodedFile). d.trains) c.in_ok-decoded.ensures.opened in
    let (broken, own) = refuses _ _ _ c.in_err-unless.ensures in
    let told : number r ≡ rows_refusal a.file.now (length a.starts.now) (length a.runs.now) (length a.blocks.now)
    = own ∙ rows_short a.file.now _ _ _ (sym c.in_ok-decoded.ensures.refusal) (omega (arith, leb-false _ _ broken, trains, c.min.ensures, c.min-places.ensures)) in
    let kept = left a.file.now a.starts.now a.runs.now a.blocks.now r told in
    record {
      refusal = passed_on _ _ c.from_residual-in_err-unless.ensures.1 ∙ told;
      trains = IfOk-from_err _ _ c.from_residual-in_err-unless.ensures.0;
      starts = kept.0;
      runs = kept.1;
      blocks = kept.2;
      least = IfOk-from_err _ _ c.from_residual-in_err-unless.ensures.0;
    }

pub write_rows-requires : goal.write_rows-requires
write_rows-requires c =
    let trains = ap (λ (d : DecodedFile). d.trains) c.in_ok-decoded.ensures.opened in
    let room = leb-true _ _ (passes _ _ c.in_ok-unless.ensures) in
    record {
      file_value = (sym c.in_ok-decoded.ensures.refusal, c.in_ok-decoded.ensures.opened);
      file_in_bounds = (
        omega (arith, trains, room, c.min.ensures, c.min-places.ensures),
        omega (arith, trains, room, c.min.ensures, c.min-places.ensures),
        omega (arith, trains, room, c.min.ensures, c.min-places.ensures),
      );
    }

pub returns : goal.returns
returns c =
    let a = c.args in
    let ok = sym c.in_ok-decoded.ensures.refusal in
    let trains = ap (λ (d : DecodedFile). d.trains) c.in_ok-decoded.ensures.opened in
    let room = leb-true _ _ (passes _ _ c.in_ok-unless.ensures) in
    let told : 0 ≡ rows_refusal a.file.now (length a.starts.now) (length a.runs.now) (length a.blocks.now)
    = rows_long a.file.now _ _ _ ok (omega (arith, trains, room, c.min.ensures, c.min-places.ensures)) in
    let e = c.write_rows.ensures in
    let kept = accepted_with a.file.now a.starts.now a.runs.now a.blocks.now told e.0 e.1 e.2 in
    let bytes = c.type_inv.file in
    let least-starts = least_for_file a.file.now ok (λ i. omega (arith, bytes i)) in
    record {
      refusal = told;
      trains = trains;
      starts = kept.0;
      runs = kept.1;
      blocks = kept.2;
      least = rw (row_taken _ _ a.starts.now e.0) least-starts;
    }
