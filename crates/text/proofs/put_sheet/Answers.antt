-- `put_sheet` meets its contract: the header, and the lines behind it.
use Rattle.std.proofs.Common.{◌≡◌, ◌+◌, true, false, sym, refl, ap, length, arith, ◌∙◌}
use Rattle.std.proofs.lemmas.Result.{IfOk-from_err}
use Rattle.refusals.proofs.Passing.{passed_on}
use Rattle.refusals.specs.declared.Refusal.TheVariants as refusals
use Rattle.refusals.specs.Number.{number}
use Rattle.rules.specs.Text.{header}
use Rattle.text.specs.Columns.{lines_of}
use Rattle.text.specs.Text.{lines_text, rows_text, sheet_refusal, room_refusal, equal_counts}
use Rattle.text.proofs.Placed.{placed_then}
use Rattle.text.proofs.Room.{left, wrote_all, unless_short, unless_fits, room_there}
use Rattle.text.proofs.Rows.{rows-length, counts_kept, counts_refused}
use Rattle.text.proofs.put_sheet.Goals as goal

pub returns-in_err-columns : goal.returns-in_err-columns
returns-in_err-columns c =
    let a = c.args in
    let e = c.in_err-columns.ensures in
    let none : equal_counts (length a.starts.now) (length a.runs.now) (length a.blocks.now) ≡ false = sym (e.variant ∙ c.new.ensures.counted) in
    let room : c.in_err-columns.field-0.0 ≡ refusals.TooLittleRoom = cc (rw e.ok_part at e.value) in
    let told : number c.in_err-columns.field-0.0 ≡ sheet_refusal a.starts.now a.runs.now a.blocks.now (length a.buf.now)
    = ap number room ∙ counts_refused a.starts.now a.runs.now a.blocks.now (length a.buf.now) none in
    record { refusal = passed_on _ _ c.from_residual.ensures.1 ∙ told; count = IfOk-from_err _ _ c.from_residual.ensures.0; bytes = left _ _ _ told }

pub returns-in_err-unless : goal.returns-in_err-unless
returns-in_err-unless c =
    let a = c.args in
    let all : equal_counts (length a.starts.now) (length a.runs.now) (length a.blocks.now) ≡ true = sym (c.in_ok-columns.ensures.variant ∙ c.new.ensures.counted) in
    let same = rw c.in_ok-columns.ensures.ok_part at c.new.ensures.same in
    let lines : lines_of c.in_ok-columns.columns ≡ lines_text a.starts.now a.runs.now a.blocks.now = rw (same.0, same.1, same.2) refl in
    let long : 22 + c.text_length.result ≡ length (rows_text a.starts.now a.runs.now a.blocks.now)
    = omega (arith, c.text_length.ensures.0, rw lines at c.text_length.ensures.0, rows-length a.starts.now a.runs.now a.blocks.now) in
    let told : number c.in_err-unless.field-0.0 ≡ sheet_refusal a.starts.now a.runs.now a.blocks.now (length a.buf.now)
    = unless_short _ _ long c.in_err-unless.ensures ∙ sym (counts_kept a.starts.now a.runs.now a.blocks.now (length a.buf.now) all) in
    record { refusal = passed_on _ _ c.from_residual-in_err-unless.ensures.1 ∙ told; count = IfOk-from_err _ _ c.from_residual-in_err-unless.ensures.0; bytes = left _ _ _ told }

pub returns : goal.returns
unfolding rows_text header
returns c =
    let a = c.args in
    let all : equal_counts (length a.starts.now) (length a.runs.now) (length a.blocks.now) ≡ true = sym (c.in_ok-columns.ensures.variant ∙ c.new.ensures.counted) in
    let same = rw c.in_ok-columns.ensures.ok_part at c.new.ensures.same in
    let lines : lines_of c.in_ok-columns.columns ≡ lines_text a.starts.now a.runs.now a.blocks.now = rw (same.0, same.1, same.2) refl in
    let long : 22 + c.text_length.result ≡ length (rows_text a.starts.now a.runs.now a.blocks.now)
    = omega (arith, c.text_length.ensures.0, rw lines at c.text_length.ensures.0, rows-length a.starts.now a.runs.now a.blocks.now) in
    let fits : 0 ≡ room_refusal (rows_text a.starts.now a.runs.now a.blocks.now) (length a.buf.now) = unless_fits _ _ long c.in_ok-unless.ensures in
    let told : 0 ≡ sheet_refusal a.starts.now a.runs.now a.blocks.now (length a.buf.now)
    = fits ∙ sym (counts_kept a.starts.now a.runs.now a.blocks.now (length a.buf.now) all) in
    let there = room_there _ _ (sym fits) in
    let said = wrote_all _ _ (sym told) (placed_then (omega (arith, there, long)) c.write_bytes-at.ensures (rw lines at c.write.ensures)) in
    record { refusal = told; count = said.0; bytes = said.1 }
