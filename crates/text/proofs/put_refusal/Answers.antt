-- `put_refusal` meets its contract: the word, and the number behind it.
use Rattle.std.proofs.Common.{sym, length, arith, ◌∙◌}
use Rattle.std.proofs.lemmas.Result.{IfOk-from_err}
use Rattle.refusals.proofs.Passing.{passed_on}
use Rattle.rules.specs.Text.{refusal_text}
use Rattle.rules.proofs.Lengths.{field-length, refusal-length}
use Rattle.text.proofs.Placed.{placed_then}
use Rattle.text.proofs.Room.{left, wrote_all, unless_short, unless_fits, room_there}
use Rattle.text.proofs.put_refusal.Goals as goal

pub returns-in_err-unless : goal.returns-in_err-unless
returns-in_err-unless c =
    let told = unless_short (refusal_text c.args.number) (length c.args.buf.now) (omega (arith, refusal-length c.args.number)) c.in_err-unless.ensures in
    record {
      refusal = passed_on _ _ c.from_residual.ensures.1 ∙ told;
      count = IfOk-from_err _ _ c.from_residual.ensures.0;
      bytes = left _ _ _ told;
    }

pub write_field-requires : goal.write_field-requires
write_field-requires c =
    let number = c.args.number in
    let fits = unless_fits (refusal_text number) (length c.args.buf.now) (omega (arith, refusal-length c.args.number)) c.in_ok-unless.ensures in
    let room = room_there (refusal_text number) (length c.args.buf.now) (sym fits) in
    omega (arith, refusal-length number, field-length number 10)

pub returns : goal.returns
unfolding refusal_text
returns c =
    let number = c.args.number in
    let fits = unless_fits (refusal_text number) (length c.args.buf.now) (omega (arith, refusal-length number)) c.in_ok-unless.ensures in
    let room = room_there (refusal_text number) (length c.args.buf.now) (sym fits) in
    let said =
    wrote_all _ _ (sym fits)
    (placed_then (omega (arith, room, refusal-length number, field-length number 10)) c.write_bytes-at.ensures c.write_field.ensures) in
    record { refusal = fits; count = said.0; bytes = said.1 }
