-- `refusal_printed` meets its contract: the refusal's text always fits.
use Rattle.std.proofs.Common.{◌≡◌, ◌≤◌, ◌∙◌, ℕ, arith, length}
use Rattle.std.proofs.lemmas.Result.{IfOk-at_ok}
use Rattle.refusals.proofs.Passing.{accepted, most}
use Rattle.rules.specs.Text.{refusal_text}
use Rattle.rules.proofs.Room.{refusal-fits}
use Rattle.study_text.proofs.Texts.{room_kept, printed}
use Rattle.study_text.proofs.refusal_printed.Goals as goal

-- the text of any refusal fits
fits : (n : ℕ) → n ≤ 17 → length (refusal_text n) ≤ 2390
fits n h = refusal-fits n (omega arith)

pub unwrap-bytes-requires : goal.unwrap-bytes-requires
unwrap-bytes-requires c =
    let text = refusal_text c.number.result in
    accepted _ (c.put_refusal.ensures.refusal ∙ room_kept text 2390 (fits c.number.result (omega (arith, most c.args.refusal, c.number.ensures))))

pub returns : goal.returns
returns c =
    let text = refusal_text c.number.result in
    let short = fits c.number.result (omega (arith, most c.args.refusal, c.number.ensures)) in
    rw (← c.number.ensures) (
      printed text 2390 short (room_kept text 2390 short) c.put_refusal.ensures.bytes,
      IfOk-at_ok (λ bytes. bytes ≡ length text) c.unwrap-bytes.ensures c.put_refusal.ensures.count,
    )
