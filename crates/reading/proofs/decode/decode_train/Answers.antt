use mathlib.Core.Path.{◌∙◌}
use Rattle.reading.proofs.Decoding.{array_read, train_decoded}
use Rattle.reading.proofs.decode.decode_train.Goals as goal

pub returns : goal.returns
returns c = let two = c.word_at-stops.ensures.0 in
    let one = c.word_at-bands.ensures.0 in
    let at = c.record_places-places.ensures in
    let b = c.args.bytes.now in
    train_decoded b (c.from_number.ensures ∙ c.word_at.ensures.0) c.word_at-2.ensures.0 (c.from.ensures ∙ one)
    (c.from-2.ensures ∙ two) (array_read b c.words_at.ensures at.tops one) (array_read b c.words_at-2.ensures at.rates one)
    (array_read b c.words_at-3.ensures at.stops two) (array_read b c.words_at-4.ensures at.dwells two)
