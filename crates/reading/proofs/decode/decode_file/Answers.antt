use mathlib.Core.Path.{ap, ◌∙◌}
use Rattle.rules.specs.File.{word}
use Rattle.reading.proofs.Decoding.{array_read, line_decoded}
use Rattle.reading.proofs.decode.decode_file.Goals as goal

pub returns : goal.returns
returns c = let three = c.word_at-balises.ensures.0 in
    let two = c.word_at-blocks.ensures.0 in
    let one = c.word_at-limits.ensures.0 in
    let at = c.line_places-places.ensures in
    let f = c.args.file.now in
    let line = line_decoded f c.word_at.ensures.0 c.word_at-2.ensures.0 c.word_at-3.ensures.0 c.word_at-4.ensures.0
    (c.from.ensures ∙ one) (c.from-2.ensures ∙ two) (c.from-3.ensures ∙ three)
    (array_read f c.words_at.ensures at.limit_points one) (array_read f c.words_at-2.ensures at.limits one)
    (array_read f c.words_at-3.ensures at.block_starts two) (array_read f c.words_at-4.ensures at.block_ends two)
    (array_read f c.words_at-5.ensures at.balise_points three) (array_read f c.words_at-6.ensures at.balise_metres three) in
    let trains = c.from-4.ensures ∙ c.word_at-5.ensures.0 ∙ ap (word f) at.train_count in
    rw (line, trains, at.trains)
