use Rattle.std.proofs.Common.{◌+◌, arith}
use Rattle.std.proofs.lemmas.List.{get_or_past}
use Rattle.rules.specs.File.{word}
use Rattle.reading.proofs.words.word_at.Goals as goal

pub returns-then-at-bytes : goal.returns-then-at-bytes
unfolding word
returns-then-at-bytes c = (omega (arith, c.from_le_bytes.ensures), c.from_le_bytes.type_inv)

pub returns-else-at-bytes : goal.returns-else-at-bytes
unfolding word
returns-else-at-bytes c = (
  omega (arith, c.from.ensures, c.byte_at.ensures, get_or_past c.args.bytes.now (c.args.at + 1) 0 c.if-at-bytes.false),
  c.from.type_inv,
)
