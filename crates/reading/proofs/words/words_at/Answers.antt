use lib.ListN.{get_or-replicate}
use native.Mathlib.Numerals.{add-one}
use native.Mathlib.Omega.{arith}
use mathlib.Core.Path.{refl}
use Rattle.rules.specs.File.{words}
use Rattle.rules.proofs.Fill.{fill_up, fill_padded}
use Rattle.reading.proofs.words.words_at.Goals as goal

pub loop-i-preserved : goal.loop-i-preserved
loop-i-preserved c = fill_up c.loop-i.invariant (omega arith) (add-one _) (omega arith) c.word_at.ensures.0

pub returns : goal.returns
unfolding words
returns c = fill_padded _ 64 c.loop-i.invariant (omega arith) refl (λ k h. get_or-replicate 64 k 0 0 h)
