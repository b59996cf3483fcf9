use Prim.Native.Nat.{◌+◌, ◌*◌}
use Rattle.rules.specs.File.{word}
use Rattle.rules.proofs.Fill.{Filled}
use Rattle.reading.proofs.words.words_at.Given as goal

abbrev pub invariant-loop-i : goal.invariant-loop-i
invariant-loop-i l = Filled (λ k. word l.bytes (l.at + 2 * k)) 0 l.i l.initial.numbers l.numbers
