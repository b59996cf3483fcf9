-- `decimal_length` ends: each call is on a tenth of the number.
use Rattle.text.proofs.lengths.+decimal_length.Given as goal

abbrev pub decreases-decimal_length : goal.decreases-decimal_length
decreases-decimal_length l = l.n
