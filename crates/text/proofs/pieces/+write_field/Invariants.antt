-- `write_field` ends: each call is on a tenth of the number.
use Rattle.text.proofs.pieces.+write_field.Given as goal

abbrev pub decreases-write_field : goal.decreases-write_field
decreases-write_field l = l.n
