use Rattle.std.proofs.Common.{◌≡◌, refl, ap, length, arith}
use Rattle.rules.specs.Text.{joined}
use Rattle.rules.proofs.Written.{joined_length}
use Rattle.text.specs.Text.{line_at, lines_text}
use Rattle.text.proofs.columns.Columns.text_length.Goals as goal

pub loop-k-init : goal.loop-k-init
unfolding joined
loop-k-init c = (refl, omega arith)

pub loop-k-preserved : goal.loop-k-preserved
loop-k-preserved c =
    let a = c.args.self in
    let more = joined_length (line_at a.starts.now a.runs.now a.blocks.now) c.loop-k.k in
    (omega (arith, ap length c.row.ensures), omega arith)

pub returns : goal.returns
unfolding lines_text
returns c =
    let all : c.loop-k.k ≡ length c.args.self.starts.now = omega arith in
    (rw all at c.loop-k.invariant.0, omega arith)
