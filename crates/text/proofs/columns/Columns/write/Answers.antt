use Rattle.std.proofs.Common.{◌≡◌, refl, ap, length, arith}
use Rattle.rules.specs.Text.{joined}
use Rattle.rules.proofs.Written.{joined-within}
use Rattle.text.specs.Text.{line_at, lines_text}
use Rattle.text.proofs.Placed.{placed-none, joined-placed}
use Rattle.text.proofs.columns.Columns.write.Goals as goal

pub loop-k-init : goal.loop-k-init
unfolding joined
loop-k-init c = (refl, placed-none)

pub write-next-requires : goal.write-next-requires
unfolding lines_text
write-next-requires c =
    let a = c.args.self in
    let room = joined-within (line_at a.starts.now a.runs.now a.blocks.now) c.loop-k.k (length a.starts.now) (omega arith) in
    omega (arith, ap length c.row.ensures)

pub loop-k-preserved : goal.loop-k-preserved
unfolding lines_text
loop-k-preserved c =
    (omega arith, joined-placed _ _ _ c.requires (omega arith) c.loop-k.invariant.1 (rw c.row.ensures at c.write-next.ensures))

pub returns : goal.returns
unfolding lines_text
returns c =
    let all : c.loop-k.k ≡ length c.args.self.starts.now = omega arith in
    rw all at c.loop-k.invariant.1
