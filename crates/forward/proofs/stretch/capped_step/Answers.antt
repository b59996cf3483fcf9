use native.Mathlib.Omega.{arith}
use Rattle.forward.proofs.Traction.{cap_reached}
use Rattle.forward.proofs.stretch.capped_step.Goals as goal

pub returns-then-cap-before : goal.returns-then-cap-before
returns-then-cap-before c =
    let b = c.args.bands.now in
    cap_reached b.count b.gains b.squares c.args.before.w.0 c.args.cap.0 c.requires.le_count.0 (omega (arith, c.if-cap-before.true)) c.requires.le_count.1
