use native.Mathlib.Omega.{arith}
use Rattle.forward.proofs.Traction.{band_gives}
use Rattle.forward.proofs.bands.Bands.traction_step.Goals as goal

pub returns-then-drawn-self : goal.returns-then-drawn-self
returns-then-drawn-self c =
    let b = c.args.self.now in
    band_gives b.count b.gains b.squares c.args.w.0 c.args.band (b.falls c.if-self.true) (omega arith) c.requires.by_index (omega arith)
