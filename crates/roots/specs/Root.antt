-- What the root in the code stands for in the rules.
use Rattle.rules.specs.Time.{Root}
use Rattle.roots.specs.declared.RootAnswer.{RootAnswer}

abbrev pub as_root : RootAnswer → Root
as_root r = record { number = r.speed.0; left = r.left }
