use mathlib.Core.Path.{refl}
use native.Mathlib.Numerals.{add-one}
use native.Mathlib.Omega.{arith}
use lib.ListN.{get_or-replicate}
use Rattle.rules.proofs.Fill.{fill_none, fill_up, fill_padded}
use Rattle.caps.specs.Caps.{places_of}
use Rattle.caps.proofs.places.places_of.Goals as goal

pub loop-k-init : goal.loop-k-init
loop-k-init c = fill_none _ _ _

pub loop-k-preserved : goal.loop-k-preserved
loop-k-preserved c = fill_up c.loop-k.invariant (omega arith) (add-one _) (omega arith) c.place_of.ensures.0

pub returns : goal.returns
unfolding places_of
returns c = let at = fill_padded c.min-count.result 64 c.loop-k.invariant (omega arith) refl (λ k h. get_or-replicate 64 k 0 0 h) in
    rw (at, c.min-count.ensures)
