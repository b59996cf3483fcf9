-- What a call that refuses answers. Assumes nothing.
use Rattle.std.proofs.Common.{◌≡◌, Result, Ok, Err}
use Rattle.std.specs.Result.{IsErrAnd}
use Rattle.refusals.specs.declared.Refusal.{Refusal}

-- a refusal that leaves by `?` is the answer
pub passed_as : {A : Type 0} (r : Result A Refusal) (e : Refusal) → IsErrAnd r (λ x. x ≡ e) → r ≡ Err e
passed_as (Ok x) e h = absurd h
passed_as (Err x) e h = rw h
