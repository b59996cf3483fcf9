-- What a `?` passes on, and what a rule that is tested by it says. Assumes nothing.
use Rattle.std.specs.Prelude.{◌≢◌, ◌≡◌, ◌≤◌, Bool, true, false, Result, Ok, Err}
use Rattle.std.proofs.Common.{arith, refl, rules}
use Rattle.std.specs.Result.{IsErrAnd, IsOk}
use Rattle.refusals.specs.declared.Refusal.{Refusal}
use Rattle.refusals.specs.declared.Refusal.TheVariants as refusals
use Rattle.refusals.specs.Number.{number, refused_by, kept_or}

-- a refusal that leaves by `?` keeps its number
pub passed_on : {A : Type 0} (r : Result A Refusal) (e : Refusal) → IsErrAnd r (λ x. x ≡ e) → refused_by r ≡ number e
passed_on (Ok x) e h = absurd h
passed_on (Err x) e h = rw h

-- where a rule refuses, it is broken, and the refusal is its own
pub refuses : (x r : Refusal) (kept : Bool) → Err r ≡ kept_or x kept → (kept ≡ false) × (number r ≡ number x)
refuses x r true e = cc
refuses x r false e = (refl, cc)

-- where it lets pass, it is kept
pub passes : (x : Refusal) (kept : Bool) → Ok tt ≡ kept_or x kept → kept ≡ true
passes x true e = refl
passes x false e = cc

-- a rule that is tested last gives the answer
pub last_kept : {r : Result Unit Refusal} (x : Refusal) {kept : Bool} → r ≡ kept_or x kept → kept ≡ true → refused_by r ≡ 0
last_kept x e h = rw (e, h)

pub last_broken : {r : Result Unit Refusal} (x : Refusal) {kept : Bool} → r ≡ kept_or x kept → kept ≡ false → refused_by r ≡ number x
last_broken x e h = rw (e, h)

-- no refusal has the number 0, which is that of an accepted call
pub numbered : (r : Refusal) → number r ≢ 0
numbered refusals.FileTooShort = omega arith
numbered refusals.FileTooLong = omega arith
numbered refusals.Sizes = omega arith
numbered refusals.LimitPoints = omega arith
numbered refusals.Limits = omega arith
numbered refusals.Blocks = omega arith
numbered refusals.Bands = omega arith
numbered refusals.Stops = omega arith
numbered refusals.LastBlock = omega arith
numbered refusals.NoSuchTrain = omega arith
numbered refusals.TooLittleRoom = omega arith
numbered refusals.Sheet = omega arith
numbered refusals.SheetFull = omega arith
numbered refusals.Hold = omega arith
numbered refusals.Balises = omega arith
numbered refusals.Placing = omega arith
numbered refusals.NoPath = omega arith

-- a call that no rule refuses is accepted
pub accepted : {A : Type 0} (r : Result A Refusal) → refused_by r ≡ 0 → IsOk r
accepted (Ok x) z = search rules
accepted (Err r) z = absurd (numbered r z)

-- the greatest number of refusal is 17
pub most : (r : Refusal) → number r ≤ 17
most refusals.FileTooShort = omega arith
most refusals.FileTooLong = omega arith
most refusals.Sizes = omega arith
most refusals.LimitPoints = omega arith
most refusals.Limits = omega arith
most refusals.Blocks = omega arith
most refusals.Bands = omega arith
most refusals.Stops = omega arith
most refusals.LastBlock = omega arith
most refusals.NoSuchTrain = omega arith
most refusals.TooLittleRoom = omega arith
most refusals.Sheet = omega arith
most refusals.SheetFull = omega arith
most refusals.Hold = omega arith
most refusals.Balises = omega arith
most refusals.Placing = omega arith
most refusals.NoPath = omega arith
