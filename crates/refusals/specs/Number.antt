-- The numbers of refusal, and the number of what a call answers.
use Rattle.std.specs.Prelude.{ℕ, Bool, cond, Result, Ok, Err}
use Rattle.refusals.specs.declared.Refusal.{Refusal}
use Rattle.refusals.specs.declared.Refusal.TheVariants as refusals

abbrev pub number : Refusal → ℕ
number refusals.FileTooShort = 1
number refusals.FileTooLong = 2
number refusals.Sizes = 3
number refusals.LimitPoints = 4
number refusals.Limits = 5
number refusals.Blocks = 6
number refusals.Bands = 7
number refusals.Stops = 8
number refusals.LastBlock = 9
number refusals.NoSuchTrain = 10
number refusals.TooLittleRoom = 11
number refusals.Sheet = 12
number refusals.SheetFull = 13
number refusals.Hold = 14
number refusals.Balises = 15
number refusals.Placing = 16
number refusals.NoPath = 17

-- the number by which a call is refused, and 0 where it is accepted
abbrev pub refused_by : {A : Type 0} → Result A Refusal → ℕ
refused_by (Ok _) = 0
refused_by (Err r) = number r

-- accepted where the rule is kept
abbrev pub kept_or : Refusal → Bool → Result Unit Refusal
kept_or r kept = cond kept (Ok tt) (Err r)
