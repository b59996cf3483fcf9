-- Document 01, "Numbers of refusal, in checking order", with 15 to 17 of document 02: which refusal each number is, and that the number settles
-- the refusal. Each entry is proved by computation. Assumes nothing.
use Prim.Native.Nat.{ℕ, ◌-◌}
use mathlib.Core.List.{List, [], ◌∷◌}
use mathlib.Core.Path.{◌≡◌, refl, sym, ap, ◌∙◌}
use lib.ListN.{get_or}
use Rattle.refusals.specs.declared.Refusal.{Refusal}
use Rattle.refusals.specs.declared.Refusal.TheVariants.{FileTooShort, FileTooLong, Sizes, LimitPoints, Limits, Blocks, Bands, Stops, LastBlock, NoSuchTrain, TooLittleRoom, Sheet, SheetFull, Hold, Balises, Placing, NoPath}
use Rattle.refusals.specs.Number.{number}

-- the refusals in the order of their numbers, from 1 on
all : List Refusal
all =
    FileTooShort ∷ FileTooLong ∷ Sizes ∷ LimitPoints ∷ Limits ∷ Blocks ∷ Bands ∷ Stops ∷ LastBlock ∷ NoSuchTrain ∷ TooLittleRoom ∷ Sheet ∷ SheetFull ∷ Hold
    ∷ Balises ∷ Placing ∷ NoPath ∷ []

by_number : ℕ → Refusal
by_number n = get_or all (n - 1) FileTooShort

pub record Refusals : Type 0 where
  pub file_ends_early : number FileTooShort ≡ 1
  pub bytes_follow : number FileTooLong ≡ 2
  pub sizes : number Sizes ≡ 3
  pub limit_points : number LimitPoints ≡ 4
  pub limits : number Limits ≡ 5
  pub blocks : number Blocks ≡ 6
  pub bands : number Bands ≡ 7
  pub stops : number Stops ≡ 8
  pub last_block : number LastBlock ≡ 9
  pub train_number : number NoSuchTrain ≡ 10
  pub lent_room : number TooLittleRoom ≡ 11
  pub sheet : number Sheet ≡ 12
  pub full_sheet : number SheetFull ≡ 13
  pub hold : number Hold ≡ 14
  pub balises : number Balises ≡ 15
  pub placed_rows : number Placing ≡ 16
  pub no_path : number NoPath ≡ 17

pub refusals : Refusals
refusals =
    record {
      file_ends_early = refl;
      bytes_follow = refl;
      sizes = refl;
      limit_points = refl;
      limits = refl;
      blocks = refl;
      bands = refl;
      stops = refl;
      last_block = refl;
      train_number = refl;
      lent_room = refl;
      sheet = refl;
      full_sheet = refl;
      hold = refl;
      balises = refl;
      placed_rows = refl;
      no_path = refl;
    }

found_by : (r : Refusal) → by_number (number r) ≡ r
unfolding by_number all
found_by FileTooShort = refl
found_by FileTooLong = refl
found_by Sizes = refl
found_by LimitPoints = refl
found_by Limits = refl
found_by Blocks = refl
found_by Bands = refl
found_by Stops = refl
found_by LastBlock = refl
found_by NoSuchTrain = refl
found_by TooLittleRoom = refl
found_by Sheet = refl
found_by SheetFull = refl
found_by Hold = refl
found_by Balises = refl
found_by Placing = refl
found_by NoPath = refl

-- no two refusals have one number
pub one_each : (r s : Refusal) → number r ≡ number s → r ≡ s
one_each r s e = sym (found_by r) ∙ ap by_number e ∙ found_by s
