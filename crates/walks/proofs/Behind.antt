-- A declared type of plain data behind a reference, as a walk of code needs it: what a `&` and what a `&mut` of it owns is traded for the
-- cell, with the type's machine value in it, and back. Assumes `Logic`.
use Prim.Native.Nat.{ℕ}
use mathlib.Core.List.{[], ◌∷◌}
use seplogic.Ra.Ura.{Ura}
use base.Fraction.{full_share}
use base.Logic.{SProp, ent, sep, ex, guard}
use base.Fml.{Fml, Lft, Share, GName, fsep, flft, fobs, fauth, fbor, fobor}
use types.Logic.{Logic, sem}
use types.Kit.{Item, ‵, ◌⊛◌, mean, ◌$◌, ◌∵◌, !, qed, move, keep, split, join, fsplit3, updating, now, check, show, frame, done}
use types.SemTy.{Body}
use denote.Laws.{Is, shows}
use denote.Opens.{Shut}
use denote.Memory.{cell_at, part_at, hidden_shr, mem}
use denote.Steps.{looks, shuts, opens, closes, peeks, facts, owned}
use denote.Struct.Steps.{spelt}
use denote.Struct.Struct.{Plains}
use denote.Struct.Declared.{Declared, row, fields}
use denote.Struct.Laws as LL

module _ {M : Type 1} {𝓤 : Ura M} (𝓛 : Logic 𝓤) (T : Declared) (L : LL.Laws T) where
  open 𝓛 use {H}

  abbrev At : Share → ℕ → ℕ → T.D → SProp 𝓤
  At s b o h = sem 𝓛 (cell_at s (row T).mir (LL.vals T L h) b o)

  -- a `&`: the cell, and what is left while it is lent
  module _ (κ : Lft) (q : Share) (h : T.D) (b o : ℕ) where
    abbrev pub Looked : Share → Item 𝓤
    Looked s = ‵ ((row T).own_val h (LL.vals T L h)) ⊛ Shut 𝓛 κ q (part_at (row T) s h b o)

    pub looked : LL.Copyables T.parts → ent 𝓤 (sep 𝓤 (sem 𝓛 (hidden_shr (row T) κ h b o)) (sem 𝓛 (flft κ q)))
        (H.⇛ (guard 𝓤 (Is (row T) h (LL.vals T L h)) (ex 𝓤 (λ (s : Share). sep 𝓤 (At s b o h) (mean 𝓛 (Looked s))))))
    looked cs =
        qed 𝓛 (‵ (hidden_shr (row T) κ h b o) ∷ ‵ (flft κ q) ∷ []) ∵ updating ! $
        looks ! tt (row T) (LL.copied T cs 𝓛).opens h b o (λ s vs.
        spelt ! (row T) (Is (row T)) (shows 𝓛 (row T)) (LL.vals T L) (LL.tells T L) s h vs b o $ move ! (1 ∷ []) $
        peeks ! (row T) (Is (row T)) (shows 𝓛 (row T)) h (LL.vals T L h) (λ is. move ! (0 ∷ 2 ∷ []) $ join ! $ keep ! (1 ∷ 0 ∷ []) $
        now ! $ check ! is $ show ! (λ (u : Share). sep 𝓤 (At u b o h) (mean 𝓛 (Looked u))) s $ frame ! $ done !))

    pub shut : (s : Share) → ent 𝓤 (sep 𝓤 (At s b o h) (mean 𝓛 (Looked s))) (H.⇛ (sem 𝓛 (flft κ q)))
    shut s =
        qed 𝓛 (‵ (cell_at s (row T).mir (LL.vals T L h) b o) ∷ Looked s ∷ []) ∵ updating ! $ move ! (1 ∷ []) $ split ! $ move ! (2 ∷ 0 ∷ 1 ∷ []) $
        shuts ! tt (row T) s h (LL.vals T L h) b o $ now ! $ done !

  -- a `&mut`: the cell, and what is left while it is open
  module _ (κ : Lft) (q : Share) (γ : GName) (b o : ℕ) where
    abbrev pub Owed : T.D → Fml
    Owed h = fsep (fobs γ ((row T).coded.code h)) (fsep (fbor κ (Body (mem (row T)) b o γ)) (flft κ q))

    abbrev pub Opened : T.D → Fml
    Opened h = fsep (fobor κ q (Body (mem (row T)) b o γ)) (fsep (fobs γ ((row T).coded.code h)) (fauth γ ((row T).coded.code h)))

    pub opened : (h : T.D) →
        ent 𝓤 (sem 𝓛 (Owed h)) (H.⇛ (guard 𝓤 (Is (row T) h (LL.vals T L h)) (sep 𝓤 (At full_share b o h) (sem 𝓛 (Opened h)))))
    opened h =
        qed 𝓛 (‵ (Owed h) ∷ []) ∵ updating ! $ fsplit3 ! $ opens ! tt (row T) {h = h} b o (λ vs.
        spelt ! (row T) (Is (row T)) (shows 𝓛 (row T)) (LL.vals T L) (LL.tells T L) full_share h vs b o $ move ! (1 ∷ []) $
        facts ! (row T) (Is (row T)) (shows 𝓛 (row T)) h (LL.vals T L h) (λ is.
        now ! $ check ! is $ frame ! $ done !))

    pub closed : Plains (fields T) → (h h' : T.D) → Is (row T) h' (LL.vals T L h') →
        ent 𝓤 (sep 𝓤 (At full_share b o h') (sem 𝓛 (Opened h))) (H.⇛ (sem 𝓛 (Owed h')))
    closed pl h h' is =
        qed 𝓛 (‵ (cell_at full_share (row T).mir (LL.vals T L h') b o) ∷ ‵ (Opened h) ∷ []) ∵ updating ! $ move ! (1 ∷ []) $ fsplit3 ! $
        owned ! (row T) (Is (row T)) (LL.makes T pl 𝓛) h' (LL.vals T L h') is $ move ! (4 ∷ 0 ∷ []) $
        closes ! tt (row T) h' (LL.vals T L h') b o $ now ! $ done !
