-- What is lent, as a walk has it: slices of bytes, and a record. Assumes `Logic`.
use Prim.Native.Nat.{ℕ}
use mathlib.Core.List.{List, [], ◌∷◌}
use lib.ListN.{length}
use seplogic.Ra.Ura.{Ura}
use mir.Syntax.{named, w8}
use mir.Val.{Val}
use base.Logic.{ent, emp}
use base.Fml.{GName, Lft, Share, ftrue, flft, fobs, fbor}
use types.Logic.{Logic}
use types.Kit.{Item, mean, ‵, raw, ◌⊛◌, ⋆, ◌$◌, ◌∵◌, !, qed, move, use1, split, join, fjoin, frame, done}
use types.SemTy.{Body}
use denote.RattleType.{RattleType, owns}
use denote.Builtin.{u8}
use denote.Memory.{mem}
use denote.Plain.{uint_row_laws}
use denote.Ref.{Bor, MutBor, as_bor}
use denote.Slice.{slice_val, MutSlice, ShrSlice, shr_slice_copy}
use denote.Steps.{nothing}

-- the machine value of a slice of bytes
abbrev pub slice : Bor (List ℕ) → Val
slice x = slice_val x.ref_ptr (length x.now)

-- a share of the token of one lifetime, as a signature that has no other asks it
abbrev pub token : {M : Type 1} (𝓤 : Ura M) → Lft → Share → Item 𝓤
token 𝓤 κ q = ‵ (flft κ q) ⊛ ‵ ftrue

-- bytes to be read, lent for a lifetime
abbrev pub bytes : {M : Type 1} (𝓤 : Ura M) → Lft → Bor (List ℕ) → Item 𝓤
bytes 𝓤 κ x = ‵ ((ShrSlice (named 0) κ u8).own_val x (slice x ∷ []))

-- bytes to be read and bytes to be written, lent for their lifetimes
abbrev pub lent : {M : Type 1} (𝓤 : Ura M) (κ₁ κ₂ : Lft) (q₁ q₂ : Share) (xs : Bor (List ℕ)) (ys : MutBor (List ℕ)) → List (Item 𝓤)
lent 𝓤 κ₁ κ₂ q₁ q₂ xs ys = (token 𝓤 κ₁ q₁ ⊛ token 𝓤 κ₂ q₂) ∷ bytes 𝓤 κ₁ xs ∷ ‵ ((MutSlice (named 1) κ₂ u8).own_val ys (slice (as_bor ys) ∷ [])) ∷ []

-- a value of type R at (b, o), lent for a lifetime by a `&mut`
abbrev pub lent-record : {M : Type 1} (𝓤 : Ura M) (R : RattleType) → Lft → Share → ℕ → ℕ → GName → R.Denot → List (Item 𝓤)
lent-record 𝓤 R κ q b o γ h = ‵ (fobs γ (R.coded.code h)) ∷ ‵ (fbor κ (Body (mem R) b o γ)) ∷ ‵ (flft κ q) ∷ []

module _ {M : Type 1} {𝓤 : Ura M} (𝓛 : Logic 𝓤) (κ : Lft) (q : Share) (s : Bor (List ℕ)) where
  -- to a function that takes the bytes alone. They are kept, since a `&[u8]` is Copy
  pub lends : ent 𝓤 (⋆ 𝓛 (token 𝓤 κ q ∷ bytes 𝓤 κ s ∷ [])) (mean 𝓛 (((token 𝓤 κ q ⊛ ‵ (owns (ShrSlice (named 0) κ u8 ∷ []) (s, tt) (slice s ∷ [], tt))) ⊛ raw (emp 𝓤)) ⊛ bytes 𝓤 κ s))
  lends =
      qed 𝓛 (token 𝓤 κ q ∷ bytes 𝓤 κ s ∷ []) ∵ move ! (1 ∷ []) $
      use1 𝓛 (bytes 𝓤 κ s ⊛ bytes 𝓤 κ s) ((shr_slice_copy 𝓛 (named 0) κ u8 (uint_row_laws w8)).twice s (slice s ∷ [])) $ split ! $
      nothing ! $ move ! (1 ∷ 0 ∷ []) $ fjoin ! $ move ! (2 ∷ 0 ∷ []) $ join ! $ nothing ! $ move ! (1 ∷ 0 ∷ []) $ join ! $ frame ! $ done !
