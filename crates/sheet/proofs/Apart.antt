-- A cursor taken apart, as the walks of `count` and `figure` need it: what it owns gives what its slice and its place own, and is
-- kept, since the struct is Copy. Assumes nothing.
use Rattle.std.proofs.Common.{◌≡◌, ℕ, ◌^◌, ◌<◌, List, [], ◌∷◌, refl, w64}
use seplogic.Ra.Ura.{Ura}
use mir.Syntax.{named}
use mir.Val.{Val, vint}
use base.Logic.{ent, emp}
use base.Fml.{Lft, Share, Fml}
use types.Logic.{Logic, sem}
use contract.Lifetimes.{Lfts}
use types.Kit.{mean, ‵, raw, ◌⊛◌, given, ⋆, ◌$◌, ◌∵◌, !, qed, by, move, drop, use1, split, join, learn, fsplit, fjoin, frame, done}
use denote.RattleType.{RattleType, owns}
use denote.Laws.{Is}
use denote.Plain.{uint_Makes}
use denote.Builtin.{u8, usize}
use denote.Signature.{named_lft}
use denote.Slice.{ShrSlice}
use denote.Steps.{owned, nothing}
use denote.Struct.Declared.{Declared}
use denote.Struct.Laws as LL
use denote.Struct.Rest.{all_own, field_own, rest, own_open, own_out, own_put}
use denote.Struct.Values.{Values}
use Rattle.walks.proofs.Lent.{slice, token}
use Rattle.sheet.specs.Step.{moved}
use Rattle.sheet.specs.declared.Cursor.{Cursor}
use Rattle.sheet.specs.contracts.Cursor as T
use Rattle.sheet.proofs.Cursor.TheLaws as T'

-- the struct's type, over the signature's lifetimes
abbrev pub B : Lfts 1 → RattleType
B κs = T.the_row (named_lft 1 0 tt κs)

-- the machine values of a cursor, and of its parts
abbrev pub mach : Cursor → Val
mach d = T'.lowered d

abbrev pub passed : Cursor → List Val × (List Val × Unit {0})
passed d = (slice d.sheet ∷ [], (vint w64 d.at ∷ [], tt))

abbrev pub Own : Lft → Cursor → Fml
Own κ d = (B (κ, tt)).own_val d (mach d ∷ [])

module _ {M : Type 1} {𝓤 : Ura M} (𝓛 : Logic 𝓤) (κ : Lft) (q : Share) (d : Cursor) where
  abbrev D : Declared
  D = T.the_type (named_lft 1 0 tt (κ, tt))

  abbrev L : LL.Laws D
  L = T'.the_laws (named_lft 1 0 tt (κ, tt))

  abbrev vd : Values D.parts
  vd = (d.sheet, (d.at, tt))

  pub apart : d.at < 2 ^ 64 → ent 𝓤 (⋆ 𝓛 (token 𝓤 κ q ∷ ‵ (owns (B (κ, tt) ∷ []) (d, tt) (mach d ∷ [], tt)) ∷ []))
      (mean 𝓛 (((token 𝓤 κ q ⊛ ‵ (owns (ShrSlice (named 0) κ u8 ∷ usize ∷ []) (d.sheet, (d.at, tt)) (passed d))) ⊛ raw (emp 𝓤)) ⊛ ‵ (Own κ d)))
  apart fits =
      qed 𝓛 (token 𝓤 κ q ∷ ‵ (owns (B (κ, tt) ∷ []) (d, tt) (mach d ∷ [], tt)) ∷ []) ∵
      move ! (1 ∷ []) $ fsplit ! $ move ! (1 ∷ []) $ drop ! $
      use1 𝓛 (‵ (Own κ d) ⊛ ‵ (Own κ d)) ((LL.copy D (T'.the_copy (named_lft 1 0 tt (κ, tt))) 𝓛).twice d (mach d ∷ [])) $ split ! $
      use1 𝓛 (given (mach d ∷ [] ≡ mach d ∷ []) (‵ (all_own D.parts L vd))) (own_open 𝓛 D L vd (mach d)) $ learn ! (λ _.
      use1 𝓛 (‵ (field_own D.parts L 0 d.sheet) ⊛ ‵ (rest D.parts L 0 vd)) (own_out 𝓛 D.parts L 0 vd) $ split ! $
      -- [what the slice owns; what the place owns; what the struct owns; the token]
      move ! (1 ∷ []) $ drop ! $ nothing ! $ owned ! usize (Is usize) (uint_Makes 𝓛 w64) d.at _ (refl, fits) $ fjoin ! $ move ! (1 ∷ 0 ∷ []) $ fjoin ! $
      move ! (2 ∷ 0 ∷ []) $ join ! $ nothing ! $ move ! (1 ∷ 0 ∷ []) $ join ! $ frame ! $ done !)

  -- what a cursor owns gives what the cursor at another place of its sheet owns
  pub goes_on : (n : ℕ) → n < 2 ^ 64 → ent 𝓤 (sem 𝓛 (Own κ d)) (mean 𝓛 (‵ (Own κ d) ⊛ ‵ (Own κ (moved d n))))
  goes_on n fits =
      qed 𝓛 (‵ (Own κ d) ∷ []) ∵
      use1 𝓛 (‵ (Own κ d) ⊛ ‵ (Own κ d)) ((LL.copy D (T'.the_copy (named_lft 1 0 tt (κ, tt))) 𝓛).twice d (mach d ∷ [])) $ split ! $ frame ! $
      owned ! usize (Is usize) (uint_Makes 𝓛 w64) n _ (refl, fits) $ move ! (1 ∷ 0 ∷ []) $ by ! (own_put 𝓛 D L 1 vd n (mach d))
