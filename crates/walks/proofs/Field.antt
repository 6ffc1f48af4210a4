-- A field of a struct's cell, at a type that is told by an equation: so a large type is compared by its name. Assumes `Logic`.
use mathlib.Core.Path.{◌≡◌, sym, subst}
use mathlib.Core.Option.{some}
use Prim.Native.Nat.{ℕ, ◌+◌}
use seplogic.Ra.Ura.{Ura}
use mir.Syntax.{Sym, Ty, Tys, ty_struct}
use mir.Val.{Val, vstruct, Vals}
use mir.Fields.{get_v, set_v}
use base.Fml.{Share}
use prog.Memory.{field_of}
use types.Logic.{Logic}
use types.Kit.{Item}
use types.Part.{Part, sub}

-- the type is a struct's
pub record IsStruct (σ : Ty) : Type 0 where
  pub name : Sym
  pub fields : Tys
  pub is : σ ≡ ty_struct name fields

module _ {M : Type 1} {𝓤 : Ura M} {𝓛 : Logic 𝓤} {K : Type 0} where
  -- of a struct's cell within an entry
  pub sub_in : K → (σ : Ty) → IsStruct σ → (k : ℕ) (τ : Ty) (d : ℕ) → field_of σ k ≡ some (τ, d) → {i : Item 𝓤} {q : Share} {b o : ℕ} {vs : Vals} {back : Val → Item 𝓤}
      → Part K 𝓛 i q σ b o (vstruct vs) back → Part K 𝓛 i q τ b (o + d) (get_v vs k) (λ u. back (vstruct (set_v vs k u)))
  sub_in t σ w k τ d at {i} {q} {b} {o} {vs} {back} p =
      subst (λ (s : Ty). field_of s k ≡ some (τ, d) → Part K 𝓛 i q s b o (vstruct vs) back → Part K 𝓛 i q τ b (o + d) (get_v vs k) (λ u. back (vstruct (set_v vs k u)))) (sym w.is) (λ f q. sub t k f q) at p
