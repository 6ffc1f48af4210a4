-- At return a function's locals are freed, all at once: behind the first entries of the context stand their cells, the last local's first. Assumes `Logic`.
use mathlib.Core.Path.{◌≡◌, subst, sym}
use mathlib.Core.List.{List, [], ◌∷◌, ◌++◌}
use mathlib.Core.Option.{Option, none, some}
use Prim.Native.Nat.{ℕ, zero, suc}
use seplogic.Ra.Ura.{Ura}
use base.Fraction.{full_share}
use mir.Syntax.{Ty}
use mir.Val.{Val}
use base.Logic.{SProp, ent, sep, emp, id⊢, via, comm∗, assoc∗, assoc', mono∗, mono_l, mono_r, fst∗}
use base.Fml.{fat, froom, fdies}
use prog.Wp.{Env, release}
use types.Logic.{Logic}
use sound.Laws.{Laws}
use types.Kit.{Item, ‵, mean, ⋆, pop, ⊢++, Goal, frees, aim, Step, step, by}

module _ {M : Type 1} {𝓤 : Ura M} where
  abbrev pub front : ℕ → List (Item 𝓤) → List (Item 𝓤)
  front zero Γ = []
  front (suc k) [] = []
  front (suc k) (i ∷ Γ) = i ∷ front k Γ

module _ {M : Type 1} {𝓤 : Ura M} (𝓛 : Logic 𝓤) where
  -- a local's cell, of the value that it holds, if any
  open 𝓛 use {H}

  abbrev cell : Ty × ℕ → Option Val → Item 𝓤
  cell e none = ‵ (froom e.0 e.1 0)
  cell e (some v) = ‵ (fat full_share e.0 e.1 0 v)

  abbrev with : Ty × ℕ → Option Val → List (Item 𝓤) → List (Item 𝓤)
  with e v Δ = cell e v ∷ ‵ (fdies e.0 e.1) ∷ Δ

  -- the entries of locals, and behind them Δ. One past the list of values holds none
  abbrev pub entries : Env 𝓤 H → List (Option Val) → List (Item 𝓤) → List (Item 𝓤)
  entries [] vs Δ = Δ
  entries (e ∷ E) [] Δ = entries E [] (with e none Δ)
  entries (e ∷ E) (v ∷ vs) Δ = entries E vs (with e v Δ)

  abbrev ◌∗◌ : SProp 𝓤 → SProp 𝓤 → SProp 𝓤
  P ∗ Q = sep 𝓤 P Q

  infixr 35 ◌∗◌
  abbrev gone : Ty × ℕ → SProp 𝓤
  gone e = H.room e.0 e.1 0 ∗ H.dies e.0 e.1

  room : Laws 𝓤 H → (e : Ty × ℕ) (v : Option Val) → ent 𝓤 (mean 𝓛 (cell e v)) (H.room e.0 e.1 0)
  room L e none = id⊢ 𝓤 (H.room e.0 e.1 0)
  room L e (some v) = L.at_room e.0 e.1 0 v

  release-mono : (E : Env 𝓤 H) (P Q : SProp 𝓤) → ent 𝓤 P Q → ent 𝓤 (release 𝓤 H E P) (release 𝓤 H E Q)
  release-mono [] P Q h = h
  release-mono (e ∷ E) P Q h = mono_r 𝓤 (gone e) (release-mono E P Q h)

  swap : (P Q R : SProp 𝓤) → ent 𝓤 (P ∗ Q ∗ R) (Q ∗ P ∗ R)
  swap P Q R = via 𝓤 ((P ∗ Q) ∗ R) (assoc' 𝓤 P Q R) (via 𝓤 ((Q ∗ P) ∗ R) (mono_l 𝓤 R (comm∗ 𝓤 P Q)) (assoc∗ 𝓤 Q P R))

  release-out : (E : Env 𝓤 H) (P Q : SProp 𝓤) → ent 𝓤 (release 𝓤 H E (P ∗ Q)) (P ∗ release 𝓤 H E Q)
  release-out [] P Q = id⊢ 𝓤 (P ∗ Q)
  release-out (e ∷ E) P Q = via 𝓤 (gone e ∗ P ∗ release 𝓤 H E Q) (mono_r 𝓤 (gone e) (release-out E P Q)) (swap (gone e) P (release 𝓤 H E Q))

  release-in : (E : Env 𝓤 H) (P Q : SProp 𝓤) → ent 𝓤 (P ∗ release 𝓤 H E Q) (release 𝓤 H E (P ∗ Q))
  release-in [] P Q = id⊢ 𝓤 (P ∗ Q)
  release-in (e ∷ E) P Q = via 𝓤 (gone e ∗ P ∗ release 𝓤 H E Q) (swap P (gone e) (release 𝓤 H E Q)) (mono_r 𝓤 (gone e) (release-in E P Q))

  first-gone : Laws 𝓤 H → (e : Ty × ℕ) (v : Option Val) (Δ : List (Item 𝓤)) → ent 𝓤 (⋆ 𝓛 (with e v Δ)) (gone e ∗ ⋆ 𝓛 Δ)
  first-gone L e v Δ =
      via 𝓤 (H.room e.0 e.1 0 ∗ H.dies e.0 e.1 ∗ ⋆ 𝓛 Δ) (mono∗ 𝓤 (room L e v) (pop 𝓛 (‵ (fdies e.0 e.1)) Δ))
      (assoc' 𝓤 (H.room e.0 e.1 0) (H.dies e.0 e.1) (⋆ 𝓛 Δ))

  then-gone : Laws 𝓤 H → (e : Ty × ℕ) (v : Option Val) (E : Env 𝓤 H) (Δ : List (Item 𝓤)) → ent 𝓤 (release 𝓤 H E (⋆ 𝓛 (with e v Δ))) (release 𝓤 H (e ∷ E) (⋆ 𝓛 Δ))
  then-gone L e v E Δ = via 𝓤 (release 𝓤 H E (gone e ∗ ⋆ 𝓛 Δ)) (release-mono E (⋆ 𝓛 (with e v Δ)) (gone e ∗ ⋆ 𝓛 Δ) (first-gone L e v Δ)) (release-out E (gone e) (⋆ 𝓛 Δ))

  freed : Laws 𝓤 H → (E : Env 𝓤 H) (vs : List (Option Val)) (Δ : List (Item 𝓤)) → ent 𝓤 (⋆ 𝓛 (entries E vs Δ)) (release 𝓤 H E (⋆ 𝓛 Δ))
  freed L [] vs Δ = id⊢ 𝓤 (⋆ 𝓛 Δ)
  freed L (e ∷ E) [] Δ = via 𝓤 (release 𝓤 H E (⋆ 𝓛 (with e none Δ))) (freed L E [] (with e none Δ)) (then-gone L e none E Δ)
  freed L (e ∷ E) (v ∷ vs) Δ = via 𝓤 (release 𝓤 H E (⋆ 𝓛 (with e v Δ))) (freed L E vs (with e v Δ)) (then-gone L e v E Δ)

module _ {M : Type 1} {𝓤 : Ura M} {𝓛 : Logic 𝓤} {K : Type 0} {Γ : List (Item 𝓤)} where
  -- the first k entries stay
  open 𝓛 use {H}

  pub frees_all : K → (k : ℕ) {g : Goal 𝓤 H} {E : Env 𝓤 H} (vs : List (Option Val)) → Γ ≡ front k Γ ++ entries 𝓛 E vs [] → Step K 𝓛 (front k Γ) g Γ (frees E g)
  frees_all t k {g} {E} vs is =
      let kept = ⋆ 𝓛 (front k Γ) in
      step (λ s. by t (subst (λ (Δ : List (Item 𝓤)). ent 𝓤 (⋆ 𝓛 Δ) (release 𝓤 H E (aim 𝓤 H g))) (sym is)
      (via 𝓤 (sep 𝓤 kept (⋆ 𝓛 (entries 𝓛 E vs []))) (⊢++ 𝓛 (front k Γ) (entries 𝓛 E vs []))
      (via 𝓤 (sep 𝓤 kept (release 𝓤 H E (emp 𝓤))) (mono_r 𝓤 kept (freed 𝓛 𝓛.laws E vs []))
      (via 𝓤 (release 𝓤 H E (sep 𝓤 kept (emp 𝓤))) (release-in 𝓛 E kept (emp 𝓤))
      (release-mono 𝓛 E (sep 𝓤 kept (emp 𝓤)) (aim 𝓤 H g) (via 𝓤 kept (fst∗ 𝓤 kept (emp 𝓤)) s.prf)))))))
