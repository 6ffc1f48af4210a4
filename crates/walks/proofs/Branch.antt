-- A branch of a walk on a bool in a local, and the end of an arm: the code after the branch runs. Assumes `Logic`.
use mathlib.Core.Path.{◌≡◌, sym, ap, ◌∙◌, subst}
use mathlib.Core.Bool.{Bool, true, false}
use mathlib.Core.List.{List, [], ◌∷◌}
use Prim.Native.Nat.{ℕ}
use seplogic.Ra.Ura.{Ura}
use lib.Ieee.Bits.{is_true, is_false}
use mir.Syntax.{Place, place, copy, Body, skip, assign, cond, Rv as RValue}
use mir.Val.{Val}
use base.Logic.{SProp}
use prog.Wp.{Env, Calls, Loops, Spot, spot_of, Wp, after_seq}
use types.Logic.{Logic}
use types.Kit.{Item, Post, any_q, at_ret, post, runs, Seq, Step, step, ◌$◌}
use types.Run.{Reads, Writes, Finds, Rv, from, stop, load, branches, skips, assigns_last, exec}
use denote.Builtin.{bool}
use denote.Laws.{Is}
use denote.Steps.{only}

module _ {M : Type 1} {𝓤 : Ura M} {𝓛 : Logic 𝓤} {K : Type 0} {Γ : List (Item 𝓤)} {E : Env 𝓤 𝓛.H} {C : Calls 𝓤 𝓛.H} {Λ : Loops 𝓤 𝓛.H} where
  -- on c, which is known to be s
  open 𝓛 use {H}

  pub branches-on : K → {q : Post 𝓤 H} {i : ℕ} {yes no : Body} {v : Val} {c s : Bool} → Reads K 𝓛 Γ (spot_of 𝓤 H E i).0 (spot_of 𝓤 H E i).1 (spot_of 𝓤 H E i).2 v → Is bool c (v ∷ []) → c ≡ s
      → (s ≡ true → Seq K 𝓛 Γ (runs C Λ E yes q)) → (s ≡ false → Seq K 𝓛 Γ (runs C Λ E no q)) → Seq K 𝓛 Γ (runs C Λ E (cond (copy (place i [])) yes no) q)
  branches-on t {q} {i} {yes} {no} {v} {c} reads is known held failed =
      branches t (load t (from t (stop t)) (subst (Reads K 𝓛 Γ (spot_of 𝓤 H E i).0 (spot_of 𝓤 H E i).1 (spot_of 𝓤 H E i).2) (ap only is) reads)) (λ y. held (sym known ∙ is_true c y)) (λ n. failed (sym known ∙ is_false c n))

  -- an arm that is empty, and one that ends in an assignment: then b
  pub skips-to : K → (b : Body) (Kf : Val → SProp 𝓤) → Step K 𝓛 Γ (runs C Λ E b (at_ret E Kf)) Γ (runs C Λ E skip (any_q (after_seq 𝓤 H (Wp 𝓤 H C Λ E b (post 𝓤 H (at_ret E Kf))) (post 𝓤 H (at_ret E Kf)))))
  skips-to t b Kf = step (λ s. skips t $ exec t C Λ E b (at_ret E Kf) $ s)

  pub assigns-to : K → (b : Body) (Kf : Val → SProp 𝓤) {p : Place} {rv : RValue} {v : Val} {sp : Spot 𝓤 H} {Γ' : List (Item 𝓤)} → Rv K 𝓛 Γ E rv v → Finds K 𝓛 Γ E p sp → Writes K 𝓛 Γ sp.0 sp.1 sp.2 v Γ'
      → Step K 𝓛 Γ' (runs C Λ E b (at_ret E Kf)) Γ (runs C Λ E (assign p rv) (any_q (after_seq 𝓤 H (Wp 𝓤 H C Λ E b (post 𝓤 H (at_ret E Kf))) (post 𝓤 H (at_ret E Kf)))))
  assigns-to t b Kf value found into = step (λ s. assigns_last t value found into $ exec t C Λ E b (at_ret E Kf) $ s)
