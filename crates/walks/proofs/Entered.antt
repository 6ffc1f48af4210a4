-- From a walk of a function's MIR to its contract, where the functions that it calls meet theirs. Assumes nothing.
use mathlib.Core.List.{List}
use seplogic.Ra.Ura.{Ura}
use mir.Syntax.{Callee as Name, Fn}
use prog.Model.{Model}
use prog.Routine.{Env}
use prog.Wp.{Calls, Loops, WpFn, Closed}
use sound.WpLaws.{FmC, fm_of, WpFn-mono}
use types.Logic.{Logic}
use contract.Running.{Running, tables, tables_of}
use denote.Triple.Clauses.{Ended, Clauses, closing}
use denote.Triple.Spec.{Meets, triple_of}
use denote.Triple.Table.{entered}
use denote.Triple.Walked.{Stays, AllGo, Walks, walk_Meets}
use Rattle.walks.proofs.Call.{Callee, AllKnown, Mean, all_known}

module _ {M : Type 1} {𝓤 : Ura M} (𝓛 : Logic 𝓤) (𝓜 : Model 𝓤 𝓛.H) (𝓡 : Running 𝓤 𝓛.H 𝓜) where
  open 𝓛 use {H}

  pub walk-entered : (γ : Env) (k : Name) (e : Fn) → Closed 𝓤 H (tables 𝓤 H 𝓜 𝓡 γ).C (tables 𝓤 H 𝓜 𝓡 γ).Λ k e → (gs : List Callee) → Mean γ gs
      → (T : Ended) (c : Clauses 𝓤 T) (hs : Stays T.signature.params T.kept) → AllGo 𝓛 T.signature.lifetimes T.signature.params T.kept hs
      → ((C : Calls 𝓤 H) (Λ : Loops 𝓤 H) → FmC 𝓤 H 𝓛.laws C → AllKnown 𝓛 𝓜.mem 𝓡.returns C gs → Walks 𝓛 T hs (WpFn 𝓤 H C Λ e) c)
      → Meets 𝓛 T.signature ((tables 𝓤 H 𝓜 𝓡 γ).C k) (closing 𝓛 T c)
  unfolding tables_of
  walk-entered γ k e closed gs means T c hs goes walks =
      let 𝓣 = tables_of 𝓤 H 𝓜 (tables 𝓤 H 𝓜 𝓡 γ) in let L = 𝓛.laws in
      entered 𝓤 H (triple_of 𝓛 T.signature (closing 𝓛 T c)) (tables 𝓤 H 𝓜 𝓡 γ).C (tables 𝓤 H 𝓜 𝓡 γ).Λ k e closed
      (walk_Meets 𝓛 T hs goes c (WpFn 𝓤 H 𝓣.C 𝓣.Λ e) (WpFn-mono 𝓤 H L 𝓣 e) (walks 𝓣.C 𝓣.Λ (fm_of 𝓤 H L 𝓣) (all_known 𝓛 𝓜 𝓡 γ gs means)))
