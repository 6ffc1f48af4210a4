-- A call as one step of a walk: its operands are locals or numbers, what it ensures is learned of the result, and the result is kept in a local. Where it takes plain values, what it asks is made of what is known of them; where its contract is an equation, the local holds the machine value of what that names. Assumes `Logic`, and that the table of calls is monotone under a frame.
use mathlib.Core.Path.{◌≡◌, subst, sym, ap}
use mathlib.Core.Bool.{Bool, true, false, not}
use mathlib.Core.List.{List, [], ◌∷◌}
use Prim.Native.Nat.{ℕ, suc, ◌+◌, ◌-◌, ◌^◌}
use seplogic.Ra.Ura.{Ura}
use base.Fraction.{full_share}
use lib.Dec.{T as Holds, eqb, ltb, eqb→eq}
use mir.Syntax.{Callee as Name, Ty, Width, Opd as Operand, Body, place, copy, int, int_neg, int_big, float, opd_true, opd_false, opd_unit, ptr_const, size_of, align_of, num_of, fn_addr, vtable, seq, call}
use mir.Val.{Val, vint, vbool, bits, WT, has_ty}
use base.Logic.{SProp, ent, emp, sep, id⊢, via, emp∗, mono∗}
use base.Fml.{fat, froom}
use prog.Memory.{Memory}
use prog.Model.{Model}
use prog.Routine.{Routine, Env as Meanings}
use prog.Wp.{Env, Calls, Loops, Spot, spot_of}
use types.Logic.{Logic}
use sound.WpLaws.{FmC}
use types.Kit.{Item, mean, nth, put, ‵, raw, some, later, ◌⊛◌, ◌$◌, Post, runs, lands, Seq, Step, move, drop, use0, use1, split, pick, await}
use types.Run.{Writes, Opd, Opds, land, from, stop, load, look, lit, true_lit, false_lit, and_then, init}
use contract.Monad.{Fun, fact}
use contract.Lifetimes.{Lfts}
use contract.Running.{Running, tables}
use denote.Laws.{Is, Ises, Are, Makess, owns_make, shows}
use denote.Signature.{type_at, types_at}
use denote.Steps.{only, facts, heard}
use denote.Triple.Statement.{Contract, Triple}
use denote.Triple.Bound.{Bound, passed}
use denote.Triple.Call.{calls_at}
use denote.Triple.Clauses.{Ended, Clauses, Lasts, AtExit, at_exit, ensured, closing, lasts}
use denote.Triple.Entry.{Args, Res, alive}
use denote.Triple.Spec.{triple_of}
use denote.Triple.Table.{cited}

-- a function that a walk calls: all that the walk knows of it is that it meets its contract, and that its result is of its type
pub record Callee : Type 2 where
  pub name : Name
  pub routine : Routine
  pub ended : Ended
  pub clauses : {M : Type 1} {𝓤 : Ura M} (𝓛 : Logic 𝓤) (mem : Memory → SProp 𝓤) (run : Routine → Fun 𝓤) → Clauses 𝓤 ended
  pub met : {M : Type 1} {𝓤 : Ura M} (𝓛 : Logic 𝓤) (𝓜 : Model 𝓤 𝓛.H) (𝓡 : Running 𝓤 𝓛.H 𝓜)
      → Triple 𝓤 (𝓡.run routine) (triple_of 𝓛 ended.signature (closing 𝓛 ended (clauses 𝓛 𝓜.mem 𝓡.returns)))
  pub result : Ty
  pub typed : {M : Type 1} {𝓤 : Ura M} (𝓛 : Logic 𝓤) → (κs : Lfts ended.signature.lifetimes) (r : Res ended.signature κs) (v : Val) → Is (type_at ended.signature.result κs) r (v ∷ []) → Holds (has_ty result v) × WT v

-- one that takes plain values: what it takes is made of what is known of it
pub record Plain : Type 2 where
  pub callee : Callee
  pub makes : {M : Type 1} {𝓤 : Ura M} (𝓛 : Logic 𝓤) → (κs : Lfts callee.ended.signature.lifetimes) → Makess 𝓛 (types_at callee.ended.signature.params κs) (Ises (types_at callee.ended.signature.params κs))

module _ {M : Type 1} {𝓤 : Ura M} (𝓛 : Logic 𝓤) (mem : Memory → SProp 𝓤) (run : Routine → Fun 𝓤) where
  open 𝓛 use {H}

  abbrev pub triple : Callee → Contract 𝓤
  triple g = triple_of 𝓛 g.ended.signature (closing 𝓛 g.ended (g.clauses 𝓛 mem run))

  -- at its entry of a table of calls
  pub record Known (C : Calls 𝓤 H) (g : Callee) : Type 1 where
    pub meets : Triple 𝓤 (C g.name) (triple g)

  abbrev pub AllKnown : Calls 𝓤 H → List Callee → Type 1
  AllKnown C [] = Unit {1}
  AllKnown C (g ∷ gs) = Known C g × AllKnown C gs

-- the contract that asks nothing, and says that the result is f of what is passed
abbrev pub equation : (T : Ended) → ((κs : Lfts T.signature.lifetimes) → Args T.signature κs → Res T.signature κs) → {M : Type 1} {𝓤 : Ura M} (𝓛 : Logic 𝓤) (mem : Memory → SProp 𝓤) (run : Routine → Fun 𝓤) → Clauses 𝓤 T
equation T f {𝓤 = 𝓤} 𝓛 mem run = λ κs a. record { ghost = Unit {0}; requires = λ _. emp 𝓤; ensures = λ _ r _. fact 𝓤 (r ≡ f κs a) }

-- each name means its function's routine
abbrev pub Mean : Meanings → List Callee → Type 0
Mean γ [] = Unit {0}
Mean γ (g ∷ gs) = (γ g.name ≡ g.routine) × Mean γ gs

pub all_known : {M : Type 1} {𝓤 : Ura M} (𝓛 : Logic 𝓤) (𝓜 : Model 𝓤 𝓛.H) (𝓡 : Running 𝓤 𝓛.H 𝓜) (γ : Meanings) (gs : List Callee) → Mean γ gs → AllKnown 𝓛 𝓜.mem 𝓡.returns (tables 𝓤 𝓛.H 𝓜 𝓡 γ).C gs
all_known 𝓛 𝓜 𝓡 γ [] means = tt
all_known {𝓤 = 𝓤} 𝓛 𝓜 𝓡 γ (g ∷ gs) means = (record { meets = cited 𝓤 𝓛.H (triple 𝓛 𝓜.mem 𝓡.returns g) 𝓜 𝓡 γ g.name g.routine means.0 (g.met 𝓛 𝓜 𝓡) }, all_known 𝓛 𝓜 𝓡 γ gs means.1)

module _ {M : Type 1} {𝓤 : Ura M} {𝓛 : Logic 𝓤} {K : Type 0} {Γ : List (Item 𝓤)} {E : Env 𝓤 𝓛.H} {C : Calls 𝓤 𝓛.H} {Λ : Loops 𝓤 𝓛.H} {q : Post 𝓤 𝓛.H} {i : ℕ} {rest : Body} where
  -- a call's result, into its local
  open 𝓛 use {H}

  keeps : K → (n : ℕ) {τ : Ty} {b o : ℕ} {v : Val} → nth 𝓛 n Γ ≡ ‵ (froom τ b o) → spot_of 𝓤 H E i ≡ (τ, b, o) → Holds (has_ty τ v) × WT v → Step K 𝓛 (put 𝓛 n (‵ (fat full_share τ b o v)) Γ) (runs C Λ E rest q) Γ (lands C Λ E (place i []) v rest q)
  keeps t n {τ} {b} {o} {v} is-room spot wt =
      let after = put 𝓛 n (‵ (fat full_share τ b o v)) Γ in
      land t (from t (stop t)) (subst (λ (sp : Spot 𝓤 H). Writes K 𝓛 Γ sp.0 sp.1 sp.2 v after) (sym spot) (init t n is-room wt))

module _ {M : Type 1} {𝓤 : Ura M} {𝓛 : Logic 𝓤} {K : Type 0} {Γ : List (Item 𝓤)} {E : Env 𝓤 𝓛.H} {C : Calls 𝓤 𝓛.H} {Λ : Loops 𝓤 𝓛.H} {q : Post 𝓤 𝓛.H} {i : ℕ} {xs : List Operand} {rest : Body} {mem : Memory → SProp 𝓤} {run : Routine → Fun 𝓤} where
  -- from an entry j, what was lent among it: the lifetimes' tokens come back, and what is said of the last values ws
  open 𝓛 use {H}

  pub calls-out : K → FmC 𝓤 H 𝓛.laws C → (g : Callee) → Known 𝓛 mem run C g
      → (x : Bound 𝓛 g.ended.signature) (γ : (g.clauses 𝓛 mem run x.0 x.3).ghost) → {j : Item 𝓤} → ent 𝓤 (mean 𝓛 j) ((triple 𝓛 mem run g).pre (x, γ))
      → (φ : Res g.ended.signature x.0 → Lasts g.ended x.0 x.3 → Type 0) → ((r : Res g.ended.signature x.0) (ws : Lasts g.ended x.0 x.3) → ent 𝓤 ((g.clauses 𝓛 mem run x.0 x.3).ensures γ r (at_exit g.ended x.0 x.3 ws)) (fact 𝓤 (φ r ws)))
      → Opds K 𝓛 (raw ((triple 𝓛 mem run g).pre (x, γ)) ∷ Γ) E xs (passed 𝓛 g.ended.signature x)
      → (n : ℕ) {b o : ℕ} → nth 𝓛 n Γ ≡ ‵ (froom g.result b o) → spot_of 𝓤 H E i ≡ (g.result, b, o)
      → ((v : Val) (r : Res g.ended.signature x.0) (ws : Lasts g.ended x.0 x.3) → φ r ws → Is (type_at g.ended.signature.result x.0) r (v ∷ [])
      → Seq K 𝓛 (‵ (lasts g.ended x.0 x.3 ws) ∷ raw (alive 𝓛 g.ended.signature x.0 x.1) ∷ put 𝓛 n (‵ (fat full_share g.result b o v)) Γ) (runs C Λ E rest q))
      → Seq K 𝓛 (j ∷ Γ) (runs C Λ E (seq (call g.name xs (place i [])) rest) q)
  calls-out t fm g known x γ asks φ told os n {b} {o} is-room spot k =
      let S = g.ended.signature in let c = triple 𝓛 mem run g in let R = type_at S.result x.0 in let L = Lasts g.ended x.0 x.3 in
      use1 𝓛 (raw (c.pre (x, γ))) asks $ calls_at t fm c known.meets (x, γ) os (λ v.
      use1 𝓛 (later (some (λ (r : R.Denot). (raw (alive 𝓛 S x.0 x.1) ⊛ ‵ (R.own_val r (v ∷ []))) ⊛ raw (ensured 𝓛 g.ended (g.clauses 𝓛 mem run) x.0 x.3 γ r)))) (id⊢ 𝓤 _) $ await t tt $ pick t (λ r.
      split t $ split t $ move t (1 ∷ []) $ facts t R (Is R) (shows 𝓛 R) r (v ∷ []) (λ is.
      move t (1 ∷ []) $ use1 𝓛 (some (λ (ws : L). ‵ (lasts g.ended x.0 x.3 ws) ⊛ raw ((g.clauses 𝓛 mem run x.0 x.3).ensures γ r (at_exit g.ended x.0 x.3 ws)))) (id⊢ 𝓤 _) $ pick t (λ ws.
      split t $ move t (1 ∷ []) $ use1 𝓛 (raw (fact 𝓤 (φ r ws))) (told r ws) $ heard t (φ r ws) (λ e.
      keeps t (suc (suc n)) is-room spot (g.typed 𝓛 x.0 r v is) $ k v r ws e is)))))

  -- from what it asks, where its contract is the equation of its result and y, whose machine value is v
  pub gives : K → FmC 𝓤 H 𝓛.laws C → (g : Callee) → Known 𝓛 mem run C g
      → (x : Bound 𝓛 g.ended.signature) (γ : (g.clauses 𝓛 mem run x.0 x.3).ghost)
      → (y : Res g.ended.signature x.0) → ((r : Res g.ended.signature x.0) (e : AtExit g.ended x.0) → ent 𝓤 ((g.clauses 𝓛 mem run x.0 x.3).ensures γ r e) (fact 𝓤 (r ≡ y)))
      → (v : Val) → ((vs : List Val) → Is (type_at g.ended.signature.result x.0) y vs → vs ≡ v ∷ [])
      → Opds K 𝓛 (raw ((triple 𝓛 mem run g).pre (x, γ)) ∷ Γ) E xs (passed 𝓛 g.ended.signature x)
      → (n : ℕ) {b o : ℕ} → nth 𝓛 n Γ ≡ ‵ (froom g.result b o) → spot_of 𝓤 H E i ≡ (g.result, b, o)
      → (Is (type_at g.ended.signature.result x.0) y (v ∷ []) → Seq K 𝓛 (raw (alive 𝓛 g.ended.signature x.0 x.1) ∷ put 𝓛 n (‵ (fat full_share g.result b o v)) Γ) (runs C Λ E rest q))
      → Seq K 𝓛 (raw ((triple 𝓛 mem run g).pre (x, γ)) ∷ Γ) (runs C Λ E (seq (call g.name xs (place i [])) rest) q)
  gives t fm g known x γ y told v value os n {b} {o} is-room spot k =
      let R = type_at g.ended.signature.result x.0 in
      calls-out t fm g known x γ (id⊢ 𝓤 _) (λ r ws. r ≡ y) (λ r ws. told r (at_exit g.ended x.0 x.3 ws)) os n is-room spot (λ u r ws e is. drop t $
      let is_y : Is R y (u ∷ []) = subst (λ (z : R.Denot). Is R z (u ∷ [])) e is in
      subst (λ (w : Val). Seq K 𝓛 (raw (alive 𝓛 g.ended.signature x.0 x.1) ∷ put 𝓛 n (‵ (fat full_share g.result b o w)) Γ) (runs C Λ E rest q)) (sym (ap only (value (u ∷ []) is_y)))
      (k (subst (Is R y) (value (u ∷ []) is_y) is_y)))

  -- from nothing, where there are no lifetimes
  pub calls-plain : K → FmC 𝓤 H 𝓛.laws C → (g : Plain) → Known 𝓛 mem run C g.callee
      → (x : Bound 𝓛 g.callee.ended.signature) (γ : (g.callee.clauses 𝓛 mem run x.0 x.3).ghost) → ent 𝓤 (emp 𝓤) (alive 𝓛 g.callee.ended.signature x.0 x.1)
      → Are (types_at g.callee.ended.signature.params x.0) (Ises (types_at g.callee.ended.signature.params x.0)) x.3 x.4
      → ent 𝓤 (emp 𝓤) ((g.callee.clauses 𝓛 mem run x.0 x.3).requires γ)
      → (φ : Res g.callee.ended.signature x.0 → Type 0) → ((r : Res g.callee.ended.signature x.0) (e : AtExit g.callee.ended x.0) → ent 𝓤 ((g.callee.clauses 𝓛 mem run x.0 x.3).ensures γ r e) (fact 𝓤 (φ r)))
      → Opds K 𝓛 (raw ((triple 𝓛 mem run g.callee).pre (x, γ)) ∷ Γ) E xs (passed 𝓛 g.callee.ended.signature x)
      → (n : ℕ) {b o : ℕ} → nth 𝓛 n Γ ≡ ‵ (froom g.callee.result b o) → spot_of 𝓤 H E i ≡ (g.callee.result, b, o)
      → ((v : Val) (r : Res g.callee.ended.signature x.0) → φ r → Is (type_at g.callee.ended.signature.result x.0) r (v ∷ []) → Seq K 𝓛 (put 𝓛 n (‵ (fat full_share g.callee.result b o v)) Γ) (runs C Λ E rest q))
      → Seq K 𝓛 Γ (runs C Λ E (seq (call g.callee.name xs (place i [])) rest) q)
  calls-plain t fm g known x γ lives are asked φ told os n is-room spot k =
      let Rs = types_at g.callee.ended.signature.params x.0 in
      let both = via 𝓤 (sep 𝓤 (emp 𝓤) (emp 𝓤)) (emp∗ 𝓤 (emp 𝓤)) (mono∗ 𝓤 lives (owns_make 𝓛 Rs (Ises Rs) (g.makes 𝓛 x.0) x.3 x.4 are)) in
      use0 𝓛 (raw ((triple 𝓛 mem run g.callee).pre (x, γ))) (via 𝓤 (sep 𝓤 (emp 𝓤) (emp 𝓤)) (emp∗ 𝓤 (emp 𝓤)) (mono∗ 𝓤 both asked)) $
      calls-out t fm g.callee known x γ (id⊢ 𝓤 _) (λ r ws. φ r) (λ r ws. told r (at_exit g.callee.ended x.0 x.3 ws)) os n is-room spot (λ v r ws e is. drop t $ drop t $ k v r e is)

module _ {M : Type 1} {𝓤 : Ura M} {𝓛 : Logic 𝓤} {K : Type 0} {Γ : List (Item 𝓤)} {E : Env 𝓤 𝓛.H} where
  -- an operand that is a local. Each local's cell stands two entries before the one of the local before it, and that of local 0 is entry n: so what is to be shown is the value that the local holds, whichever local it is
  open 𝓛 use {H}

  pub local : K → (n : ℕ) {i : ℕ} {v : Val} → nth 𝓛 (n - (i + i)) Γ ≡ ‵ (fat full_share (spot_of 𝓤 H E i).0 (spot_of 𝓤 H E i).1 (spot_of 𝓤 H E i).2 v) → {xs : List Operand} {vs : List Val} → Opds K 𝓛 Γ E xs vs → Opds K 𝓛 Γ E (copy (place i []) ∷ xs) (v ∷ vs)
  local t n {i} holds os = and_then t (load t (from t (stop t)) (look t (n - (i + i)) holds)) os

  -- an operand that is a number m: that it is n is what is to be shown
  pub literal : K → (n : ℕ) {w : Width} {m : ℕ} → Holds (eqb m n) → Holds (ltb n (2 ^ bits w)) → Opd K 𝓛 Γ E (int w m) (vint w n)
  literal t n {w} {m} is fits = subst (λ (k : ℕ). Opd K 𝓛 Γ E (int w k) (vint w n)) (sym (eqb→eq m n is)) (lit t fits)

-- an operand that is the bool b
abbrev is-flag : Operand → Bool → Bool
is-flag (copy p) b = false
is-flag (int w n) b = false
is-flag (int_neg w n) b = false
is-flag (int_big w n) b = false
is-flag (float f n) b = false
is-flag opd_true b = b
is-flag opd_false b = not b
is-flag opd_unit b = false
is-flag (ptr_const n) b = false
is-flag (size_of τ) b = false
is-flag (align_of τ) b = false
is-flag (num_of w τ) b = false
is-flag (fn_addr f s) b = false
is-flag (vtable τ ss) b = false

module _ {M : Type 1} {𝓤 : Ura M} {𝓛 : Logic 𝓤} {K : Type 0} {Γ : List (Item 𝓤)} {E : Env 𝓤 𝓛.H} where
  flagged : K → (b : Bool) (x : Operand) → Holds (is-flag x b) → Opd K 𝓛 Γ E x (vbool b)
  flagged t b (copy p) is = absurd is
  flagged t b (int w n) is = absurd is
  flagged t b (int_neg w n) is = absurd is
  flagged t b (int_big w n) is = absurd is
  flagged t b (float f n) is = absurd is
  flagged t true opd_true is = true_lit t
  flagged t false opd_true is = absurd is
  flagged t true opd_false is = absurd is
  flagged t false opd_false is = false_lit t
  flagged t b opd_unit is = absurd is
  flagged t b (ptr_const n) is = absurd is
  flagged t b (size_of τ) is = absurd is
  flagged t b (align_of τ) is = absurd is
  flagged t b (num_of w τ) is = absurd is
  flagged t b (fn_addr f s) is = absurd is
  flagged t b (vtable τ ss) is = absurd is

  -- that it is b is what is to be shown
  pub flag : K → (b : Bool) {x : Operand} → Holds (is-flag x b) → Opd K 𝓛 Γ E x (vbool b)
  flag t b {x} is = flagged t b x is
