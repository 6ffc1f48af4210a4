-- A record behind its reference: it is opened and closed, or looked into, and its parts are read and written. Assumes `Logic`.
use mathlib.Core.Path.{◌≡◌, sym, subst}
use mathlib.Core.List.{List, [], ◌∷◌}
use Prim.Native.Nat.{ℕ}
use seplogic.Ra.Ura.{Ura}
use base.Fraction.{full_share}
use lib.Dec.{T as Holds}
use mir.Raw.{raw as raw_ty}
use mir.Syntax.{Ty, Step as PlaceStep, deref, place, copy, rv_opd, seq, assign, Body as Code}
use mir.Val.{Val, vptr, WT, has_ty}
use base.Fml.{GName, Lft, Share, Fml, ftrue, fsep, fat, flft, fobs, fauth, fbor, fobor, fres, fshr_bor}
use base.Share as Parted
use base.Share.{halves}
use base.Stored.{Gv}
use prog.Wp.{Env, Calls, Loops, spot_of}
use types.Logic.{Logic}
use types.Kit.{Item, ‵, ◌⊛◌, nth, put, Goal, Soaks, Post, runs, Seq, Step, step, ◌$◌, move, drop, use1, join, fsplit, fjoin, fpick, fpack}
use types.Run.{Reads, Writes, Walks, stop, hop, from, load, of_opd, assigns}
use types.Part.{Part, look_in, store_in}
use types.Tokens.{obor_close, shr_bor_dup, shr_bor-open}
use types.SemTy.{Body}
use denote.RattleType.{RattleType}
use denote.Laws.{Is, Tells, Makes, Copy, shows}
use denote.Memory.{mem, cell_at, part_of, part_at, hidden_shr, share_laws}
use denote.Opens.{Opens, Shut}
use denote.Steps.{opens, closes, looks, shuts, peeks, owned, facts, nothing}
use denote.Struct.Steps.{spelt}

-- what a walk takes of the type of a record that is lent: its MIR type, and the machine value of each, which may be shut
pub record Lendable : Type 2 where
  pub row : RattleType
  pub mir : Ty
  pub one : row.mir ≡ mir ∷ []
  pub mach : row.Denot → Val
  pub tells : Tells row (Is row) (λ d. mach d ∷ [])
  pub makes : {M : Type 1} {𝓤 : Ura M} (𝓛 : Logic 𝓤) → Makes 𝓛 row (Is row)

module _ (R : Lendable) where
  -- its machine value is the one named
  abbrev pub Known : R.row.Denot → Type 0
  Known d = Is R.row d (R.mach d ∷ [])

  -- the record's cell
  abbrev pub held : ℕ → ℕ → R.row.Denot → Fml
  held b o d = fat full_share R.mir b o (R.mach d)

module _ {M : Type 1} {𝓤 : Ura M} {𝓛 : Logic 𝓤} {K : Type 0} {Γ : List (Item 𝓤)} {G : Goal 𝓤 𝓛.H} {κ : Lft} {q : Share} {γ : GName} (R : Lendable) where
  pub opens-record : K → Soaks G → {b o : ℕ} (d : R.row.Denot) → (Known R d → Seq K 𝓛 (‵ (held R b o d) ∷ ‵ (fobor κ q (Body (mem R.row) b o γ)) ∷ ‵ (fobs γ (R.row.coded.code d)) ∷ ‵ (fauth γ (R.row.coded.code d)) ∷ Γ) G)
      → Seq K 𝓛 (‵ (fobs γ (R.row.coded.code d)) ∷ ‵ (fbor κ (Body (mem R.row) b o γ)) ∷ ‵ (flft κ q) ∷ Γ) G
  opens-record t z {b = b} {o = o} d k =
      opens t z R.row {h = d} b o (λ vs. spelt t R.row (Is R.row) (shows 𝓛 R.row) (λ e. R.mach e ∷ []) R.tells full_share d vs b o $
      move t (1 ∷ []) $ facts t R.row (Is R.row) (shows 𝓛 R.row) d (R.mach d ∷ []) (λ is.
      subst (λ (τs : List Ty). Seq K 𝓛 (‵ (cell_at full_share τs (R.mach d ∷ []) b o) ∷ ‵ (fobor κ q (Body (mem R.row) b o γ)) ∷ ‵ (fobs γ (R.row.coded.code d)) ∷ ‵ (fauth γ (R.row.coded.code d)) ∷ Γ) G) (sym R.one)
      (use1 𝓛 (‵ (held R b o d)) (𝓛.laws.raw_at full_share R.mir b o (R.mach d)) $ k is)))

  module _ {u v : Gv} {b o : ℕ} where
    pub closes-record : K → Soaks G → (d : R.row.Denot) → Known R d
        → Step K 𝓛 (‵ (fobs γ (R.row.coded.code d)) ∷ ‵ (fbor κ (Body (mem R.row) b o γ)) ∷ ‵ (flft κ q) ∷ Γ) G (‵ (held R b o d) ∷ ‵ (fobor κ q (Body (mem R.row) b o γ)) ∷ ‵ (fobs γ u) ∷ ‵ (fauth γ v) ∷ Γ) G
    closes-record t z d is = step (λ s. use1 𝓛 (‵ (fat full_share (raw_ty R.mir) b o (R.mach d))) (𝓛.laws.at_raw full_share R.mir b o (R.mach d)) $
        subst (λ (τs : List Ty). Seq K 𝓛 (‵ (cell_at full_share τs (R.mach d ∷ []) b o) ∷ ‵ (fobor κ q (Body (mem R.row) b o γ)) ∷ ‵ (fobs γ u) ∷ ‵ (fauth γ v) ∷ Γ) G) R.one
        (owned t R.row (Is R.row) (R.makes 𝓛) d _ is $ move t (1 ∷ 0 ∷ []) $ closes t z R.row d (R.mach d ∷ []) b o $ s))

    -- and the borrow is given up
    pub gives-record : K → Soaks G → (d : R.row.Denot) → Known R d
        → Step K 𝓛 (‵ (fres γ (R.row.coded.code d)) ∷ (‵ (flft κ q) ⊛ ‵ ftrue) ∷ Γ) G (‵ (held R b o d) ∷ ‵ (fobor κ q (Body (mem R.row) b o γ)) ∷ ‵ (fobs γ u) ∷ ‵ (fauth γ v) ∷ Γ) G
    gives-record t z d is = step (λ s. closes-record t z d is $ use1 𝓛 (‵ (fres γ (R.row.coded.code d))) (𝓛.names.obs-res γ (R.row.coded.code d)) $
        nothing t $ move t (3 ∷ 0 ∷ []) $ join t $ move t (1 ∷ 0 ∷ 2 ∷ []) $ move t (2 ∷ []) $ drop t $ s)

  -- a borrow that was not opened is given up as it was
  pub leaves-record : K → Soaks G → (b o : ℕ) (d : R.row.Denot) → Step K 𝓛 (‵ (fres γ (R.row.coded.code d)) ∷ (‵ (flft κ q) ⊛ ‵ ftrue) ∷ Γ) G (‵ (fobs γ (R.row.coded.code d)) ∷ ‵ (fbor κ (Body (mem R.row) b o γ)) ∷ ‵ (flft κ q) ∷ Γ) G
  leaves-record t z b o d = step (λ s. opens-record t z {b = b} {o = o} d (λ is. gives-record t z d is $ s))

module _ {M : Type 1} {𝓤 : Ura M} {𝓛 : Logic 𝓤} {K : Type 0} {Γ : List (Item 𝓤)} {G : Goal 𝓤 𝓛.H} (R : Lendable) where
  -- a record that lies somewhere is its cell with what its type owns; and back
  lies : K → {b o : ℕ} (s : Share) (d : R.row.Denot) (vs : List Val)
      → (Known R d → Seq K 𝓛 (‵ (fat s R.mir b o (R.mach d)) ∷ ‵ (R.row.own_val d (R.mach d ∷ [])) ∷ Γ) G)
      → Seq K 𝓛 (‵ (cell_at s R.row.mir vs b o) ∷ ‵ (R.row.own_val d vs) ∷ Γ) G
  lies t {b} {o} s d vs k =
      spelt t R.row (Is R.row) (shows 𝓛 R.row) (λ e. R.mach e ∷ []) R.tells s d vs b o $
      move t (1 ∷ []) $ peeks t R.row (Is R.row) (shows 𝓛 R.row) d (R.mach d ∷ []) (λ is. move t (1 ∷ 0 ∷ []) $
      subst (λ (τs : List Ty). Seq K 𝓛 (‵ (cell_at s τs (R.mach d ∷ []) b o) ∷ ‵ (R.row.own_val d (R.mach d ∷ [])) ∷ Γ) G) (sym R.one)
      (use1 𝓛 (‵ (fat s R.mir b o (R.mach d))) (𝓛.laws.raw_at s R.mir b o (R.mach d)) $ k is))

  laid : K → {b o : ℕ} (s : Share) (d : R.row.Denot) → Step K 𝓛 (‵ (cell_at s R.row.mir (R.mach d ∷ []) b o) ∷ ‵ (R.row.own_val d (R.mach d ∷ [])) ∷ Γ) G (‵ (fat s R.mir b o (R.mach d)) ∷ ‵ (R.row.own_val d (R.mach d ∷ [])) ∷ Γ) G
  laid t {b} {o} s d = step (λ g. use1 𝓛 (‵ (fat s (raw_ty R.mir) b o (R.mach d))) (𝓛.laws.at_raw s R.mir b o (R.mach d)) $
      subst (λ (τs : List Ty). Seq K 𝓛 (‵ (cell_at s τs (R.mach d ∷ []) b o) ∷ ‵ (R.row.own_val d (R.mach d ∷ [])) ∷ Γ) G) R.one g)

module _ {M : Type 1} {𝓤 : Ura M} {𝓛 : Logic 𝓤} {K : Type 0} {Γ : List (Item 𝓤)} {G : Goal 𝓤 𝓛.H} {κ : Lft} {q : Share} (R : Lendable) where
  -- a record of which shares are lent is looked into, which gives a share of its cell; and no longer
  pub looks-into : K → Soaks G → Copy 𝓛 R.row → {b o : ℕ} (d : R.row.Denot)
      → ((s : Share) → Known R d → Seq K 𝓛 (‵ (fat s R.mir b o (R.mach d)) ∷ ‵ (R.row.own_val d (R.mach d ∷ [])) ∷ ‵ (fobor κ q (part_at R.row s d b o)) ∷ ‵ (fshr_bor κ (λ s. part_at R.row s d b o)) ∷ Γ) G)
      → Seq K 𝓛 (‵ (fshr_bor κ (λ s. part_at R.row s d b o)) ∷ ‵ (flft κ q) ∷ Γ) G
  unfolding part_of
  looks-into t z copied {b} {o} d k =
      let L = share_laws 𝓛 R.row (Is R.row) (shows 𝓛 R.row) (λ e. R.mach e ∷ []) R.tells copied in
      shr_bor_dup t $ move t (0 ∷ 2 ∷ []) $
      shr_bor-open t z (record { cut = λ r. L.cut r (Parted.left r) (Parted.right r) (halves r) d b o; join = λ r. L.join r (Parted.left r) (Parted.right r) (halves r) d b o }) (λ s. move t (1 ∷ []) $ fpick t (λ vs. fsplit t $ lies R t s d vs (k s)))

  pub looks-away : K → Soaks G → {b o : ℕ} (s : Share) (d : R.row.Denot) → Step K 𝓛 (‵ (flft κ q) ∷ Γ) G (‵ (fat s R.mir b o (R.mach d)) ∷ ‵ (R.row.own_val d (R.mach d ∷ [])) ∷ ‵ (fobor κ q (part_at R.row s d b o)) ∷ Γ) G
  unfolding part_of
  looks-away t z {b} {o} s d = step (λ g. laid R t s d $ fjoin t $ fpack t (List Val) (λ us. fsep (cell_at s R.row.mir us b o) (R.row.own_val d us)) (R.mach d ∷ []) $
      move t (1 ∷ 0 ∷ []) $ obor_close t z $ drop t $ g)

  -- a record behind a `&`, likewise
  pub sees-into : K → Soaks G → Opens 𝓛 R.row → {b o : ℕ} (d : R.row.Denot)
      → ((s : Share) → Known R d → Seq K 𝓛 (‵ (fat s R.mir b o (R.mach d)) ∷ ‵ (R.row.own_val d (R.mach d ∷ [])) ∷ Shut 𝓛 κ q (part_at R.row s d b o) ∷ ‵ (hidden_shr R.row κ d b o) ∷ Γ) G)
      → Seq K 𝓛 (‵ (hidden_shr R.row κ d b o) ∷ ‵ (flft κ q) ∷ Γ) G
  sees-into t z opened {b} {o} d k = looks t z R.row opened d b o (λ s vs. lies R t s d vs (k s))

  pub sees-away : K → Soaks G → {b o : ℕ} (s : Share) (d : R.row.Denot) → Step K 𝓛 (‵ (flft κ q) ∷ Γ) G (‵ (fat s R.mir b o (R.mach d)) ∷ ‵ (R.row.own_val d (R.mach d ∷ [])) ∷ Shut 𝓛 κ q (part_at R.row s d b o) ∷ Γ) G
  sees-away t z {b} {o} s d = step (λ g. laid R t s d $ shuts t z R.row s d (R.mach d ∷ []) b o $ g)

-- a part of a cell of type σ that holds m, of which there is a share s: the steps to it, its type and its value
module _ {M : Type 1} {𝓤 : Ura M} (K : Type 0) (𝓛 : Logic 𝓤) (s : Share) (σ : Ty) (b o : ℕ) (m : Val) where
  open 𝓛 use {H}

  pub record InsideOf (st : List PlaceStep) (τ : Ty) (v : Val) : Type 2 where
    pub offset : ℕ
    pub back : Val → Val
    pub finds : {Γ : List (Item 𝓤)} {E : Env 𝓤 H} → Walks K 𝓛 Γ E (σ, b, o) st (τ, b, offset)
    pub part : Part K 𝓛 (‵ (fat s σ b o m)) s τ b offset v (λ u. ‵ (fat s σ b o (back u)))
    pub typed : Holds (has_ty τ v) × WT v

-- of a cell that is had whole
module _ {M : Type 1} {𝓤 : Ura M} (K : Type 0) (𝓛 : Logic 𝓤) (σ : Ty) (b o : ℕ) (m : Val) where
  abbrev pub Inside : List PlaceStep → Ty → Val → Type 2
  Inside = InsideOf K 𝓛 full_share σ b o m

module _ {M : Type 1} {𝓤 : Ura M} {𝓛 : Logic 𝓤} {K : Type 0} {s : Share} {σ : Ty} {b o : ℕ} {m : Val} where
  -- where m is spelt out
  open 𝓛 use {H}

  pub within : {u : Val} → m ≡ u → {τ : Ty} {e : ℕ} {v : Val} {back : Val → Item 𝓤} → Part K 𝓛 (‵ (fat s σ b o u)) s τ b e v back → Part K 𝓛 (‵ (fat s σ b o m)) s τ b e v back
  within is {τ} {e} {v} {back} = subst (λ (w : Val). Part K 𝓛 (‵ (fat s σ b o w)) s τ b e v back) (sym is)

  at_entry : {i : Item 𝓤} → i ≡ ‵ (fat s σ b o m) → {st : List PlaceStep} {τ : Ty} {v : Val} (p : InsideOf K 𝓛 s σ b o m st τ v) → Part K 𝓛 i s τ b p.offset v (λ u. ‵ (fat s σ b o (p.back u)))
  at_entry e {st} {τ} {v} p = subst (λ (j : Item 𝓤). Part K 𝓛 j s τ b p.offset v (λ u. ‵ (fat s σ b o (p.back u)))) (sym e) p.part

  module _ {Γ : List (Item 𝓤)} {E : Env 𝓤 H} {C : Calls 𝓤 H} {Λ : Loops 𝓤 H} {q : Post 𝓤 H} {i j : ℕ} {rest : Code} where
    -- a part behind the pointer in local i is copied into local j. The cell is entry n
    pub copies : K → (n : ℕ) → nth 𝓛 n Γ ≡ ‵ (fat s σ b o m) → {st : List PlaceStep} {τ : Ty} {v : Val} → InsideOf K 𝓛 s σ b o m st τ v
        → Reads K 𝓛 Γ (spot_of 𝓤 H E i).0 (spot_of 𝓤 H E i).1 (spot_of 𝓤 H E i).2 (vptr b o) → {Γ' : List (Item 𝓤)} → (Holds (has_ty τ v) × WT v → Writes K 𝓛 Γ (spot_of 𝓤 H E j).0 (spot_of 𝓤 H E j).1 (spot_of 𝓤 H E j).2 v Γ')
        → Step K 𝓛 Γ' (runs C Λ E rest q) Γ (runs C Λ E (seq (assign (place j []) (rv_opd (copy (place i (deref σ ∷ st))))) rest) q)
    copies t n e p pointer into = assigns t (of_opd t (load t (from t (hop t pointer p.finds)) (look_in t n (at_entry e p)))) (from t (stop t)) (into p.typed)

module _ {M : Type 1} {𝓤 : Ura M} {𝓛 : Logic 𝓤} {K : Type 0} {Γ : List (Item 𝓤)} where
  -- a part of local i is copied into local j. The local's cell is entry n
  open 𝓛 use {H}

  pub copies_of : K → {E : Env 𝓤 H} {C : Calls 𝓤 H} {Λ : Loops 𝓤 H} {q : Post 𝓤 H} {i j : ℕ} {rest : Code} (n : ℕ) {m : Val} → nth 𝓛 n Γ ≡ ‵ (fat full_share (spot_of 𝓤 H E i).0 (spot_of 𝓤 H E i).1 (spot_of 𝓤 H E i).2 m)
      → {st : List PlaceStep} {τ : Ty} {v : Val} → Inside K 𝓛 (spot_of 𝓤 H E i).0 (spot_of 𝓤 H E i).1 (spot_of 𝓤 H E i).2 m st τ v
      → {Γ' : List (Item 𝓤)} → (Holds (has_ty τ v) × WT v → Writes K 𝓛 Γ (spot_of 𝓤 H E j).0 (spot_of 𝓤 H E j).1 (spot_of 𝓤 H E j).2 v Γ')
      → Step K 𝓛 Γ' (runs C Λ E rest q) Γ (runs C Λ E (seq (assign (place j []) (rv_opd (copy (place i st)))) rest) q)
  copies_of t n e p into = assigns t (of_opd t (load t (from t p.finds) (look_in t n (at_entry e p)))) (from t (stop t)) (into p.typed)

  module _ {σ : Ty} {b o : ℕ} {m : Val} where
    -- a part is stored: the cell then holds m'
    pub stores : K → (n : ℕ) → nth 𝓛 n Γ ≡ ‵ (fat full_share σ b o m) → {st : List PlaceStep} {τ : Ty} {v₀ v : Val} (p : Inside K 𝓛 σ b o m st τ v₀) → Holds (has_ty τ v) × WT v → (m' : Val) → p.back v ≡ m'
        → Writes K 𝓛 Γ τ b p.offset v (put 𝓛 n (‵ (fat full_share σ b o m')) Γ)
    stores t n e {st} {τ} {v₀} {v} p wt m' is = subst (λ (u : Val). Writes K 𝓛 Γ τ b p.offset v (put 𝓛 n (‵ (fat full_share σ b o u)) Γ)) is (store_in t n (at_entry e p) wt)
