-- Pulling is as good as pushing, over whole runs (specs/Pulling.antt): a reading takes what is opposite to what is opposite. Assumes nothing.
use mathlib.Core.Path.{◌≡◌, refl, sym, ◌∙◌, ap, ap₂, subst}
use mathlib.Core.Bool.{Bool, true, false, cond, ◌||◌}
use mathlib.Core.List.{List, [], ◌∷◌, map}
use mathlib.Core.Option.{Option, none, some}
use Prim.Native.Nat.{ℕ, max}
use native.Mathlib.Omega.{arith}
use lib.Bits.{bit_or}
use lib.Dec.{ltb}
use lib.IntN.{ℤ, pos, neg_ℤ, ◌+ℤ◌, +ℤ_comm, +ℤ_invl}
use lib.Signed.{lt_z}
use Rattle.integers.specs.Within.{◌within◌}
use Rattle.integers.proofs.Parts.{ints}
use Rattle.integers.proofs.Difference.{⟨◌⟩, ◌⊕◌, le! }
use Rattle.integers.proofs.Order.{pick, lt_yes, lt_no, lt-neg}
use Rattle.integers.proofs.Magnitude.{within-between}
use Rattle.arithmetic.specs.Table.{Point}
use Rattle.arithmetic.specs.Keeps.{ColumnWithin}
use Rattle.arithmetic.proofs.Mirror.{none-no-half}
use Rattle.figures.specs.Rows.{linearities}
use Rattle.figures.specs.Acceptable.{Acceptable}
use Rattle.figures.specs.Mirror.{Mirrors}
use Rattle.figures.specs.declared.Calibration.{Calibration}
use Rattle.figures.specs.declared.Filter.{Filter}
use Rattle.figures.proofs.Mirror.{mirrors-acceptable, mirror_of, mirror-mirrors, mirror-representable, mirrors-unused}
use Rattle.sheet.specs.Forms.{read_sheet}
use Rattle.sheet.specs.Write.{sheet_bytes}
use Rattle.sheet.specs.Sheet.{Sheet}
use Rattle.sheet.proofs.Theorems.{written_read, read-accepted}
use Rattle.compensation.specs.ReadingLimits.{elec_most, temp_most}
use Rattle.compensation.specs.Filter.{Remembered, held_by}
use Rattle.compensation.specs.Reading.{craw, cell, sraw, sys}
use Rattle.compensation.specs.Values.{values_of}
use Rattle.compensation.specs.Pulling.{pulled_memory, ChangeSides, Exactly, Pulls}
use Rattle.compensation.specs.Stat.{bit_at, tempur, tempor, ecomur, ecomor, crawur, crawor, lcinteg}
use Rattle.compensation.proofs.Flags.{bit-or}
use Rattle.compensation.proofs.Pulling.{pulling}
use Rattle.state.specs.Reading.{bad_reading, outside, beyond, larger, smaller, peak_after, trof_after, readings_after, remembered_of, state_after_values, state_after_reading}
use Rattle.state.specs.Request.{fresh}
use Rattle.state.specs.declared.State.{State}
use Rattle.converter.specs.Making.{station_fits, setup_of, started, made}
use Rattle.converter.specs.Call.{reading, run, after_call, after_reading}
use Rattle.converter.specs.declared.Device.{Device}
use Rattle.converter.specs.declared.corner.Sample.{Sample}
use Rattle.converter.specs.Pulling.{push, pull, Opposite, Pair, MirroredSheet, table_of, state_of, BothWays}
use Rattle.converter.proofs.Made.{making-accepted, making-sound}

-- ---- what turns a reading down is the same both ways

bad-odd : (elec temp : ℤ) (integrity : ℕ) → bad_reading (neg_ℤ elec) temp integrity ≡ bad_reading elec temp integrity
unfolding bad_reading outside
bad-odd elec temp integrity = ap (λ (b : Bool). b || (beyond temp_most temp || ltb 1 integrity)) (ap₂ ◌||◌ (lt-neg elec (pos elec_most)) (lt-neg (neg_ℤ (pos elec_most)) elec) ∙ swap (lt_z (pos elec_most) elec) (lt_z elec (neg_ℤ (pos elec_most))))
  where
    swap : (a b : Bool) → (a || b) ≡ (b || a)
    swap true true = refl
    swap true false = refl
    swap false true = refl
    swap false false = refl

-- ---- PEAK of the one and TROF of the other

extremes : {n : ℕ} (a b x y : ℤ) → (a +ℤ x) within n → (b +ℤ y) within n → (larger a b +ℤ smaller x y) within n
unfolding larger smaller
extremes {n} a b x y h k = pick (lt_z a b) b a (λ u. (u +ℤ cond (lt_z y x) y x) within n)
    (λ l. pick (lt_z y x) y x (λ v. (b +ℤ v) within n)
    (λ m. k)
    (λ m. within-between h k (le! (⟨ a ⟩ ⊕ ⟨ x ⟩) (⟨ b ⟩ ⊕ ⟨ x ⟩) (omega (ints, lt_yes {a = a} {b = b} l))) (le! (⟨ b ⟩ ⊕ ⟨ x ⟩) (⟨ b ⟩ ⊕ ⟨ y ⟩) (omega (ints, lt_no {a = y} {b = x} m)))))
    (λ l. pick (lt_z y x) y x (λ v. (a +ℤ v) within n)
    (λ m. within-between k h (le! (⟨ b ⟩ ⊕ ⟨ y ⟩) (⟨ a ⟩ ⊕ ⟨ y ⟩) (omega (ints, lt_no {a = a} {b = b} l))) (le! (⟨ a ⟩ ⊕ ⟨ y ⟩) (⟨ a ⟩ ⊕ ⟨ x ⟩) (omega (ints, lt_yes {a = y} {b = x} m))))
    (λ m. h))

-- the first value, or with those before it
peak-opposed : {n : ℕ} (b : Bool) (a u x v : ℤ) → (a +ℤ x) within n → (u +ℤ v) within n → (cond b (larger a u) u +ℤ cond b (smaller x v) v) within n
peak-opposed true a u x v h k = extremes a u x v h k
peak-opposed false a u x v h k = k

trof-opposed : {n : ℕ} (b : Bool) (a u x v : ℤ) → (a +ℤ x) within n → (u +ℤ v) within n → (cond b (smaller a u) u +ℤ cond b (larger x v) v) within n
trof-opposed {n} b a u x v h k = turned (cond b (larger x v) v) (cond b (smaller a u) u) (peak-opposed b x v a u (turned a x h) (turned u v k))
  where
    turned : (x y : ℤ) → (x +ℤ y) within n → (y +ℤ x) within n
    turned x y f = subst (λ (z : ℤ). z within n) (+ℤ_comm x y) f

-- ---- FLAG keeps what each STAT raised

latched : {a b x y : ℕ} → ChangeSides a b → ChangeSides x y → ChangeSides (bit_or a x) (bit_or b y)
latched {a} {b} {x} {y} h k = record {
  ecomur_is = both ecomur ecomor h.ecomur_is k.ecomur_is;
  ecomor_is = both ecomor ecomur h.ecomor_is k.ecomor_is;
  crawur_is = both crawur crawor h.crawur_is k.crawur_is;
  crawor_is = both crawor crawur h.crawor_is k.crawor_is;
  tempur_is = both tempur tempur h.tempur_is k.tempur_is;
  tempor_is = both tempor tempor h.tempor_is k.tempor_is;
  lcinteg_is = both lcinteg lcinteg h.lcinteg_is k.lcinteg_is;
}
  where
    both : (i j : ℕ) → bit_at i b ≡ bit_at j a → bit_at i y ≡ bit_at j x → bit_at i (bit_or b y) ≡ bit_at j (bit_or a x)
    both i j f g = bit-or i b y ∙ ap₂ max f g ∙ sym (bit-or j a x)

-- ---- a reading

-- what CELL, SRAW and SYS keep at every ELEC and TEMP
pub record Keeps (step steps : ℕ) (c m : Calibration) : Type 0 where
  pub cells : (elec temp : ℤ) → (cell m (neg_ℤ elec) temp +ℤ cell c elec temp) within step
  pub sraws : (elec temp : ℤ) → (sraw m (neg_ℤ elec) temp +ℤ sraw c elec temp) within steps
  pub syss : (elec temp : ℤ) → (sys m (neg_ℤ elec) temp +ℤ sys c elec temp) within steps

module _ {step steps : ℕ} {c m : Calibration} (ok : Acceptable c) (k : Mirrors c m) (near : Keeps step steps c m) where
  abbrev table : List Point
  table = linearities c.linearity

  remembers : {p q : State} → Opposite step steps table p q → remembered_of q.readings ≡ pulled_memory (remembered_of p.readings)
  remembers {p} {q} h = rw (h.any_is, h.input_is, h.elec_is) (picked p.readings.any)
    where
      picked : (b : Bool) → cond b (some (record { input = neg_ℤ p.readings.input; held = neg_ℤ p.readings.elec })) none
          ≡ pulled_memory (cond b (some (record { input = p.readings.input; held = p.readings.elec })) none)
      picked true = refl
      picked false = refl

  read : {p q : State} (elec temp : ℤ) (integrity : ℕ) → Opposite step steps table p q → Opposite step steps table (state_after_reading c p elec temp integrity) (state_after_reading m q (neg_ℤ elec) temp integrity)
  unfolding state_after_reading state_after_values readings_after values_of peak_after trof_after
  read {p} {q} elec temp integrity h =
      let r = p.readings in
      let s = q.readings in
      let e = held_by c.filter (remembered_of r) elec in
      let held : held_by m.filter (remembered_of s) (neg_ℤ elec) ≡ neg_ℤ e =
      ap (λ (f : Filter). held_by f (remembered_of s) (neg_ℤ elec)) k.filter ∙ ap (λ (o : Option Remembered). held_by c.filter o (neg_ℤ elec)) (remembers h) ∙ pulling.filter c.filter (remembered_of r) elec in
      let pulls = pulling.reading c m e temp ok k in
      let n = near.syss e temp in
      rw held (record {
        any_is = refl;
        input_is = refl;
        elec_is = refl;
        temp_is = refl;
        craw_is = pulls.craw_is;
        cell_near = near.cells e temp;
        sraw_near = near.sraws e temp;
        sys_near = n;
        exactly = λ z. let x = pulls.no_half z in (x.cell_is, x.sraw_is, x.sys_is);
        peak_near = rw h.any_is (peak-opposed r.any s.peak (sys m (neg_ℤ e) temp) r.trof (sys c e temp) h.peak_near n);
        trof_near = rw h.any_is (trof-opposed r.any s.trof (sys m (neg_ℤ e) temp) r.peak (sys c e temp) h.trof_near n);
        flags = latched h.flags (pulls.flags integrity);
      })

  -- ---- a run of them

  step-on : (d e : Device) (x : Sample) → d.setup.figures ≡ c → e.setup.figures ≡ m → Opposite step steps table d.state e.state
      → Opposite step steps table (after_call d (push x)).state (after_call e (pull x)).state
  step-on d e x cd me h = rw (bad-odd x.elec x.temp x.integrity) (picked (bad_reading x.elec x.temp x.integrity))
    where
      picked : (b : Bool) → Opposite step steps table (cond b d (after_reading d x.elec x.temp x.integrity)).state (cond b e (after_reading e (neg_ℤ x.elec) x.temp x.integrity)).state
      picked true = h
      picked false = rw (cd, me) (read x.elec x.temp x.integrity h)

  runs : (d e : Device) (samples : List Sample) → d.setup.figures ≡ c → e.setup.figures ≡ m → Opposite step steps table d.state e.state
      → Opposite step steps table (run d (map push samples)).state (run e (map pull samples)).state
  runs d e [] cd me h = h
  runs d e (x ∷ rest) cd me h = runs (after_call d (push x)) (after_call e (pull x)) rest (kept d x.elec x ∙ cd) (kept e (neg_ℤ x.elec) x ∙ me) (step-on d e x cd me h)
    where
      kept : (d : Device) (elec : ℤ) (x : Sample) → (after_call d (reading elec x.temp x.integrity)).setup.figures ≡ d.setup.figures
      kept d elec x =
          pick (bad_reading elec x.temp x.integrity) d (after_reading d elec x.temp x.integrity) (λ a. a.setup.figures ≡ d.setup.figures) (λ _. refl) (λ _. refl)

-- ---- from the making on

nothing_yet : {step steps : ℕ} {table : List Point} → Opposite step steps table fresh fresh
unfolding fresh bit_at
nothing_yet = record { any_is = refl; input_is = refl; elec_is = refl; temp_is = refl; craw_is = refl; cell_near = none; sraw_near = none; sys_near = none; exactly = λ _. (refl, refl, refl); peak_near = none; trof_near = none; flags = record { ecomur_is = refl; ecomor_is = refl; crawur_is = refl; crawor_is = refl; tempur_is = refl; tempor_is = refl; lcinteg_is = refl } }
  where
    none : {n : ℕ} → (pos 0 +ℤ pos 0) within n
    none = record { abs = omega arith }

module _ (sheet mirror : List ℕ) (station other : ℕ) (pair : Pair sheet mirror station other) where
  abbrev figures : Calibration
  figures = (read_sheet sheet).figures

  ok : Acceptable figures
  ok = (making-sound sheet station pair.accepted).acceptable

  from-making : {step steps : ℕ} → Keeps step steps figures (read_sheet mirror).figures → (samples : List Sample) → Opposite step steps (table_of sheet) (state_of sheet station (map push samples)) (state_of mirror other (map pull samples))
  from-making {step} {steps} near samples =
      subst (λ (d : Device). Opposite step steps (table_of sheet) (run d (map push samples)).state (state_of mirror other (map pull samples))) (sym (making-accepted sheet station pair.accepted).starts)
      (subst (λ (e : Device). Opposite step steps (table_of sheet) (run (started (setup_of sheet station)) (map push samples)).state (run e (map pull samples)).state) (sym (making-accepted mirror other pair.mirror_accepted).starts)
      (runs ok pair.mirrors near (started (setup_of sheet station)) (started (setup_of mirror other)) samples refl refl
      nothing_yet))

  pulls : (elec temp : ℤ) → Pulls figures (read_sheet mirror).figures elec temp
  pulls elec temp = pulling.reading figures (read_sheet mirror).figures elec temp ok pair.mirrors

  keeps-near : Keeps 1 8 figures (read_sheet mirror).figures
  keeps-near = record { cells = λ e t. (pulls e t).cell_near; sraws = λ e t. (pulls e t).sraw_near; syss = λ e t. (pulls e t).sys_near }

  module _ (z : ColumnWithin 1 0 (table_of sheet)) where
    exactly : (elec temp : ℤ) → Exactly figures (read_sheet mirror).figures elec temp
    exactly elec temp = (pulls elec temp).no_half (none-no-half 1 (table_of sheet) (craw figures elec temp) ok.linearity_ok.rising z)

    keeps-exact : Keeps 0 0 figures (read_sheet mirror).figures
    keeps-exact = record { cells = λ e t. none _ _ (exactly e t).cell_is; sraws = λ e t. none _ _ (exactly e t).sraw_is; syss = λ e t. none _ _ (exactly e t).sys_is }
      where
        none : (x y : ℤ) → x ≡ neg_ℤ y → (x +ℤ y) within 0
        none x y e = rw (e, +ℤ_invl y) (record { abs = omega arith })

-- ---- a mirrored sheet: the bytes of the mirrored figures

accepted-making : (sheet : List ℕ) (station : ℕ) → station_fits station ≡ true → (read_sheet sheet).number ≡ 0 → (made sheet station).number ≡ 0
unfolding made
accepted-making sheet station s h = rw (s, h)

paired : (sheet : List ℕ) (station : ℕ) → (made sheet station).number ≡ 0 → MirroredSheet sheet station
paired sheet station h =
    let c = (read_sheet sheet).figures in
    let a = making-accepted sheet station h in
    let r = read-accepted sheet a.sheet-accepted in
    let k = mirror-mirrors c r.representable r.acceptable in
    let e = written_read (mirror_of c) (mirror-representable c r.representable r.acceptable) (mirrors-acceptable k r.acceptable) in
    record {
      bytes = sheet_bytes (mirror_of c);
      pair = record {
        accepted = h;
        mirror_accepted = accepted-making (sheet_bytes (mirror_of c)) station a.station-fits (ap (λ (s : Sheet). s.number) e);
        mirrors = subst (λ (s : Sheet). Mirrors c s.figures) (sym e) (mirrors-unused k);
      };
    }

pub both_ways : BothWays
both_ways = record {
  number_is = λ d e x. ap (λ (b : Bool). cond b 9 0) (bad-odd x.elec x.temp x.integrity);
  near = λ sheet mirror station other pair. from-making sheet mirror station other pair (keeps-near sheet mirror station other pair);
  exact = λ sheet mirror station other pair z. from-making sheet mirror station other pair (keeps-exact sheet mirror station other pair z);
  paired = paired;
}
