-- Pulling is as good as pushing (specs/Pulling.antt): each step of a reading turns the sign, by `round-odd`; the correction, of which the
-- mirrored table is read from its other end, by the laws of `arithmetic/proofs/Mirror.antt`. Assumes nothing.
use mathlib.Core.Path.{◌≡◌, refl, sym, ◌∙◌, ap, ap₂, subst}
use mathlib.Core.Bool.{Bool, true, false, cond, ◌||◌}
use mathlib.Core.List.{List, [], ◌∷◌}
use mathlib.Core.Logic.{◌⊎◌, inl, inr, ⊎_elim}
use mathlib.Core.Option.{Option, none, some}
use Prim.Native.Nat.{ℕ, ◌≤◌, ◌<◌}
use native.Mathlib.Omega.{arith}
use native.Mathlib.Nat.{eq-or-lt_of_le, mul-le-mul_right}
use lib.IntN.{ℤ, pos, negsuc, neg_ℤ, neg_ℤ-neg_ℤ, neg_ℤ-+ℤ, nat_abs, ◌+ℤ◌, ◌-ℤ◌, ◌*ℤ◌}
use lib.Signed.{lt_z, ◌≤ℤ◌, ◌<ℤ◌}
use Rattle.integers.specs.Within.{◌within◌}
use Rattle.integers.proofs.Parts.{ints}
use Rattle.integers.proofs.Difference.{⟨◌⟩, lt! }
use Rattle.integers.proofs.Order.{neg-le, neg-lt, lt-neg, pick, lt_yes, lt_no, yes_lt, no_lt, <-≤}
use Rattle.integers.proofs.Magnitude.{abs-mul, abs_neg, abs-sum3}
use Rattle.integers.proofs.Ring.{ring, polynomials}
use Rattle.arithmetic.specs.Round.{round_div}
use Rattle.arithmetic.specs.Fraction.{whole, Near}
use Rattle.arithmetic.specs.Table.{Point, interpolated}
use Rattle.arithmetic.specs.Mirror.{mirrored}
use Rattle.arithmetic.proofs.Near.{one-pos}
use Rattle.arithmetic.proofs.Round.{round-odd, round-near, round_whole}
use Rattle.arithmetic.proofs.Mirror.{odd-cond, mirrored-near, mirrored-exact, mirrored-beside, odd-column, same-column}
use Rattle.figures.specs.Limits.{sgai_most}
use Rattle.figures.specs.Rows.{temperatures, linearities}
use Rattle.figures.specs.Acceptable.{Acceptable}
use Rattle.figures.specs.Mirror.{cto_negated, Mirrors}
use Rattle.figures.proofs.Mirror.{cto-places, cto-negated, ctg-same}
use Rattle.figures.specs.declared.Calibration.{Calibration}
use Rattle.figures.specs.declared.Filter.{Filter}
use Rattle.compensation.specs.Hold.{hold, hold_f}
use Rattle.compensation.specs.Filter.{Remembered, is_zero, filtered, held_by}
use Rattle.compensation.specs.Reading.{one, scaled, o, g, y, raw_cell, craw, cell, raw_system, sraw, sys}
use Rattle.compensation.specs.Pulling.{pulled_memory, ChangeSides, Exactly, Pulls, Pulling}
use Rattle.compensation.specs.Stat.{weigh, stat}
use Rattle.compensation.proofs.Held.{near-hold}
use Rattle.compensation.proofs.Flags.{stat-bits}
use Rattle.compensation.proofs.Magnitudes.{one-above}

-- ---- each step, of the negative

scaled-odd : (x gain : ℤ) → scaled (neg_ℤ x) gain ≡ neg_ℤ (scaled x gain)
unfolding scaled
scaled-odd x gain = ap (λ (z : ℤ). round_div z one) (turned x gain) ∙ round-odd (x *ℤ gain) one
  where
    turned : (x gain : ℤ) → neg_ℤ x *ℤ gain ≡ neg_ℤ (x *ℤ gain)
    turned x gain = ring (x ∷ gain ∷ []) (search polynomials depth 20 fits 9000) refl

hold-odd : (lo hi x : ℤ) → lo <ℤ hi → hold (neg_ℤ hi) (neg_ℤ lo) (neg_ℤ x) ≡ neg_ℤ (hold lo hi x)
unfolding hold
hold-odd lo hi x h = pick (lt_z x lo) lo (cond (lt_z hi x) hi x) Turned
    (λ a. let l : x <ℤ lo = lt_yes a in rw (no_lt (<-≤ (neg-lt (lt! ⟨ x ⟩ ⟨ hi ⟩ (omega (ints, h, l))))), yes_lt (neg-lt l)))
    (λ a. pick (lt_z hi x) hi x Turned
    (λ b. let l : hi <ℤ x = lt_yes b in rw (yes_lt (neg-lt l)))
    (λ b. let l : lo ≤ℤ x = lt_no a in let u : x ≤ℤ hi = lt_no b in rw (no_lt (neg-le u), no_lt (neg-le l))))
  where
    Turned : ℤ → Type 0
    Turned z = cond (lt_z (neg_ℤ x) (neg_ℤ hi)) (neg_ℤ hi) (cond (lt_z (neg_ℤ lo) (neg_ℤ x)) (neg_ℤ lo) (neg_ℤ x)) ≡ neg_ℤ z

filtered-odd : (f : Filter) (first : Bool) (previous held input : ℤ) → filtered f first (neg_ℤ previous) (neg_ℤ held) (neg_ℤ input) ≡ neg_ℤ (filtered f first previous held input)
unfolding filtered
filtered-odd f first previous held input = rw (ap nat_abs (turned input previous), abs_neg (input -ℤ previous))
    (odd-cond (first || (is_zero f.fflv || is_zero f.ffst)) input (cond (lt_z f.fflv (pos (nat_abs (input -ℤ previous)))) input stepped) refl
    (odd-cond (lt_z f.fflv (pos (nat_abs (input -ℤ previous)))) input stepped refl
    (ap (λ (z : ℤ). neg_ℤ held +ℤ round_div z f.ffst) (turned input held) ∙ ap (λ (z : ℤ). neg_ℤ held +ℤ z) (round-odd (input -ℤ held) f.ffst) ∙ sym (neg_ℤ-+ℤ held (round_div (input -ℤ held) f.ffst)))))
  where
    stepped : ℤ
    stepped = held +ℤ round_div (input -ℤ held) f.ffst

    turned : (x y : ℤ) → neg_ℤ x -ℤ neg_ℤ y ≡ neg_ℤ (x -ℤ y)
    turned x y = sym (neg_ℤ-+ℤ x (neg_ℤ y))

held-odd : (f : Filter) (r : Option Remembered) (input : ℤ) → held_by f (pulled_memory r) (neg_ℤ input) ≡ neg_ℤ (held_by f r input)
held-odd f none input = filtered-odd f true (pos 0) (pos 0) input
held-odd f (some r) input = filtered-odd f false r.input r.held input

-- ---- and of what is nearly the negative

whole-held : (lo hi z : ℤ) → hold_f lo hi (whole z) ≡ whole (hold lo hi z)
unfolding hold hold_f
whole-held lo hi z = rw (once lo, once hi) (picked (lt_z z lo) (lt_z hi z))
  where
    once : (x : ℤ) → x *ℤ pos 1 ≡ x
    once x = ring (x ∷ []) (search polynomials depth 20 fits 9000) refl

    picked : (b d : Bool) → cond b (whole lo) (cond d (whole hi) (whole z)) ≡ whole (cond b lo (cond d hi z))
    picked true d = refl
    picked false true = refl
    picked false false = refl

-- by the distance from a whole number
hold-opposed : {k : ℕ} (lo hi u v : ℤ) → lo <ℤ hi → (v +ℤ u) within k → (hold (neg_ℤ hi) (neg_ℤ lo) v +ℤ hold lo hi u) within k
hold-opposed {k} lo hi u v h l =
    let near : Near k 1 u (whole (neg_ℤ v)) = record { above = one-pos; near = rw (across u v) (omega (arith, l.abs)) } in
    let e : hold (neg_ℤ hi) (neg_ℤ lo) v ≡ neg_ℤ (hold lo hi (neg_ℤ v)) = ap (hold (neg_ℤ hi) (neg_ℤ lo)) (sym (neg_ℤ-neg_ℤ v)) ∙ hold-odd lo hi (neg_ℤ v) h in
    let d = rw (whole-held lo hi (neg_ℤ v)) at (near-hold lo hi (<-≤ h) near).near in
    rw e (record { abs = rw (back (hold lo hi u) (hold lo hi (neg_ℤ v))) (omega (arith, d)) })
  where
    across : (u v : ℤ) → u *ℤ pos 1 -ℤ neg_ℤ v ≡ v +ℤ u
    across u v = ring (u ∷ v ∷ []) (search polynomials depth 20 fits 9000) refl

    back : (x z : ℤ) → neg_ℤ z +ℤ x ≡ x *ℤ pos 1 -ℤ z
    back x z = ring (x ∷ z ∷ []) (search polynomials depth 20 fits 9000) refl

-- a step of u is at most 8 of u × gain, rounded: the largest gain, 8, is whole, and a smaller one gives less than 8
module _ (u z gain : ℤ) (l : nat_abs (u -ℤ z) ≤ 1) where
  smaller : nat_abs gain < sgai_most → nat_abs (round_div (u *ℤ gain) one -ℤ round_div (z *ℤ gain) one) ≤ 8
  smaller g =
      let r = round_div (u *ℤ gain) one in
      let s = round_div (z *ℤ gain) one in
      let apart = simp (abs-mul, abs_neg) at (abs-sum3 (r *ℤ one -ℤ u *ℤ gain) (neg_ℤ (s *ℤ one -ℤ z *ℤ gain)) ((u -ℤ z) *ℤ gain) (split r s u z gain one)) in
      omega (arith, apart, round-near (u *ℤ gain) one one-above, round-near (z *ℤ gain) one one-above, mul-le-mul_right (nat_abs gain) l)
    where
      split : (r s u z g d : ℤ) → (r -ℤ s) *ℤ d ≡ (r *ℤ d -ℤ u *ℤ g) +ℤ neg_ℤ (s *ℤ d -ℤ z *ℤ g) +ℤ (u -ℤ z) *ℤ g
      split r s u z g d = ring (r ∷ s ∷ u ∷ z ∷ g ∷ d ∷ []) (search polynomials depth 20 fits 9000) refl

  by_whole : (k : ℤ) → nat_abs k ≡ 8 → gain ≡ k *ℤ one → nat_abs (round_div (u *ℤ gain) one -ℤ round_div (z *ℤ gain) one) ≤ 8
  by_whole k e is =
      let a : round_div (u *ℤ gain) one ≡ u *ℤ k = ap (λ (n : ℤ). round_div n one) (ap (λ (g : ℤ). u *ℤ g) is ∙ taken u k one) ∙ round_whole (u *ℤ k) one one-above in
      let b : round_div (z *ℤ gain) one ≡ z *ℤ k = ap (λ (n : ℤ). round_div n one) (ap (λ (g : ℤ). z *ℤ g) is ∙ taken z k one) ∙ round_whole (z *ℤ k) one one-above in
      rw (a, b, together u z k) (rw (abs-mul (u -ℤ z) k, e) (omega arith))
    where
      taken : (u k d : ℤ) → u *ℤ (k *ℤ d) ≡ u *ℤ k *ℤ d
      taken u k d = ring (u ∷ k ∷ d ∷ []) (search polynomials depth 20 fits 9000) refl

      together : (u z k : ℤ) → u *ℤ k -ℤ z *ℤ k ≡ (u -ℤ z) *ℤ k
      together u z k = ring (u ∷ z ∷ k ∷ []) (search polynomials depth 20 fits 9000) refl

  scaled-apart : gain within sgai_most → nat_abs (scaled u gain -ℤ scaled z gain) ≤ 8
  unfolding scaled
  scaled-apart h = ⊎_elim (λ e. ⊎_elim (by_whole (pos 8) refl) (by_whole (neg_ℤ (pos 8)) refl) (eight gain e)) smaller (eq-or-lt_of_le h.abs)
    where
      eight : (g : ℤ) → nat_abs g ≡ sgai_most → (g ≡ pos 8 *ℤ one) ⊎ (g ≡ neg_ℤ (pos 8) *ℤ one)
      eight (pos n) e = inl (ap pos e)
      eight (negsuc n) e = inr (ap negsuc (omega (arith, e)))

scaled-opposed : (u v gain : ℤ) → gain within sgai_most → (v +ℤ u) within 1 → (scaled v gain +ℤ scaled u gain) within 8
scaled-opposed u v gain h l =
    let e : scaled v gain ≡ neg_ℤ (scaled (neg_ℤ v) gain) = ap (λ (z : ℤ). scaled z gain) (sym (neg_ℤ-neg_ℤ v)) ∙ scaled-odd (neg_ℤ v) gain in
    rw e (record { abs = rw (across (scaled u gain) (scaled (neg_ℤ v) gain)) (scaled-apart u (neg_ℤ v) gain (rw (back u v) l.abs) h) })
  where
    across : (x z : ℤ) → neg_ℤ z +ℤ x ≡ x -ℤ z
    across x z = ring (x ∷ z ∷ []) (search polynomials depth 20 fits 9000) refl

    back : (u v : ℤ) → u -ℤ neg_ℤ v ≡ v +ℤ u
    back u v = ring (u ∷ v ∷ []) (search polynomials depth 20 fits 9000) refl

both-less : (u v s : ℤ) → (u -ℤ neg_ℤ s) +ℤ (v -ℤ s) ≡ u +ℤ v
both-less u v s = ring (u ∷ v ∷ s ∷ []) (search polynomials depth 20 fits 9000) refl

-- a test of two negatives goes the other way
turned : (y z : ℤ) {x u : ℤ} → x ≡ neg_ℤ y → u ≡ neg_ℤ z → weigh (lt_z x u) 1 ≡ weigh (lt_z z y) 1
turned y z a b = ap₂ (λ (s t : ℤ). weigh (lt_z s t) 1) a b ∙ ap (λ (t : Bool). weigh t 1) (lt-neg y z)

-- ---- a reading

module _ (c m : Calibration) (elec temp : ℤ) (ok : Acceptable c) (k : Mirrors c m) where
  o-odd : interpolated 1 (temperatures m.temperature) temp ≡ neg_ℤ (o c elec temp)
  o-odd = rw k.temperature (odd-column 1 cto_negated cto-places cto-negated (temperatures c.temperature) temp)

  g-same : interpolated 2 (temperatures m.temperature) temp ≡ g c elec temp
  g-same = rw k.temperature (same-column 2 cto_negated cto-places ctg-same (temperatures c.temperature) temp)

  y-odd : y m (neg_ℤ elec) temp ≡ neg_ℤ (y c elec temp)
  unfolding y
  y-odd = rw (k.cofs, k.cgai, o-odd, turned elec c.cell.cofs (o c elec temp)) (scaled-odd (elec -ℤ c.cell.cofs -ℤ o c elec temp) c.cell.cgai)
    where
      turned : (e a b : ℤ) → neg_ℤ e -ℤ neg_ℤ a -ℤ neg_ℤ b ≡ neg_ℤ (e -ℤ a -ℤ b)
      turned e a b = ring (e ∷ a ∷ b ∷ []) (search polynomials depth 20 fits 9000) refl

  raw-odd : raw_cell m (neg_ℤ elec) temp ≡ neg_ℤ (raw_cell c elec temp)
  unfolding raw_cell
  raw-odd = rw (y-odd, g-same) (scaled-odd (y c elec temp) (one +ℤ g c elec temp))

  flags-odd : (i : ℕ) → ChangeSides (stat c elec temp i) (stat m (neg_ℤ elec) temp i)
  flags-odd i =
      let p = stat-bits c elec temp i in
      let q = stat-bits m (neg_ℤ elec) temp i in
      record {
        ecomur_is = q.ecomur_is ∙ turned elec (pos 7864320) refl refl ∙ sym p.ecomor_is;
        ecomor_is = q.ecomor_is ∙ turned (neg_ℤ (pos 7864320)) elec refl refl ∙ sym p.ecomur_is;
        crawur_is = q.crawur_is ∙ turned (raw_cell c elec temp) c.cell.cmax raw-odd k.cmin ∙ sym p.crawor_is;
        crawor_is = q.crawor_is ∙ turned c.cell.cmin (raw_cell c elec temp) k.cmax raw-odd ∙ sym p.crawur_is;
        tempur_is = q.tempur_is ∙ sym p.tempur_is;
        tempor_is = q.tempor_is ∙ sym p.tempor_is;
        lcinteg_is = q.lcinteg_is ∙ sym p.lcinteg_is;
      }

  craw-odd : craw m (neg_ℤ elec) temp ≡ neg_ℤ (craw c elec temp)
  unfolding craw
  craw-odd = rw (raw-odd, k.cmin, k.cmax) (hold-odd c.cell.cmin c.cell.cmax (raw_cell c elec temp) ok.cell_ok.ordered)

  abbrev X : ℤ
  X = craw c elec temp

  abbrev table : List Point
  table = linearities c.linearity

  abbrev pulled : ℤ
  pulled = interpolated 1 (mirrored table) (neg_ℤ X)

  cell_is : cell c elec temp ≡ X +ℤ interpolated 1 table X
  unfolding cell
  cell_is = refl

  cell-by : cell m (neg_ℤ elec) temp ≡ neg_ℤ X +ℤ pulled
  unfolding cell
  cell-by = rw (k.linearity, craw-odd)

  cell-opposed : (cell m (neg_ℤ elec) temp +ℤ cell c elec temp) within 1
  cell-opposed = rw (cell-by, cell_is, together X pulled (interpolated 1 table X)) (mirrored-near 1 X table ok.linearity_ok.rising)
    where
      together : (x u v : ℤ) → (neg_ℤ x +ℤ u) +ℤ (x +ℤ v) ≡ u +ℤ v
      together x u v = ring (x ∷ u ∷ v ∷ []) (search polynomials depth 20 fits 9000) refl

  -- step 5, where CELL is the exact negative
  module _ (e : cell m (neg_ℤ elec) temp ≡ neg_ℤ (cell c elec temp)) where
    raw-system-odd : raw_system m (neg_ℤ elec) temp ≡ neg_ℤ (raw_system c elec temp)
    unfolding raw_system
    raw-system-odd = rw (e, k.sofs, k.sgai) (ap (λ (z : ℤ). scaled z c.system.sgai) (sym (neg_ℤ-+ℤ (cell c elec temp) (neg_ℤ c.system.sofs))) ∙ scaled-odd (cell c elec temp -ℤ c.system.sofs) c.system.sgai)

    sraw-odd : sraw m (neg_ℤ elec) temp ≡ neg_ℤ (sraw c elec temp)
    unfolding sraw
    sraw-odd = rw (raw-system-odd, k.smin, k.smax) (hold-odd c.system.smin c.system.smax (raw_system c elec temp) ok.system_ok.ordered)

    exactly : Exactly c m elec temp
    unfolding sys
    exactly = record {
      cell_is = e;
      sraw_is = sraw-odd;
      sys_is = rw (sraw-odd, k.sz) (sym (neg_ℤ-+ℤ (sraw c elec temp) (neg_ℤ c.system.sz)));
      sysur_is = λ i. (stat-bits m (neg_ℤ elec) temp i).sysur_is ∙ turned (raw_system c elec temp) c.system.smax raw-system-odd k.smin ∙ sym (stat-bits c elec temp i).sysor_is;
      sysor_is = λ i. (stat-bits m (neg_ℤ elec) temp i).sysor_is ∙ turned c.system.smin (raw_system c elec temp) k.smax raw-system-odd ∙ sym (stat-bits c elec temp i).sysur_is;
    }

  -- and where it is within a step
  raw-system-opposed : (raw_system m (neg_ℤ elec) temp +ℤ raw_system c elec temp) within 8
  unfolding raw_system
  raw-system-opposed =
      subst (λ (z : ℤ). (z +ℤ raw_system c elec temp) within 8) (sym (ap₂ (λ (s gain : ℤ). scaled (cell m (neg_ℤ elec) temp -ℤ s) gain) k.sofs k.sgai))
      (scaled-opposed (cell c elec temp -ℤ c.system.sofs) (cell m (neg_ℤ elec) temp -ℤ neg_ℤ c.system.sofs) c.system.sgai ok.system_ok.sgai_in
      (rw (both-less (cell m (neg_ℤ elec) temp) (cell c elec temp) c.system.sofs) cell-opposed))

  sraw-opposed : (sraw m (neg_ℤ elec) temp +ℤ sraw c elec temp) within 8
  unfolding sraw
  sraw-opposed =
      subst (λ (z : ℤ). (z +ℤ sraw c elec temp) within 8) (sym (ap₂ (λ (lo hi : ℤ). hold lo hi (raw_system m (neg_ℤ elec) temp)) k.smin k.smax))
      (hold-opposed c.system.smin c.system.smax (raw_system c elec temp) (raw_system m (neg_ℤ elec) temp) ok.system_ok.ordered raw-system-opposed)

  sys-opposed : (sys m (neg_ℤ elec) temp +ℤ sys c elec temp) within 8
  unfolding sys
  sys-opposed =
      subst (λ (z : ℤ). (z +ℤ sys c elec temp) within 8) (sym (ap (λ (s : ℤ). sraw m (neg_ℤ elec) temp -ℤ s) k.sz))
      (rw (both-less (sraw m (neg_ℤ elec) temp) (sraw c elec temp) c.system.sz) sraw-opposed)

  -- CELL, by the correction
  cell-odd : pulled ≡ neg_ℤ (interpolated 1 table X) → cell m (neg_ℤ elec) temp ≡ neg_ℤ (cell c elec temp)
  cell-odd e = cell-by ∙ ap (λ (z : ℤ). neg_ℤ X +ℤ z) e ∙ sym (neg_ℤ-+ℤ X (interpolated 1 table X)) ∙ ap neg_ℤ (sym cell_is)

  pulls : Pulls c m elec temp
  pulls = record {
    flags = flags-odd;
    craw_is = craw-odd;
    beside = λ b. exactly (cell-odd (mirrored-beside 1 X table ok.linearity_ok.rising b));
    no_half = λ n. exactly (cell-odd (mirrored-exact 1 X table ok.linearity_ok.rising n));
    cell_near = cell-opposed;
    sraw_near = sraw-opposed;
    sys_near = sys-opposed;
  }

pub pulling : Pulling
pulling = record { round = round-odd; filter = held-odd; reading = pulls }
