-- STAT's bits as the code finds them: none where the inputs are within their ranges, and those of a raw value from what it was
-- held at. Assumes nothing.
use mathlib.Core.Path.{◌≡◌, refl, sym, ◌∙◌, ap}
use mathlib.Core.Bool.{Bool, true, false, ◌&&◌}
use Prim.Native.Nat.{ℕ}
use lib.Bits.{bit_or, or_zero_r, or_comm}
use lib.Dec.{eqb}
use lib.IntN.{ℤ}
use lib.Signed.{lt_z, le_z, ◌<ℤ◌, le_z_yes}
use Rattle.integers.proofs.Parts.{ints}
use Rattle.integers.proofs.Order.{is_true, lt_yes, no_lt}
use Rattle.integers.proofs.Bits.{or_assoc}
use Rattle.integers.proofs.Machine.{and_left, and_right}
use Rattle.figures.specs.declared.Cell.{Cell}
use Rattle.figures.specs.declared.System.{System}
use Rattle.compensation.specs.Hold.{hold}
use Rattle.compensation.specs.Stat.{weigh, range, temp_under, temp_over, elec_under, elec_over, stat_of}
use Rattle.compensation.specs.ForCode.{input_bits, HeldBits, HeldStat}

-- ---- the inputs

pub inside-none : (lo hi x : ℤ) (under over : ℕ) → (le_z lo x && le_z x hi) ≡ true → range lo hi x under over ≡ 0
inside-none lo hi x under over e =
    let below : lt_z x lo ≡ false = no_lt {a = x} {b = lo} (le_z_yes (and_left (le_z lo x) (le_z x hi) (is_true e))) in
    let above : lt_z hi x ≡ false = no_lt {a = hi} {b = x} (le_z_yes (and_right (le_z lo x) (le_z x hi) (is_true e))) in
    rw (below, above)

-- ---- a raw value x that was held at h: unmoved, moved up, moved down

module _ {x h : ℤ} (under over : ℕ) where
  pub unmoved-none : x ≡ h → HeldBits x h under over 0
  unfolding hold
  unmoved-none e lo hi l k = by (lt_z x lo) (lt_z hi x) refl refl
    where
      by : (a b : Bool) → lt_z x lo ≡ a → lt_z hi x ≡ b → 0 ≡ bit_or (weigh a under) (weigh b over)
      by false false p q = refl
      by true b p q =
          let below : x <ℤ lo = lt_yes p in
          let at-lo : h ≡ lo = rw p at k in
          absurd (omega ints)
      by false true p q =
          let above : hi <ℤ x = lt_yes q in
          let at-hi : h ≡ hi = rw (p, q) at k in
          absurd (omega ints)

  pub raised-under : x <ℤ h → HeldBits x h under over under
  unfolding hold
  raised-under e lo hi l k = by (lt_z x lo) (lt_z hi x) refl refl
    where
      by : (a b : Bool) → lt_z x lo ≡ a → lt_z hi x ≡ b → under ≡ bit_or (weigh a under) (weigh b over)
      by true false p q = sym (or_zero_r under)
      by true true p q =
          let below : x <ℤ lo = lt_yes p in
          let above : hi <ℤ x = lt_yes q in
          absurd (omega ints)
      by false true p q =
          let above : hi <ℤ x = lt_yes q in
          let at-hi : h ≡ hi = rw (p, q) at k in
          absurd (omega ints)
      by false false p q = let there : h ≡ x = rw (p, q) at k in absurd (omega ints)

  pub lowered-over : h <ℤ x → HeldBits x h under over over
  unfolding hold
  lowered-over e lo hi l k = by (lt_z x lo) (lt_z hi x) refl refl
    where
      by : (a b : Bool) → lt_z x lo ≡ a → lt_z hi x ≡ b → over ≡ bit_or (weigh a under) (weigh b over)
      by true b p q =
          let below : x <ℤ lo = lt_yes p in
          let at-lo : h ≡ lo = rw p at k in
          absurd (omega ints)
      by false true p q = refl
      by false false p q = let there : h ≡ x = rw (p, q) at k in absurd (omega ints)

-- ---- the order in which the bits are joined

stat-joined : (c : Cell) (s : System) (elec temp cell system : ℤ) (integrity : ℕ)
    → bit_or (input_bits elec temp integrity) (bit_or (range c.cmin c.cmax cell 64 128) (range s.smin s.smax system 256 512)) ≡ stat_of c s elec temp cell system integrity
unfolding input_bits stat_of
stat-joined c s elec temp cell system integrity =
    by (range temp_under temp_over temp 4 8) (range elec_under elec_over elec 16 32) (weigh (eqb integrity 1) 2048) (range c.cmin c.cmax cell 64 128) (range s.smin s.smax system 256 512)
  where
    by : (t e f c s : ℕ) → bit_or (bit_or t (bit_or e f)) (bit_or c s) ≡ bit_or t (bit_or e (bit_or c (bit_or s f)))
    by t e f c s = or_assoc t (bit_or e f) (bit_or c s) ∙ ap (bit_or t) (or_assoc e f (bit_or c s) ∙ ap (bit_or e) (or_comm f (bit_or c s) ∙ or_assoc c s f))

module _ (elec temp x h y k : ℤ) (integrity : ℕ) {f : ℕ} (f-is : f ≡ input_bits elec temp integrity) where
  pub stat-held : {p q : ℕ} → HeldBits x h 64 128 p → HeldBits y k 256 512 q → HeldStat elec temp integrity x h y k (bit_or f (bit_or p q))
  stat-held p q c s l m e d = rw (f-is, p c.cmin c.cmax l e, q s.smin s.smax m d) (stat-joined c s elec temp x y integrity)

  pub stat-unmoved : x ≡ h → y ≡ k → HeldStat elec temp integrity x h y k f
  stat-unmoved e d c s l m i j = sym (or_zero_r f) ∙ stat-held (unmoved-none 64 128 e) (unmoved-none 256 512 d) c s l m i j
