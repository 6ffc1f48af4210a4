-- A reading follows ELEC (specs/Monotone.antt): each step rises or falls with what it is handed. Of rounding that uses `round_mono`, and the
-- correction `round-apart`, which follow from `round-near` alone. Assumes nothing.
use mathlib.Core.Bool.{cond}
use mathlib.Core.Logic.{◌⊎◌, inl, inr, ⊎_elim}
use Prim.Native.Nat.{ℕ, ◌^◌}
use native.Mathlib.Omega.{arith}
use lib.IntN.{ℤ, pos, ◌+ℤ◌, ◌-ℤ◌, ◌*ℤ◌}
use lib.Signed.{lt_z, ◌≤ℤ◌, ◌<ℤ◌, ≤ℤ_refl, clash_ℤ}
use Rattle.integers.specs.Within.{◌within◌}
use Rattle.integers.proofs.Parts.{ints, abs-parts, le_parts}
use Rattle.integers.proofs.Difference.{⟨◌⟩, nat, ◌⊕◌, ◌⊝◌, ◌⊗◌, le! }
use Rattle.integers.proofs.Order.{pick, lt_yes, lt_no, product, ≤-or->, ≤_trans, <-≤}
use Rattle.arithmetic.proofs.Round.{round_mono}
use Rattle.arithmetic.proofs.Climb.{corrected-climbs}
use Rattle.arithmetic.proofs.Table.{interpolated-within}
use Rattle.figures.specs.Limits.{ctg_most}
use Rattle.figures.specs.Rows.{temperatures, linearities}
use Rattle.figures.specs.Acceptable.{Acceptable}
use Rattle.figures.specs.declared.Calibration.{Calibration}
use Rattle.compensation.specs.Hold.{hold}
use Rattle.compensation.specs.Reading.{one, scaled, o, g, y, raw_cell, craw, cell, raw_system, sraw, sys}
use Rattle.compensation.specs.Values.{values_of}
use Rattle.compensation.specs.Monotone.{NoneBelow, OneBelow, BothBelow, FollowsElec, Monotone}
use Rattle.compensation.proofs.Magnitudes.{one-above}

-- ---- a difference, a gain, a pair of limits

less : (v : ℤ) {x y : ℤ} → x ≤ℤ y → (x -ℤ v) ≤ℤ (y -ℤ v)
less v {x} {y} h = le! (⟨ x ⟩ ⊝ ⟨ v ⟩) (⟨ y ⟩ ⊝ ⟨ v ⟩) (omega ints)

scaled-rises : (gain : ℤ) {x y : ℤ} → pos 0 ≤ℤ gain → x ≤ℤ y → scaled x gain ≤ℤ scaled y gain
unfolding scaled
scaled-rises gain {x} {y} h l =
    round_mono (x *ℤ gain) (y *ℤ gain) one one-above (le! (⟨ x ⟩ ⊗ ⟨ gain ⟩) (⟨ y ⟩ ⊗ ⟨ gain ⟩) (omega (arith, product (le_parts h) (le_parts l))))

scaled-falls : (gain : ℤ) {x y : ℤ} → gain ≤ℤ pos 0 → x ≤ℤ y → scaled y gain ≤ℤ scaled x gain
unfolding scaled
scaled-falls gain {x} {y} h l =
    round_mono (y *ℤ gain) (x *ℤ gain) one one-above (le! (⟨ y ⟩ ⊗ ⟨ gain ⟩) (⟨ x ⟩ ⊗ ⟨ gain ⟩) (omega (arith, product (le_parts h) (le_parts l))))

hold-rises : (lo hi : ℤ) {x y : ℤ} → lo ≤ℤ hi → x ≤ℤ y → hold lo hi x ≤ℤ hold lo hi y
unfolding hold
hold-rises lo hi {x} {y} ordered l =
    pick (lt_z x lo) lo (cond (lt_z hi x) hi x) (λ s. s ≤ℤ cond (lt_z y lo) lo (cond (lt_z hi y) hi y))
    (λ a. pick (lt_z y lo) lo (cond (lt_z hi y) hi y) (λ t. lo ≤ℤ t) (λ b. ≤ℤ_refl lo) (λ b. pick (lt_z hi y) hi y (λ t. lo ≤ℤ t) (λ c. ordered) (λ c. lt_no b)))
    (λ a. pick (lt_z y lo) lo (cond (lt_z hi y) hi y) (λ t. cond (lt_z hi x) hi x ≤ℤ t) (λ b. clash_ℤ (lt_yes b) (≤_trans (lt_no a) l))
    (λ b. pick (lt_z hi x) hi x (λ s. s ≤ℤ cond (lt_z hi y) hi y)
    (λ c. pick (lt_z hi y) hi y (λ t. hi ≤ℤ t) (λ d. ≤ℤ_refl hi) (λ d. ≤_trans (<-≤ (lt_yes c)) l))
    (λ c. pick (lt_z hi y) hi y (λ t. x ≤ℤ t) (λ d. lt_no c) (λ d. l))))

-- 2^28 + g is above 0, as CTG is at most a tenth
adjusted-above : {g : ℤ} → g within ctg_most → pos 0 ≤ℤ (one +ℤ g)
adjusted-above {g} h = le! (nat 0) (nat (2 ^ 28) ⊕ ⟨ g ⟩) (omega (arith, abs-parts g))

-- ---- the steps at one temperature, from ELEC a to ELEC b

module _ (c : Calibration) (ok : Acceptable c) (temp a b : ℤ) where
  y-rises : pos 0 ≤ℤ c.cell.cgai → a ≤ℤ b → y c a temp ≤ℤ y c b temp
  unfolding y
  y-rises h l = scaled-rises c.cell.cgai h (less (o c a temp) (less c.cell.cofs l))

  y-falls : c.cell.cgai ≤ℤ pos 0 → a ≤ℤ b → y c b temp ≤ℤ y c a temp
  unfolding y
  y-falls h l = scaled-falls c.cell.cgai h (less (o c a temp) (less c.cell.cofs l))

  craw-rises : y c a temp ≤ℤ y c b temp → craw c a temp ≤ℤ craw c b temp
  unfolding craw raw_cell
  craw-rises l =
      hold-rises c.cell.cmin c.cell.cmax (<-≤ ok.cell_ok.ordered)
      (scaled-rises (one +ℤ g c a temp) (adjusted-above (interpolated-within 2 (temperatures c.temperature) temp ok.temperature_ok.ctg_in)) l)

  cell-rises : y c a temp ≤ℤ y c b temp → cell c a temp ≤ℤ cell c b temp
  unfolding cell
  cell-rises l = corrected-climbs 1 (linearities c.linearity) ok.linearity_ok.rising ok.linearity_ok.gentle (craw-rises l)

  sraw-rises : pos 0 ≤ℤ c.system.sgai → y c a temp ≤ℤ y c b temp → sraw c a temp ≤ℤ sraw c b temp
  unfolding sraw raw_system
  sraw-rises h l = hold-rises c.system.smin c.system.smax (<-≤ ok.system_ok.ordered) (scaled-rises c.system.sgai h (less c.system.sofs (cell-rises l)))

  sys-rises : pos 0 ≤ℤ c.system.sgai → y c a temp ≤ℤ y c b temp → sys c a temp ≤ℤ sys c b temp
  unfolding sys
  sys-rises h l = less c.system.sz (sraw-rises h l)

  sys-falls : c.system.sgai ≤ℤ pos 0 → y c a temp ≤ℤ y c b temp → sys c b temp ≤ℤ sys c a temp
  unfolding sys sraw raw_system
  sys-falls h l =
      less c.system.sz (hold-rises c.system.smin c.system.smax (<-≤ ok.system_ok.ordered) (scaled-falls c.system.sgai h (less c.system.sofs (cell-rises l))))

follows : (c : Calibration) → Acceptable c → (low high temp : ℤ) (i j : ℕ) → low ≤ℤ high → FollowsElec c (values_of c low temp i) (values_of c high temp j)
unfolding values_of
follows c ok low high temp i j l = record {
  none_below = λ h.
      let up = y-rises c ok temp low high h.cgai l in
      record {
        craw = craw-rises c ok temp low high up;
        cell = cell-rises c ok temp low high up;
        sraw = sraw-rises c ok temp low high h.sgai up;
        sys = sys-rises c ok temp low high h.sgai up;
      };
  one_below = ⊎_elim
      (λ h. sys-rises c ok temp high low h.1 (y-falls c ok temp low high (<-≤ h.0) l))
      (λ h. sys-falls c ok temp low high (<-≤ h.1) (y-rises c ok temp low high h.0 l));
  both_below = λ h. sys-falls c ok temp high low (<-≤ h.sgai) (y-falls c ok temp low high (<-≤ h.cgai) l);
}

signs : (c : Calibration) → NoneBelow c ⊎ (OneBelow c ⊎ BothBelow c)
signs c = ⊎_elim
    (λ p. ⊎_elim (λ q. inl (record { cgai = p; sgai = q })) (λ q. inr (inl (inr (p, q)))) sgai)
    (λ p. ⊎_elim (λ q. inr (inl (inl (p, q)))) (λ q. inr (inr (record { cgai = p; sgai = q }))) sgai)
    (≤-or-> (pos 0) c.cell.cgai)
  where
    sgai : (pos 0 ≤ℤ c.system.sgai) ⊎ (c.system.sgai <ℤ pos 0)
    sgai = ≤-or-> (pos 0) c.system.sgai

pub monotone : Monotone
monotone = record { follows = follows; signs = signs }
