-- Bits of STAT: each flag is raised exactly when its test holds. Assumes nothing.
use mathlib.Core.Path.{◌≡◌, refl, ◌∙◌}
use mathlib.Core.Bool.{Bool, true, false}
use Prim.Native.Nat.{ℕ, ◌<◌, ◌%◌, ◌^◌, max}
use native.Mathlib.Omega.{arith}
use native.Mathlib.Nat.{zero-div}
use mathlib.Core.Logic.{◌↔◌}
use lib.Bits.{bit_or, or_shr, or_step, or_lt}
use lib.Dec.{T, eqb, ltb, ltb→lt}
use lib.IntN.{ℤ, pos, neg_ℤ}
use lib.Signed.{lt_z, ◌<ℤ◌}
use borrow.Author.Tests.{eqb-true, eq-eqb}
use Rattle.integers.proofs.Order.{is_true, lt_yes, yes_lt}
use Rattle.figures.specs.declared.Calibration.{Calibration}
use Rattle.compensation.specs.Reading.{raw_cell, raw_system}
use Rattle.compensation.specs.Stat.{bit_at, Raised, weigh, range, temp_under, temp_over, elec_under, elec_over, stat, stat_of, tempur, tempor, ecomur, ecomor, crawur, crawor, sysur, sysor, lcinteg}

low_or : (x y : ℕ) → bit_or x y % 2 ≡ max (x % 2) (y % 2)
low_or x y = rw (or_step x y) (omega arith)

pub bit-or : (b m n : ℕ) → bit_at b (bit_or m n) ≡ max (bit_at b m) (bit_at b n)
unfolding bit_at
bit-or b m n = rw (or_shr m n b) (low_or _ _)

pub zero_bit : (b : ℕ) → bit_at b 0 ≡ 0
unfolding bit_at
zero_bit b = rw (zero-div (2 ^ b))

pub bit-weigh : (b w : ℕ) (test : Bool) → bit_at b (weigh test w) ≡ weigh test (bit_at b w)
bit-weigh b w true = refl
bit-weigh b w false = zero_bit b

weigh-zero : (test : Bool) → weigh test 0 ≡ 0
weigh-zero true = refl
weigh-zero false = refl

-- ---- STAT, by its nine tests: bit by bit

module _ (tu to eu eo cu co su so f : Bool) where
  of-tests : ℕ
  of-tests =
      bit_or (bit_or (weigh tu 4) (weigh to 8))
      (bit_or (bit_or (weigh eu 16) (weigh eo 32))
      (bit_or (bit_or (weigh cu 64) (weigh co 128))
      (bit_or (bit_or (weigh su 256) (weigh so 512)) (weigh f 2048))))

  every-bit : (b : ℕ) → bit_at b of-tests ≡ max (max (weigh tu (bit_at b 4)) (weigh to (bit_at b 8)))
      (max (max (weigh eu (bit_at b 16)) (weigh eo (bit_at b 32)))
      (max (max (weigh cu (bit_at b 64)) (weigh co (bit_at b 128)))
      (max (max (weigh su (bit_at b 256)) (weigh so (bit_at b 512))) (weigh f (bit_at b 2048)))))
  unfolding of-tests
  every-bit b = simp (bit-or, bit-weigh)

  pub record ByTests (n : ℕ) : Type 0 where
    pub tempur_is : bit_at tempur n ≡ weigh tu 1
    pub tempor_is : bit_at tempor n ≡ weigh to 1
    pub ecomur_is : bit_at ecomur n ≡ weigh eu 1
    pub ecomor_is : bit_at ecomor n ≡ weigh eo 1
    pub crawur_is : bit_at crawur n ≡ weigh cu 1
    pub crawor_is : bit_at crawor n ≡ weigh co 1
    pub sysur_is : bit_at sysur n ≡ weigh su 1
    pub sysor_is : bit_at sysor n ≡ weigh so 1
    pub lcinteg_is : bit_at lcinteg n ≡ weigh f 1

  by_tests : ByTests of-tests
  unfolding bit_at
  by_tests = record {
    tempur_is = every-bit 2 ∙ simp weigh-zero (omega arith);
    tempor_is = every-bit 3 ∙ simp weigh-zero (omega arith);
    ecomur_is = every-bit 4 ∙ simp weigh-zero (omega arith);
    ecomor_is = every-bit 5 ∙ simp weigh-zero (omega arith);
    crawur_is = every-bit 6 ∙ simp weigh-zero (omega arith);
    crawor_is = every-bit 7 ∙ simp weigh-zero (omega arith);
    sysur_is = every-bit 8 ∙ simp weigh-zero (omega arith);
    sysor_is = every-bit 9 ∙ simp weigh-zero (omega arith);
    lcinteg_is = every-bit 11 ∙ simp weigh-zero (omega arith);
  }

-- a bit that weighs a test is raised exactly when the test holds
raised-test : (test : Bool) (b n : ℕ) → bit_at b n ≡ weigh test 1 → Raised b n ↔ (test ≡ true)
raised-test true b n e = ((λ _. refl), (λ _. e))
raised-test false b n e = ((λ r. absurd (omega (arith, e, r))), (λ t. absurd (is_true t)))

pub raised_lt : (x y : ℤ) (b n : ℕ) → bit_at b n ≡ weigh (lt_z x y) 1 → Raised b n ↔ x <ℤ y
raised_lt x y b n e = let r = raised-test (lt_z x y) b n e in ((λ h. lt_yes (r.0 h)), (λ h. r.1 (yes_lt h)))

pub raised-eq : (x y b n : ℕ) → bit_at b n ≡ weigh (eqb x y) 1 → Raised b n ↔ (x ≡ y)
raised-eq x y b n e = let r = raised-test (eqb x y) b n e in ((λ h. eqb-true x y (r.0 h)), (λ h. r.1 (eq-eqb x y h)))

-- ---- the reading's

pub stat-bits : (c : Calibration) (elec temp : ℤ) (integrity : ℕ) →
    ByTests (lt_z temp (neg_ℤ (pos 3276800))) (lt_z (pos 5898240) temp) (lt_z elec (neg_ℤ (pos 7864320))) (lt_z (pos 7864320) elec)
    (lt_z (raw_cell c elec temp) c.cell.cmin) (lt_z c.cell.cmax (raw_cell c elec temp))
    (lt_z (raw_system c elec temp) c.system.smin) (lt_z c.system.smax (raw_system c elec temp)) (eqb integrity 1)
    (stat c elec temp integrity)
unfolding stat_of of-tests
stat-bits c elec temp integrity = by_tests _ _ _ _ _ _ _ _ _

-- ---- and no others: STAT has 16 bits

weigh-small : (test : Bool) (w : ℕ) → T (ltb w (2 ^ 16)) → weigh test w < 2 ^ 16
weigh-small true w t = ltb→lt w (2 ^ 16) t
weigh-small false w t = omega arith

range_small : (lo hi x : ℤ) (under over : ℕ) → T (ltb under (2 ^ 16)) → T (ltb over (2 ^ 16)) → range lo hi x under over < 2 ^ 16
range_small lo hi x under over t u = or_lt 16 _ _ (weigh-small (lt_z x lo) under t) (weigh-small (lt_z hi x) over u)

pub stat-small : (c : Calibration) (elec temp : ℤ) (integrity : ℕ) → stat c elec temp integrity < 2 ^ 16
unfolding stat_of
stat-small c elec temp integrity =
    or_lt 16 _ _ (range_small temp_under temp_over temp 4 8 tt tt)
    (or_lt 16 _ _ (range_small elec_under elec_over elec 16 32 tt tt)
    (or_lt 16 _ _ (range_small c.cell.cmin c.cell.cmax (raw_cell c elec temp) 64 128 tt tt)
    (or_lt 16 _ _ (range_small c.system.smin c.system.smax (raw_system c elec temp) 256 512 tt tt)
    (weigh-small (eqb integrity 1) 2048 tt))))
