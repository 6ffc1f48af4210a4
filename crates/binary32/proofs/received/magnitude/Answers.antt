-- `binary32::received::magnitude` meets its contract: it is `units`, test by test. Assumes nothing.
use mathlib.Core.Path.{◌≡◌}
use native.Mathlib.Nat.{mod-eq_of_lt, lt_of_lt_of_le}
use native.Mathlib.Omega.{arith}
use borrow.Author.Tests.{lt-ltb, le-ltb, le-leb, lt-leb, eq-eqb, ne_eqb}
use Prim.Native.Nat.{ℕ, ◌+◌, ◌-◌, ◌*◌, ◌%◌, ◌^◌, ◌≤◌, ◌<◌}
use lib.Pow.{pow_mono, shl_lt}
use Rattle.binary32.specs.Units.{units}
use Rattle.binary32.proofs.received.magnitude.Goals as goal

-- no digit is shifted out
kept : (d place : ℕ) → d < 2 ^ 24 → place ≤ 161 → d * 2 ^ (place - 125) % 2 ^ 64 ≡ d * 2 ^ (place - 125)
kept d place h l = mod-eq_of_lt (lt_of_lt_of_le (shl_lt 24 (place - 125) h) (pow_mono (room place l)))
  where
    room : (place : ℕ) → place ≤ 161 → 24 + (place - 125) ≤ 64
    room place l = omega arith

pub returns-then-place-gt161 : goal.returns-then-place-gt161
unfolding units
returns-then-place-gt161 c = simp (lt-ltb _ _ c.if-place-gt161.true)

pub returns-then-place-ge125 : goal.returns-then-place-ge125
unfolding units
returns-then-place-ge125 c = simp (le-ltb _ _ c.if-place-gt161.false, le-leb _ _ c.if-place-ge125.true) (kept _ _ (omega arith) (omega arith))

pub returns-then-pattern-eq0 : goal.returns-then-pattern-eq0
unfolding units
returns-then-pattern-eq0 c = simp (le-ltb _ _ c.if-place-gt161.false, lt-leb _ _ c.if-place-ge125.false, eq-eqb _ _ c.if-pattern-eq0.true)

pub returns : goal.returns
unfolding units
returns c = simp (le-ltb _ _ c.if-place-gt161.false, lt-leb _ _ c.if-place-ge125.false, ne_eqb _ _ c.if-pattern-eq0.false)
