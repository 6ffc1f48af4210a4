-- A float as a register receives it (01, "The bus"; Change 1): "A value that is not finite, or before rounding beyond its range
-- .., or a count or FFST that is not whole, is 16."
use Rattle.std.specs.Prelude.{Bool, cond, ◌&&◌, ◌||◌, ℕ, ◌*◌, ◌^◌, ◌%◌, ltb, eqb, ℤ, pos, neg_ℤ, nat_abs, ◌*ℤ◌, Float}
use Rattle.std.specs.Int.Signed.{le_z}
use Rattle.std.specs.Float.{nan, inf, fin}
use Rattle.std.specs.Float.Ieee.{up, down}
use Rattle.std.specs.Float.Ieee.Scale.{finite}
use Rattle.arithmetic.specs.Round.{round_div}
use Rattle.arithmetic.specs.Fraction.{Fraction, whole, ◌over◌}
use Rattle.binary32.specs.declared.received.Range.{Range}

abbrev pub signed : Bool → ℕ → ℤ
signed s n = cond s (neg_ℤ (pos n)) (pos n)

-- the exact value of a finite float, m × 2ᵉ, as a fraction (a NaN and the infinities have none: what stands there is never used)
abbrev pub exact : Float → Fraction
exact nan = whole (pos 0)
exact (inf s) = whole (pos 0)
exact (fin s m e) = signed s (m * up e) over pos (down e)

-- x × 2^shift from `least` to `most`, the ends included; at shift 0 a whole number
unfoldable pub takes : Range → Float → Bool
takes r x =
    finite x
    && le_z (r.least *ℤ (exact x).low) ((exact x).top *ℤ pos (2 ^ r.shift))
    && le_z ((exact x).top *ℤ pos (2 ^ r.shift)) (r.most *ℤ (exact x).low)
    && (ltb 0 r.shift || eqb (nat_abs (exact x).top % nat_abs (exact x).low) 0)

-- round(x × 2^shift), by the one rule of rounding
unfoldable pub nearest : ℕ → Float → ℤ
nearest shift x = round_div ((exact x).top *ℤ pos (2 ^ shift)) (exact x).low

-- what a write of x makes of the register; 0 for an unfit x, which is never written
unfoldable pub counted : Range → Float → ℤ
counted r x = cond (takes r x) (nearest r.shift x) (pos 0)

-- "SZ takes ±32,000", in steps
abbrev pub zero_range : Range
zero_range = record { shift = 16; least = neg_ℤ (pos 2097152000); most = pos 2097152000 }
